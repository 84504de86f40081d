use Rattle.std.proofs.Common.{rules}
use Rattle.streams.proofs.Printed.{hex_printed}
use Rattle.streams.proofs.print_hex.Goals as goal

pub returns : goal.returns
returns g c = search (rules, hex_printed)
