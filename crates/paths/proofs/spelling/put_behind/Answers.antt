-- `put_behind` meets its contract: past the end nothing is laid in.
use mathlib.Core.Path.{sym}
use Prim.Native.Nat.{◌+◌}
use Rattle.std.proofs.Common.{arith}
use Rattle.std.proofs.lemmas.Grind.{common_steps}
use Rattle.rules.proofs.Laws.Octets.{lay_past}
use Rattle.paths.proofs.spelling.put_behind.Goals as goal

pub returns-in_default : goal.returns-in_default
returns-in_default c = sym (lay_past c.args.out.now (c.args.at + c.args.k) c.args.bytes.now (grind (arith, common_steps, c.in_default.ensures)))
