-- `put_long` meets its contract.
use Rattle.std.proofs.Common.{ap, ◌∙◌}
use Rattle.rules.specs.Octets.{lay}
use Rattle.octets.proofs.Slices.{high_first}
use Rattle.octets.proofs.put_long.Goals as goal

pub returns : goal.returns
returns c = c.put.ensures ∙ ap (lay c.args.d.now c.args.at) (c.to_be_bytes.ensures ∙ high_first c.args.v)
