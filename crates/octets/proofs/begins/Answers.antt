-- `begins` meets its contract: `starts_with` is the same test.
use Rattle.std.proofs.Common.{◌∙◌}
use Rattle.octets.proofs.Slices.{pointwise_begins}
use Rattle.octets.proofs.begins.Goals as goal

pub returns : goal.returns
returns c = c.starts_with.ensures.value ∙ pointwise_begins c.args.p.now c.args.s.now
