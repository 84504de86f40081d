-- `ends` meets its contract: `ends_with` is the same test.
use Rattle.std.proofs.Common.{◌∙◌}
use Rattle.octets.proofs.Slices.{pointwise_ends}
use Rattle.octets.proofs.ends.Goals as goal

pub returns : goal.returns
returns c = c.ends_with.ensures.value ∙ pointwise_ends c.args.e.now c.args.s.now
