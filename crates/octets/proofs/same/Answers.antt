-- `same` meets its contract: `==` is the same test.
use Rattle.std.proofs.Common.{◌∙◌}
use Rattle.octets.proofs.Slices.{pointwise_same}
use Rattle.octets.proofs.same.Goals as goal

pub returns : goal.returns
returns c = c.eq.ensures ∙ pointwise_same c.args.a.now c.args.b.now
