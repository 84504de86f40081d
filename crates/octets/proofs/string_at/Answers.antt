-- `string_at` meets its contract.
use mathlib.Core.Path.{ap, ◌∙◌}
use Prim.Native.Nat.{ℕ}
use Rattle.rules.specs.Octets.{part}
use Rattle.rules.specs.Events.{string_at}
use Rattle.octets.proofs.string_at.Goals as goal

pub returns : goal.returns
unfolding string_at
returns c = c.part.ensures ∙ ap (λ (n : ℕ). part c.args.s.now c.args.at n) c.nul.ensures
