-- `noted` meets its contract.
use mathlib.Core.Path.{◌≡◌, refl, ap₂, ◌∙◌}
use mathlib.Core.Bool.{◌||◌}
use mathlib.Core.List.{List, [], ◌∷◌}
use Prim.Native.Nat.{ℕ}
use lib.Dec.{eqb}
use lib.ListN.{take}
use Rattle.std.specs.List.{list_any}
use Rattle.rules.specs.Lists.{one_of}
use Rattle.rules.proofs.Laws.Tests.{eqb_sym}
use Rattle.judge.proofs.noted.Goals as goal

any_is_one_of : (v : ℕ) (xs : List ℕ) → list_any (λ (y : ℕ). eqb y v) xs ≡ one_of v xs
unfolding one_of
any_is_one_of v [] = refl
any_is_one_of v (x ∷ xs) = ap₂ (λ a b. a || b) (eqb_sym x v) (any_is_one_of v xs)

pub returns : goal.returns
returns c = c.contains.ensures.value ∙ any_is_one_of c.args.val (take c.args.n c.args.phandles.now)
