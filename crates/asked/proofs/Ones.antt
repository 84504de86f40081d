-- The search of a slice for a node.
use mathlib.Core.Path.{◌≡◌, refl, ap₂}
use mathlib.Core.Bool.{Bool, ◌||◌}
use mathlib.Core.List.{List, [], ◌∷◌}
use Prim.Native.Nat.{ℕ}
use lib.Dec.{eqb}
use Rattle.std.specs.List.{list_any}
use Rattle.rules.specs.Lists.{one_of}
use Rattle.rules.proofs.Laws.Tests.{eqb_sym}

pub any_one : (i : ℕ) (nodes : List ℕ) → list_any (λ (node : ℕ). eqb node i) nodes ≡ one_of i nodes
unfolding one_of
any_one i [] = refl
any_one i (node ∷ nodes) = ap₂ (λ (p q : Bool). p || q) (eqb_sym node i) (any_one i nodes)
