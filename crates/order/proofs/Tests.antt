-- One of some nodes, or below one: node by node.
use mathlib.Core.Path.{◌≡◌, refl, ap}
use mathlib.Core.Bool.{Bool, ◌||◌}
use mathlib.Core.List.{List, [], ◌∷◌}
use Prim.Native.Nat.{ℕ}
use lib.Dec.{eqb}
use Rattle.std.specs.List.{list_any}
use Rattle.rules.specs.Lists.{any}
use Rattle.rules.specs.Tree.{Frame}
use Rattle.rules.specs.Listing.{within}

pub within_one : (f : Frame) (l : List ℕ) (x : ℕ) → list_any (λ (p : ℕ). eqb x p || f.below p x) l ≡ within f l x
unfolding within any
within_one f [] x = refl
within_one f (p ∷ l) x = ap (λ (b : Bool). eqb x p || f.below p x || b) (within_one f l x)
