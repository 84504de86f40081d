-- The given nodes, as they are listed.
use Rattle.std.specs.Prelude.{◌≡◌, List, ◌∷◌, ◌++◌, ℕ}
use Rattle.rules.specs.Blob.{Block}
use Rattle.rules.specs.Lists.{keep}
use Rattle.rules.specs.Tree.{below}
use Rattle.rules.specs.Listing.{gather}
use Rattle.rules.specs.Laws.Tabled.{tree_in}
use Rattle.rules.specs.Space.{list_in, stack_in}
use Rattle.listing.specs.State.{Apart, Marked}

-- those of the start nodes, s of them, that are below node p
abbrev pub below_in : Block → List ℕ → (count s p : ℕ) → List ℕ
below_in b ws count s p = keep (below (tree_in b ws count) p) (stack_in ws s)

-- and node p before them
abbrev pub with_below : Block → List ℕ → (count s p : ℕ) → List ℕ
with_below b ws count s p = p ∷ below_in b ws count s p

-- From ws to vs, with n and then m nodes listed: what is new of each of `all` has been listed, but for what is new of each of
-- `left`. The stack stays.
pub record Gathers (count : ℕ) (ws : List ℕ) (n : ℕ) (of : ℕ → List ℕ) (all vs : List ℕ) (m : ℕ) (left : List ℕ) : Type 0 where
  pub apart : Apart ws vs
  pub marked : Marked vs count m
  pub list : list_in vs m ++ gather of (list_in vs m) left ≡ list_in ws n ++ gather of (list_in ws n) all
  pub stack : (s : ℕ) → stack_in vs s ≡ stack_in ws s
