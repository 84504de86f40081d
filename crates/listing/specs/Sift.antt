-- What is taken out of the list.
use Rattle.std.specs.Prelude.{◌≡◌, Bool, not, ◌&&◌, List, ◌++◌, ℕ, ◌+◌, ◌≤◌, eqb, length, get_or, drop}
use Rattle.rules.specs.Ceilings.{node_ceiling, work_words}
use Rattle.rules.specs.Blob.{Block}
use Rattle.rules.specs.Lists.{keep}
use Rattle.rules.specs.Tree.{frame}
use Rattle.rules.specs.Listing.{within}
use Rattle.rules.specs.Space.{list_at, list_in}
use Rattle.rules.specs.Laws.Tabled.{tree_in}
use Rattle.listing.specs.State.{Apart}

-- neither the root, nor excluded, nor below an exclusion
abbrev pub spared : Block → List ℕ → ℕ → (excl : List ℕ) → ℕ → Bool
spared b ws count excl x = not (eqb x 0) && not (within (frame (tree_in b ws count)) excl x)

-- the first i of n are sifted, and j of them stay; the others stand as they did
pub record Sifts (b : Block) (ws : List ℕ) (count : ℕ) (excl : List ℕ) (n : ℕ) (vs : List ℕ) (i j : ℕ) : Type 0 where
  pub few : count ≤ node_ceiling
  pub room : work_words ≤ length ws
  pub apart : Apart ws vs
  pub upto : j ≤ i
  pub list : list_in vs j ++ keep (spared b ws count excl) (drop i (list_in ws n)) ≡ keep (spared b ws count excl) (list_in ws n)
  pub ahead : (k : ℕ) → i ≤ k → get_or vs (list_at + k) 0 ≡ get_or ws (list_at + k) 0

pub record Sifted (b : Block) (ws : List ℕ) (count : ℕ) (excl : List ℕ) (n : ℕ) (vs : List ℕ) (m : ℕ) : Type 0 where
  pub apart : Apart ws vs
  pub short : m ≤ n
  pub list : list_in vs m ≡ keep (spared b ws count excl) (list_in ws n)
