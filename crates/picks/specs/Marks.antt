-- Marks, one word a node, and the list that they are made from.
use Rattle.std.specs.Prelude.{◌≡◌, Bool, List, ℕ, ◌+◌, ◌≤◌, ◌<◌, eqb, get_or}
use Rattle.rules.specs.Ceilings.{node_ceiling, work_words}
use Rattle.rules.specs.Blob.{Block}
use Rattle.rules.specs.Lists.{one_of, any}
use Rattle.rules.specs.Tree.{below}
use Rattle.rules.specs.Space.{marks_at, list_at, stack_at, names_at}
use Rattle.rules.specs.Laws.Kept.{Kept, Only}
use Rattle.rules.specs.Laws.Tabled.{tree_in}

-- whether node x is marked, in the part that begins at a word
abbrev pub marked : List ℕ → (at x : ℕ) → Bool
marked ws at x = eqb (get_or ws (at + x) 0) 1

-- the list's own words stay
abbrev pub Listed : (ws vs : List ℕ) → Type 0
Listed ws vs = (i : ℕ) → list_at ≤ i → i < stack_at → get_or vs i 0 ≡ get_or ws i 0

-- some block, for which the work space keeps the table
abbrev pub Keeps : List ℕ → (count : ℕ) → Type 0
Keeps ws count = (b : Block) × Kept b ws count

-- no mark is set
pub record Unmarked (ws : List ℕ) : Type 0 where
  pub own : (i : ℕ) → i < node_ceiling → get_or ws (marks_at + i) 0 ≡ 0
  pub over : (i : ℕ) → i < node_ceiling → get_or ws (names_at + i) 0 ≡ 0

-- marks of these nodes, and of those above them
pub record Noted (count : ℕ) (ws vs : List ℕ) (done : List ℕ) : Type 0 where
  pub only : Only marks_at work_words ws vs
  pub list : Listed ws vs
  pub own : (x : ℕ) → x < count → marked vs marks_at x ≡ one_of x done
  pub over : (b : Block) (x : ℕ) → x < count → marked vs names_at x ≡ any (below (tree_in b ws count) x) done
