-- The work space while nodes are listed: the list of nodes, a mark for each node that is on it, and the stack of nodes to visit.
use Rattle.std.specs.Prelude.{◌≡◌, Bool, List, [], ◌∷◌, ◌++◌, ℕ, ◌+◌, ◌≤◌, ◌<◌, length, get_or, if◌then◌else◌}
use Rattle.rules.specs.Ceilings.{node_ceiling, work_words}
use Rattle.rules.specs.Octets.{lay}
use Rattle.rules.specs.Lists.{one_of, fresh}
use Rattle.rules.specs.Listing.{◌∈◌}
use Rattle.rules.specs.Space.{table_words, marks_at, list_at, list_in, stack_in}
use Rattle.rules.specs.Laws.Lists.{Distinct}
use Rattle.rules.specs.Laws.Kept.{Only}

-- node x marked and put behind the first n of the list
unfoldable pub entered : List ℕ → (n x : ℕ) → List ℕ
entered ws n x = lay (lay ws (marks_at + x) (1 ∷ [])) (list_at + n) (x ∷ [])

-- nothing is written but behind the node table and inside the work space
abbrev pub Apart : (ws vs : List ℕ) → Type 0
Apart ws vs = Only table_words work_words ws vs

abbrev pub mark : Bool → ℕ
mark noted = if noted then 1 else 0

-- the nodes with a mark are those of the list, each once
pub record Marked (ws : List ℕ) (count n : ℕ) : Type 0 where
  pub few : count ≤ node_ceiling
  pub room : work_words ≤ length ws
  pub short : n ≤ count
  pub once : Distinct (list_in ws n)
  pub small : (x : ℕ) → x ∈ list_in ws n → x < count
  pub marks : (i : ℕ) → i < count → get_or ws (marks_at + i) 0 ≡ mark (one_of i (list_in ws n))

-- and no more nodes are on the stack than on the list
pub record Piled (ws : List ℕ) (count n s : ℕ) : Type 0 where
  pub marked : Marked ws count n
  pub least : s ≤ n
  pub nodes : (x : ℕ) → x ∈ stack_in ws s → x < count

-- From ws to vs, with n and then m nodes listed: those of `all` that were new have been listed, but for what is new of `left`. The
-- stack stays.
pub record Gains (count : ℕ) (ws : List ℕ) (n : ℕ) (all vs : List ℕ) (m : ℕ) (left : List ℕ) : Type 0 where
  pub apart : Apart ws vs
  pub marked : Marked vs count m
  pub list : list_in vs m ++ fresh (list_in vs m) left ≡ list_in ws n ++ fresh (list_in ws n) all
  pub stack : (s : ℕ) → stack_in vs s ≡ stack_in ws s

-- The same with each put on the stack, which had s nodes and has k.
pub record Stacks (count : ℕ) (ws : List ℕ) (n s : ℕ) (all vs : List ℕ) (m k : ℕ) (left : List ℕ) : Type 0 where
  pub apart : Apart ws vs
  pub piled : Piled vs count m k
  pub list : list_in vs m ++ fresh (list_in vs m) left ≡ list_in ws n ++ fresh (list_in ws n) all
  pub stack : stack_in vs k ++ fresh (list_in vs m) left ≡ stack_in ws s ++ fresh (list_in ws n) all
  pub level : m + s ≡ n + k
