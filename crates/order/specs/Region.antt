-- Nodes in byte order of path, kept in the words of the work space from `stack_at` on.
use Rattle.std.specs.Prelude.{◌≡◌, true, false, List, ◌∷◌, ℕ, ◌+◌, ◌-◌, ◌≤◌, ◌<◌, length, get_or}
use Rattle.rules.specs.Octets.{part, lay, before}
use Rattle.rules.specs.Tree.{Tree, path}
use Rattle.rules.specs.Space.{stack_at}
use Rattle.rules.specs.Laws.Paths.{Formed}

-- the node at an index
abbrev pub nth_node : List ℕ → ℕ → ℕ
nth_node ws i = get_or ws (stack_at + i) 0

-- the first n are nodes of the tree, in byte order of path
pub record Ordered (t : Tree) (ws : List ℕ) (n : ℕ) : Type 0 where
  pub small : (i : ℕ) → i < n → nth_node ws i < length t
  pub rising : (i j : ℕ) → i < j → j < n → before (path t (nth_node ws i)) (path t (nth_node ws j)) ≡ true

-- those below `low` come before x, and those from `high` on do not
pub record Between (t : Tree) (ws : List ℕ) (n x low high : ℕ) : Type 0 where
  pub lower : (i : ℕ) → i < low → before (path t (nth_node ws i)) (path t x) ≡ true
  pub upper : (i : ℕ) → high ≤ i → i < n → before (path t (nth_node ws i)) (path t x) ≡ false

-- in a formed tree, where the nodes are in order: `at` of them come before x
abbrev pub Halves : Tree → (words : List ℕ) (count n x at : ℕ) → Type 0
Halves t ws count n x at = Formed t → Ordered t ws n → x < count → Between t ws n x at at

-- x is put at an index, and those from there up to the n-th move up by one
unfoldable pub inserted : List ℕ → (n at x : ℕ) → List ℕ
inserted ws n at x = lay ws (stack_at + at) (x ∷ part ws (stack_at + at) (n - at))
