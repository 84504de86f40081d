-- The rows of a node table as the walk leaves them. The laws of the reader's work space stand in proofs/Laws/Reader.antt.
use Rattle.std.specs.Prelude.{List, [], ◌∷◌, ◌++◌, ℕ}
use Rattle.rules.specs.Tree.{Tree}

-- ---- rows

-- a row as the walk leaves it: its phandle is written by a later pass
abbrev pub start_of : (place parent : ℕ) → List ℕ
start_of place parent = place ∷ parent ∷ 0 ∷ 0 ∷ []

unfoldable pub starts_of : Tree → List ℕ
starts_of [] = []
starts_of (n ∷ ns) = start_of n.place n.parent ++ starts_of ns
