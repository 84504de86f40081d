-- The work space of a derivation behind the node table: a table of named offsets, in words. 01 fixes the node table and what is left
-- at return; in between these parts hold marks, the list and its order. They follow one another and do not overlap.
use Rattle.std.specs.Prelude.{List, ℕ, ◌+◌, ◌*◌, take, drop}
use Rattle.rules.specs.Ceilings.{node_ceiling, node_words}

-- the node table's words
unfoldable pub table_words : ℕ
table_words = node_ceiling * node_words

-- a word for each node: whether it is reached, and later whether it is copied
unfoldable pub marks_at : ℕ
marks_at = table_words

-- the nodes reached, and later the nodes listed, in order
unfoldable pub list_at : ℕ
list_at = marks_at + node_ceiling

-- the start nodes in byte order of path, which become the work that is left to do, the last on top; then what a child takes from its
-- parent of whether it is copied; then, up to the end of the work space, the names that a copy has used
unfoldable pub stack_at : ℕ
stack_at = list_at + node_ceiling

-- a word for each node: whether it is above a listed one. It is read before the names are laid over it.
unfoldable pub names_at : ℕ
names_at = stack_at + node_ceiling

-- the first n nodes of the list, and of the stack, whose top is the last
unfoldable pub list_in : List ℕ → ℕ → List ℕ
list_in ws n = take n (drop list_at ws)

unfoldable pub stack_in : List ℕ → ℕ → List ℕ
stack_in ws s = take s (drop stack_at ws)
