-- 01, "The blob, as read": what the reader answers, and what it leaves in its work space.
use Rattle.std.specs.Prelude.{List, [], ◌∷◌, ◌++◌, ℕ, ◌-◌, ltb, length, if◌then◌else◌}
use Rattle.std.proofs.Math.Option.{none, some}
use Rattle.rules.specs.Ceilings.{work_words}
use Rattle.rules.specs.Octets.{Bytes, zeros, put}
use Rattle.rules.specs.Outcome.{Outcome, Verdict, gives, refuses, ◌then◌, first}
use Rattle.rules.specs.Blob.{header_judged, block_in}
use Rattle.rules.specs.Events.{Event, shape_judged, events_in}
use Rattle.rules.specs.Tree.{Node, Tree, nodes_of, doubled_judged, words_judged, shared_judged, phandle_of}

-- the events and the nodes of a blob
unfoldable pub events_read : Bytes → List Event
events_read b = events_in (block_in b)

unfoldable pub tree_read : Bytes → Tree
tree_read b = nodes_of (events_read b)

-- 1 to 12: "6 to 9 are judged token by token ... Then 10, 11 and 12 each take a pass of their own."
unfoldable pub blob_judged : Bytes → Verdict
blob_judged b =
    header_judged b
    then shape_judged (block_in b)
    then doubled_judged (tree_read b)
    then words_judged (tree_read b)
    then shared_judged (tree_read b)

-- "fewer than 16,384 words is 40, place 0, before 1"
unfoldable pub space_judged : (words : ℕ) → Verdict
space_judged words = first (record { fails = ltb words work_words; number = 40; place = 0 } ∷ [])

-- "It answers the node count"
unfoldable pub read : Bytes → (words : ℕ) → Outcome ℕ
read b words = space_judged words then blob_judged b then gives (length (tree_read b))

-- "four words a node, in blob order: BEGIN offset, parent's number (root: 0), 1 or 0 for a phandle, the phandle or 0"
unfoldable pub row_of : Node → List ℕ
row_of n = elim (phandle_of n) [ none ↦ n.place ∷ n.parent ∷ 0 ∷ 0 ∷ [] | some v ↦ n.place ∷ n.parent ∷ 1 ∷ v ∷ [] ]

unfoldable pub rows_of : Tree → List ℕ
rows_of [] = []
rows_of (n ∷ ns) = row_of n ++ rows_of ns

-- words, zeros up to the end of the work space, and beyond that what was there
unfoldable pub space_of : (words work : List ℕ) → List ℕ
space_of words work = put work 0 (words ++ zeros (work_words - length words))

abbrev pub table_of : Verdict → Tree → List ℕ
table_of (gives u) t = rows_of t
table_of (refuses number place) t = []

-- "The other words of the first 16,384, or all of them after 1 to 12, are zero; later words stay." After 40 nothing is touched.
unfoldable pub read_work : Bytes → (work : List ℕ) → List ℕ
read_work b work = if ltb (length work) work_words then work else space_of (table_of (blob_judged b) (tree_read b)) work
