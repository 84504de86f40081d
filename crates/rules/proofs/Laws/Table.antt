-- The node table of a blob that is accepted: its rows are the nodes', its first node is the root, a parent's number is smaller
-- than its node's, and there are no more nodes than the ceiling.
use Rattle.std.specs.Prelude.{◌≡◌, refl, Bool, List, [], ◌∷◌, ℕ, zero, suc, ◌+◌, ◌*◌, ◌≤◌, ◌<◌, length, get_or}
use Rattle.std.proofs.Common.{ap, ◌∙◌, arith, length-append, get_or-append-add}
use Rattle.std.proofs.Math.Option.{Option, none, some}
use Rattle.std.proofs.Math.ListN.{get_or-append}
use Rattle.rules.specs.Ceilings.{node_ceiling}
use Rattle.rules.specs.Octets.{Bytes}
use Rattle.rules.specs.Outcome.{passes}
use Rattle.rules.specs.Blob.{Block, block_in}
use Rattle.rules.specs.Events.{Event, shape_judged, events_in}
use Rattle.rules.specs.Tree.{Node, Tree, node, nodes_from, nodes_of, phandle_of}
use Rattle.rules.specs.Reader.{events_read, tree_read, blob_judged, row_of, rows_of}
use Rattle.rules.proofs.Laws.Shape.{some_nodes}
use Rattle.rules.proofs.Laws.Nested.{Nested, finished, root, child, holds, shuts, events_pass, events_nested}
use Rattle.rules.proofs.Laws.Formed.{accepted, read_formed, empty_name}
use Rattle.rules.specs.Laws.Constants.{NODE_WORDS}

-- ---- a row for each node

row_length : (n : Node) → length (row_of n) ≡ NODE_WORDS
unfolding row_of
row_length n = by (phandle_of n)
  where
    by : (o : Option ℕ) → length {A = ℕ} (elim o [ none ↦ n.place ∷ n.parent ∷ 0 ∷ 0 ∷ [] | some v ↦ n.place ∷ n.parent ∷ 1 ∷ v ∷ [] ]) ≡ NODE_WORDS
    by none = refl
    by (some v) = refl

pub rows_length : (t : Tree) → length (rows_of t) ≡ NODE_WORDS * length t
unfolding rows_of
rows_length [] = refl
rows_length (n ∷ ns) = omega (arith, length-append (row_of n) (rows_of ns), row_length n, rows_length ns)

-- the k-th word of node i's row
pub row_word : (t : Tree) (i k : ℕ) → i < length t → k < NODE_WORDS → get_or (rows_of t) (NODE_WORDS * i + k) 0 ≡ get_or (row_of (node t i)) k 0
unfolding rows_of
row_word [] i k h l = absurd (let z : ⊥ = omega arith in z)
row_word (n ∷ ns) zero k h l =
    let e : NODE_WORDS * 0 + k ≡ k = omega arith in
    rw e (get_or-append (row_of n) (rows_of ns) 0 k (omega (arith, row_length n)))
row_word (n ∷ ns) (suc i) k h l =
    let e : NODE_WORDS * suc i + k ≡ length (row_of n) + (NODE_WORDS * i + k) = omega (arith, row_length n) in
    rw e (get_or-append-add (row_of n) (rows_of ns) (NODE_WORDS * i + k) 0 ∙ row_word ns i k (omega arith) l)

row_begin : (n : Node) → (get_or (row_of n) 0 0 ≡ n.place) × (get_or (row_of n) 1 0 ≡ n.parent)
unfolding row_of
row_begin n = by (phandle_of n)
  where
    row : Option ℕ → List ℕ
    row o = elim o [ none ↦ n.place ∷ n.parent ∷ 0 ∷ 0 ∷ [] | some v ↦ n.place ∷ n.parent ∷ 1 ∷ v ∷ [] ]

    by : (o : Option ℕ) → (get_or (row o) 0 0 ≡ n.place) × (get_or (row o) 1 0 ≡ n.parent)
    by none = (refl, refl)
    by (some v) = (refl, refl)

-- "BEGIN offset, parent's number"
pub row_place : (t : Tree) (i : ℕ) → i < length t → get_or (rows_of t) (NODE_WORDS * i) 0 ≡ (node t i).place
row_place t i h =
    let e : NODE_WORDS * i ≡ NODE_WORDS * i + 0 = omega arith in
    ap (λ (k : ℕ). get_or (rows_of t) k 0) e ∙ row_word t i 0 h (omega arith) ∙ (row_begin (node t i)).0

pub row_parent_lem : (t : Tree) (i : ℕ) → i < length t → get_or (rows_of t) (NODE_WORDS * i + 1) 0 ≡ (node t i).parent
row_parent_lem t i h = row_word t i 1 h (omega arith) ∙ (row_begin (node t i)).1

-- "1 or 0 for a phandle, the phandle or 0"
pub row_given_lem : (t : Tree) (i v : ℕ) → i < length t → phandle_of (node t i) ≡ some v → (get_or (rows_of t) (NODE_WORDS * i + 2) 0 ≡ 1) × (get_or (rows_of t) (NODE_WORDS * i + 3) 0 ≡ v)
unfolding row_of
row_given_lem t i v h e = (row_word t i 2 h (omega arith) ∙ rw (e, row_of), row_word t i 3 h (omega arith) ∙ rw (e, row_of))

pub row_none : (t : Tree) (i : ℕ) → i < length t → phandle_of (node t i) ≡ none → (get_or (rows_of t) (NODE_WORDS * i + 2) 0 ≡ 0) × (get_or (rows_of t) (NODE_WORDS * i + 3) 0 ≡ 0)
unfolding row_of
row_none t i h e = (row_word t i 2 h (omega arith) ∙ rw (e, row_of), row_word t i 3 h (omega arith) ∙ rw (e, row_of))

-- ---- the nodes of a shape that passes

few : {ended : Bool} {stack : List ℕ} {count : ℕ} {es : List Event} → Nested ended stack count es → count ≤ node_ceiling → count + length (nodes_from stack count es) ≤ node_ceiling
unfolding nodes_from
few (finished n) h = omega arith
few (root z e n) h = omega (arith, some_nodes, few n (omega (arith, some_nodes)))
few (child e f g n) h = omega (arith, few n (omega arith))
few (holds e n) h = few n h
few (shuts n) h = few n h

pub nodes_few : (b : Block) → shape_judged b ≡ passes → length (nodes_of (events_in b)) ≤ node_ceiling
unfolding nodes_of
nodes_few b h = omega (arith, few (events_nested (events_in b) (events_pass b h)) (omega (arith, some_nodes)))

-- the first is the root
pub record Rooted (t : Tree) : Type 0 where
  pub some : 0 < length t
  pub name : (node t 0).name ≡ []
  pub parent : (node t 0).parent ≡ 0

rooted : {ended : Bool} {count : ℕ} {es : List Event} → count ≡ 0 → Nested ended [] count es → Rooted (nodes_from [] count es)
unfolding nodes_from
rooted z (finished n) = absurd (n z)
rooted z (root {name = name} y e n) = record { some = omega arith; name = empty_name name e; parent = refl }

pub nodes_rooted : (b : Block) → shape_judged b ≡ passes → Rooted (nodes_of (events_in b))
unfolding nodes_of
nodes_rooted b h = rooted refl (events_nested (events_in b) (events_pass b h))

-- ---- THE TABLE OF A BLOB THAT IS ACCEPTED

pub record Table (b : Bytes) : Type 0 where
  pub few : length (tree_read b) ≤ node_ceiling
  pub rooted : Rooted (tree_read b)
  pub up : (i : ℕ) → suc i < length (tree_read b) → get_or (rows_of (tree_read b)) (NODE_WORDS * suc i + 1) 0 < suc i
  pub place : (i : ℕ) → i < length (tree_read b) → get_or (rows_of (tree_read b)) (NODE_WORDS * i) 0 ≡ (node (tree_read b) i).place
  pub parent : (i : ℕ) → i < length (tree_read b) → get_or (rows_of (tree_read b)) (NODE_WORDS * i + 1) 0 ≡ (node (tree_read b) i).parent

pub read_table : (b : Bytes) → blob_judged b ≡ passes → Table b
unfolding tree_read events_read
read_table b h =
    let a = accepted b h in
    record {
      few = nodes_few (block_in b) a.shape;
      rooted = nodes_rooted (block_in b) a.shape;
      up = λ i k. omega (arith, row_parent_lem (tree_read b) (suc i) k, (read_formed b h).up i k);
      place = row_place (tree_read b);
      parent = row_parent_lem (tree_read b);
    }
