-- Siblings: a search over the rows, and the walk over the nodes that it belongs to.
use mathlib.Core.Path.{◌≡◌, refl, sym, ap, ap₂, ◌∙◌, subst}
use mathlib.Core.Bool.{Bool, true, false, ◌&&◌, ◌||◌}
use mathlib.Core.List.{List, [], ◌∷◌, ◌++◌}
use Prim.Native.Nat.{ℕ, zero, suc, ◌+◌, ◌-◌, ◌*◌, ◌/◌, ◌≤◌, ◌<◌}
use native.Mathlib.Numerals.{add-one}
use native.Mathlib.Omega.{arith}
use lib.Dec.{eqb, leb}
use lib.ListN.{length, get_or, take, drop, take-append-drop, get_or-eq_default}
use lib.Seq.{take_at, get_or-drop, get_or-take, length-take-le}
use borrow.Author.Tests.{eqb-true, eq-eqb, ne_eqb, lt-ltb, le-leb, lt-leb}
use Rattle.rules.specs.Ceilings.{node_words, node_ceiling, work_words}
use Rattle.rules.specs.Octets.{Bytes, byte_at, length_to, nul_in, same, begins}
use Rattle.rules.specs.Outcome.{Verdict, gives, refuses, passes, ◌then◌, first}
use Rattle.rules.specs.Blob.{Block, block_of}
use Rattle.rules.specs.Tokens.{token_at}
use Rattle.rules.specs.Events.{Event, saying, node_name_at}
use Rattle.rules.specs.Tree.{Node, Tree, node, props_of, top, rest, nodes_from, nodes_of, sibling, doubled_props, doubled_from, doubled_judged}
use Rattle.rules.specs.declared.Token.{Token}
use Rattle.rules.specs.declared.Token.TheVariants.{Item}
use Rattle.rules.specs.declared.Kind.{Kind}
use Rattle.rules.specs.declared.Kind.TheVariants.{Begin, EndNode, Prop, Nop}
use Rattle.rules.proofs.Laws.Tests.{by_test, by_le, both_ways, and_true, true_and, and_none, or_comm, eqb_sym}
use Rattle.rules.proofs.Laws.Octets.{nul_le, nul_byte, nul_before, begins_split, begins_append, same_eq, eq_same}
use Rattle.rules.proofs.Laws.Tokens.{begin_says}
use Rattle.rules.specs.Laws.Events.{events_at}
use Rattle.doubled.specs.Passes.{nodes_in, has_row, verdict}
use Rattle.std.specs.Prelude.{Option, Some, None}
use Rattle.doubled.specs.Sorted.{chunk_start}
use Rattle.doubled.specs.Props.{Clear}
use Rattle.doubled.specs.Siblings.{named_at, row_named, sibling_below, row_parent, node_judged, Table}
use Rattle.std.specs.List.{list_any, range_with_len}
use Rattle.octets.proofs.Slices.{begins_taken}
use Rattle.doubled.proofs.Ranges.{any_more}
use Rattle.doubled.proofs.Turns.{events_all, events_item, events_stop}

module _ (s : Bytes) (place : ℕ) (w : List ℕ) (parent : ℕ) (name : Bytes) where
  -- no row stands before the parent's
  siblings_none : (n : ℕ) → n ≤ parent → sibling_below s place w n parent name ≡ false
  unfolding sibling_below
  siblings_none zero h = refl
  siblings_none (suc n) h = rw (lt-leb parent n (omega arith)) (siblings_none n (omega arith))

  -- a search from the parent's row on
  abbrev found : ℕ → Bool
  found n = list_any (λ j. row_named s place w j parent name) (range_with_len parent (n - parent))

  found_none : (n : ℕ) → n ≤ parent → found n ≡ sibling_below s place w n parent name
  found_none n h = let e : n - parent ≡ 0 = omega arith in rw e (sym (siblings_none n h))

  found_more : (n : ℕ) → parent ≤ n → found n ≡ sibling_below s place w n parent name → found (suc n) ≡ sibling_below s place w (suc n) parent name
  unfolding sibling_below
  found_more n h k =
      let e : suc n - parent ≡ suc (n - parent) = omega arith in
      let f : parent + (n - parent) ≡ n = omega arith in
      rw (le-leb parent n h)
      (ap (λ (l : ℕ). list_any (λ j. row_named s place w j parent name) (range_with_len parent l)) e
      ∙ any_more (λ j. row_named s place w j parent name) parent (n - parent)
      ∙ ap₂ (λ (p q : Bool). p || q) k (ap (λ (l : ℕ). row_named s place w l parent name) f)
      ∙ or_comm (sibling_below s place w n parent name) (row_named s place w n parent name))

  pub siblings_any : (n : ℕ) → found n ≡ sibling_below s place w n parent name
  siblings_any zero = found_none zero (omega arith)
  siblings_any (suc n) = by_le parent n (λ h. found_more n h (siblings_any n)) (λ h. found_none (suc n) (omega arith))

-- ---- a name without NUL

abbrev pub NoNul : Bytes → Type 0
NoNul name = (i : ℕ) → i < length name → byte_at name i ≡ 0 → ⊥

nul_starts : (r : Bytes) → byte_at r 0 ≡ 0 → nul_in r ≡ 0
unfolding length_to
nul_starts [] e = refl
nul_starts (b ∷ r) e = rw (eq-eqb b 0 e, length_to)

nul_behind : (name r : Bytes) → NoNul name → byte_at r 0 ≡ 0 → nul_in (name ++ r) ≡ length name
unfolding length_to
nul_behind [] r h e = nul_starts r e
nul_behind (b ∷ name) r h e =
    rw (ne_eqb b 0 (h 0 (omega arith)), length_to) (ap suc (nul_behind name r (λ i k. h (suc i) (omega arith)) e))

-- the name up to the NUL
abbrev up_to : Bytes → Bytes
up_to r = take (nul_in r) r

named_same : (name r : Bytes) → NoNul name → begins name r ≡ true → byte_at r (length name) ≡ 0 → same name (up_to r) ≡ true
named_same name r h b z =
    let e : r ≡ name ++ drop (length name) r = begins_split name r b in
    let y : byte_at (drop (length name) r) 0 ≡ 0 = get_or-drop (length name) r 0 0 ∙ ap (byte_at r) (let a : length name + 0 ≡ length name = omega arith in a) ∙ z in
    let n : nul_in r ≡ length name = ap nul_in e ∙ nul_behind name (drop (length name) r) h y in
    eq_same name (up_to r) (sym (ap₂ (λ (k : ℕ) (l : Bytes). take k l) n e ∙ take_at name (drop (length name) r) (length name) refl))

nul_default : (r : Bytes) → byte_at r (nul_in r) ≡ 0
nul_default r = by_le (length r) (nul_in r) (λ h. get_or-eq_default r 0 h) (λ h. nul_byte r h)

same_named : (name r : Bytes) → name ≡ up_to r → named_at name r ≡ true
unfolding named_at
same_named name r e =
    let l : length name ≡ nul_in r = ap length e ∙ length-take-le (nul_in r) r (nul_le r) in
    let z : byte_at r (length name) ≡ 0 = ap (byte_at r) l ∙ nul_default r in
    let q : r ≡ name ++ drop (nul_in r) r = sym (take-append-drop (nul_in r) r) ∙ ap (λ (k : Bytes). k ++ drop (nul_in r) r) (sym e) in
    let b : begins name r ≡ true = ap (begins name) q ∙ begins_append name (drop (nul_in r) r) in
    true_and (begins name r) (eqb (byte_at r (length name)) 0) b (eq-eqb (byte_at r (length name)) 0 z)

module _ (name r : Bytes) where
  pub not_begun : begins name r ≡ false → named_at name r ≡ false
  unfolding named_at
  not_begun h = rw h refl

  -- where the first bytes are the name, the NUL tells
  pub taken_name : same name (take (length name) r) ≡ true → eqb (byte_at r (length name)) 0 ≡ named_at name r
  unfolding named_at
  taken_name h = rw (sym (begins_taken name r) ∙ h) refl

pub named_at_lem : (name r : Bytes) → NoNul name → named_at name r ≡ same name (up_to r)
unfolding named_at
named_at_lem name r h = both_ways (named_at name r) (same name (up_to r))
    (λ t. let b = and_true (begins name r) (eqb (byte_at r (length name)) 0) t in named_same name r h b.0 (eqb-true (byte_at r (length name)) 0 b.1))
    (λ t. same_named name r (same_eq name (up_to r) t))

-- the name of a node is one
pub no_nul : (r : Bytes) → NoNul (up_to r)
no_nul r i h e =
    let k : i < nul_in r = omega (arith, length-take-le (nul_in r) r (nul_le r)) in
    nul_before r i k (sym (get_or-take (nul_in r) r i 0 k) ∙ e)

-- ---- the walk

-- the open nodes stand before node n
abbrev Before : ℕ → List ℕ → Type 0
Before n [] = Unit {0}
Before n (i ∷ is) = (i ≤ n) × Before n is

before_top : (n : ℕ) (stack : List ℕ) → Before n stack → top stack ≤ n
before_top n [] h = omega arith
before_top n (i ∷ is) h = h.0

before_rest : (n : ℕ) (stack : List ℕ) → Before n stack → Before n (rest stack)
before_rest n [] h = tt
before_rest n (i ∷ is) h = h.1

before_more : (n : ℕ) (stack : List ℕ) → Before n stack → Before (suc n) stack
before_more n [] h = tt
before_more n (i ∷ is) h = (omega (arith, h.0), before_more n is h.1)

-- how far the walk has come: the open nodes, the nodes before, and that the rows say what those nodes say
pub record Come (s strings : Bytes) (place : ℕ) (w : List ℕ) (at count : ℕ) : Type 0 where
  pub stack : List ℕ
  pub seen : List Node
  pub behind : Before count stack
  pub rest : doubled_from seen (nodes_from stack count (events_at (block_of place s strings) at)) ≡ doubled_judged (nodes_in s strings place)
  pub ahead : nodes_from stack count (events_at (block_of place s strings) at) ≡ drop count (nodes_in s strings place)
  pub below : (n : Node) → NoNul n.name → sibling n seen ≡ sibling_below s place w count n.parent n.name

pub come_start : (s strings : Bytes) (place : ℕ) (w : List ℕ) → Come s strings place w 0 0
unfolding doubled_judged nodes_of sibling sibling_below
come_start s strings place w =
    let b = block_of place s strings in
    record {
      stack = [];
      seen = [];
      behind = tt;
      rest = ap (λ (es : List Event). doubled_from [] (nodes_from [] 0 es)) (events_all b);
      ahead = ap (nodes_from [] 0) (events_all b);
      below = λ n h. refl;
    }

nodes_none : (stack : List ℕ) (count : ℕ) → nodes_from stack count [] ≡ []
unfolding nodes_from
nodes_none stack count = refl

from_none : (seen : List Node) → doubled_from seen [] ≡ passes
unfolding doubled_from
from_none seen = refl

drop_cons_node : (k : ℕ) (t : Tree) (n : Node) (ns : List Node) → n ∷ ns ≡ drop k t → (k < length t) × (node t k ≡ n) × (ns ≡ drop (suc k) t)
drop_cons_node zero [] n ns e = let z : ◌≡◌ {A = ℕ} 0 1 = cc in absurd (omega arith)
drop_cons_node zero (x ∷ t) n ns e = (omega arith, cc, cc)
drop_cons_node (suc k) [] n ns e = let z : ◌≡◌ {A = ℕ} 0 1 = cc in absurd (omega arith)
drop_cons_node (suc k) (x ∷ t) n ns e = let r = drop_cons_node k t n ns e in (omega (arith, r.0), r.1, r.2)

from_step : (seen : List Node) (n : Node) (ns : List Node) (v : Verdict)
    → v ≡ (first (record { fails = sibling n seen; number = 10; place = n.place } ∷ []) then doubled_props [] n.props)
    → doubled_from seen (n ∷ ns) ≡ (v then doubled_from (n ∷ seen) ns)
unfolding doubled_from
from_step seen n ns v e = assoc (first (record { fails = sibling n seen; number = 10; place = n.place } ∷ [])) (doubled_props [] n.props) ∙ ap (λ (u : Verdict). u then doubled_from (n ∷ seen) ns) (sym e)
  where
    assoc : (a b : Verdict) → (a then (b then doubled_from (n ∷ seen) ns)) ≡ ((a then b) then doubled_from (n ∷ seen) ns)
    assoc (gives u) b = refl
    assoc (refuses m x) b = refl

module _ (s strings : Bytes) (place : ℕ) (w : List ℕ) (at count : ℕ) (i : at ≤ length s) (r : Token) (e : r ≡ token_at s at) (c : Come s strings place w at count) where
  abbrev b : Block
  b = block_of place s strings

  abbrev t : Tree
  t = nodes_in s strings place

  pub come_stop : ((kind : Kind) (next : ℕ) → r ≡ Item kind next → ⊥) → passes ≡ doubled_judged t
  come_stop h =
      sym (ap (λ (es : List Event). doubled_from c.seen (nodes_from c.stack count es)) (events_stop b at i r e h)
      ∙ ap (doubled_from c.seen) (nodes_none c.stack count)
      ∙ from_none c.seen)
      ∙ c.rest

  module _ (kind : Kind) (next : ℕ) (f : r ≡ Item kind next) where
    said : (k : Kind) → kind ≡ k → events_at b at ≡ saying b at (Item k next) (events_at b next)
    said k g = events_item b at i r e kind next f ∙ ap (λ (l : Kind). saying b at (Item l next) (events_at b next)) g

    moved : (stack : List ℕ) → Before count stack → nodes_from c.stack count (events_at b at) ≡ nodes_from stack count (events_at b next) → Come s strings place w next count
    moved stack h m =
        record {
          stack = stack;
          seen = c.seen;
          behind = h;
          rest = ap (doubled_from c.seen) (sym m) ∙ c.rest;
          ahead = sym m ∙ c.ahead;
          below = c.below;
        }

    come_end : kind ≡ EndNode → Come s strings place w next count
    unfolding nodes_from
    come_end g = moved (rest c.stack) (before_rest count c.stack c.behind) (ap (nodes_from c.stack count) (said EndNode g))

    come_prop : (len name value : ℕ) → kind ≡ Prop len name value → Come s strings place w next count
    unfolding nodes_from
    come_prop len name value g = moved c.stack c.behind (ap (nodes_from c.stack count) (said (Prop len name value) g))

    come_nop : kind ≡ Nop → Come s strings place w next count
    come_nop g = moved c.stack c.behind (ap (nodes_from c.stack count) (said Nop g))

    -- what is no BEGIN
    pub come_past : ((len : ℕ) → kind ≡ Begin len → ⊥) → Come s strings place w next count
    come_past h = by kind refl h
      where
        by : (k : Kind) → kind ≡ k → ((len : ℕ) → k ≡ Begin len → ⊥) → Come s strings place w next count
        by (Begin len) g h = absurd (h len refl)
        by EndNode g h = come_end g
        by (Prop len name value) g h = come_prop len name value g
        by Nop g h = come_nop g

    module _ (table : Table w t) (len : ℕ) (g : kind ≡ Begin len) where
      abbrev m : Node
      m = record { place = place + at; parent = top c.stack; name = node_name_at s at len; props = props_of (events_at b next) }

      abbrev ns : List Node
      ns = nodes_from (count ∷ c.stack) (suc count) (events_at b next)

      opened : nodes_from c.stack count (events_at b at) ≡ m ∷ ns
      unfolding nodes_from
      opened = ap (nodes_from c.stack count) (said (Begin len) g)

      listed : (count < length t) × (node t count ≡ m) × (ns ≡ drop (suc count) t)
      listed = drop_cons_node count t m ns (sym opened ∙ c.ahead)

      row : has_row w count ≡ true
      unfolding node_words node_ceiling work_words
      row = lt-ltb count (length w / 4) (omega (arith, listed.0, table.room, table.few))

      began : get_or w (node_words * count) 0 ≡ place + at
      began = table.begin count listed.0 ∙ ap (λ (n : Node). n.place) listed.1

      parented : get_or w (node_words * count + 1) 0 ≡ top c.stack
      parented = table.parent count listed.0 ∙ ap (λ (n : Node). n.parent) listed.1

      spelled : m.name ≡ up_to (drop (at + 4) s)
      spelled = ap (λ (n : ℕ). take n (drop (at + 4) s)) (begin_says s at len next (sym e ∙ f ∙ ap (λ (k : Kind). Item k next) g)).name

      nulless : NoNul m.name
      nulless = subst NoNul (sym spelled) (no_nul (drop (at + 4) s))

      judged : (v : Verdict) → v ≡ node_judged s strings place w count at len next place → v ≡ (first (record { fails = sibling m c.seen; number = 10; place = m.place } ∷ []) then doubled_props [] m.props)
      judged v h =
          let p : row_parent w count ≡ top c.stack = rw row parented in
          let q : sibling_below s place w count (row_parent w count) m.name ≡ sibling m c.seen = ap (λ (n : ℕ). sibling_below s place w count n m.name) p ∙ sym (c.below m nulless) in
          h ∙ ap (λ (x : Bool). first (record { fails = x; number = 10; place = place + at } ∷ []) then doubled_props [] m.props) q

      pub come-fault : (q : Option ℕ) (x : ℕ) → q ≡ Some x → verdict 10 place q ≡ node_judged s strings place w count at len next place → refuses 10 (place + x) ≡ doubled_judged t
      come-fault q x k h =
          let v : verdict 10 place q ≡ refuses 10 (place + x) = ap (verdict 10 place) k in
          sym (ap (doubled_from c.seen) opened ∙ from_step c.seen m ns (refuses 10 (place + x)) (judged (refuses 10 (place + x)) (sym v ∙ h))) ∙ c.rest

      rowed : (n : Node) → NoNul n.name → row_named s place w count n.parent n.name ≡ eqb n.parent m.parent && same n.name m.name
      unfolding row_named
      rowed n h =
          let o : get_or w (node_words * count) 0 - place + 4 ≡ at + 4 = omega (arith, began) in
          let l : leb place (get_or w (node_words * count) 0) ≡ true = le-leb place (get_or w (node_words * count) 0) (omega (arith, began)) in
          let k : named_at n.name (drop (get_or w (node_words * count) 0 - place + 4) s) ≡ same n.name m.name = ap (λ (x : ℕ). named_at n.name (drop x s)) o ∙ named_at_lem n.name (drop (at + 4) s) h ∙ ap (same n.name) (sym spelled) in
          let q : eqb (get_or w (node_words * count + 1) 0) n.parent ≡ eqb n.parent m.parent = ap (λ (x : ℕ). eqb x n.parent) parented ∙ eqb_sym (top c.stack) n.parent in
          simp (row, l, k, q)

      -- its parent's row does not stand behind its own
      bounded : (n : Node) → NoNul n.name → leb n.parent count && row_named s place w count n.parent n.name ≡ eqb n.parent m.parent && same n.name m.name
      bounded n h =
          let row = row_named s place w count n.parent n.name in
          by_test (eqb n.parent m.parent)
          (λ e. let l : leb n.parent count ≡ true = le-leb n.parent count (omega (arith, eqb-true n.parent m.parent e, before_top count c.stack c.behind)) in
          ap (λ (x : Bool). x && row) l ∙ rowed n h)
          (λ e. let z : row ≡ false = rowed n h ∙ ap (λ (x : Bool). x && same n.name m.name) e in
          ap (λ (x : Bool). leb n.parent count && x) z ∙ and_none (leb n.parent count) ∙ sym (ap (λ (x : Bool). x && same n.name m.name) e))

      one_more : (n : Node) → NoNul n.name → sibling n (m ∷ c.seen) ≡ sibling_below s place w (suc count) n.parent n.name
      unfolding sibling sibling_below
      one_more n k = ap₂ (λ (x y : Bool). x || y) (sym (bounded n k)) (c.below n k)

      pub come-begin : (q : Option ℕ) → q ≡ None → verdict 10 place q ≡ node_judged s strings place w count at len next place → Come s strings place w next (count + 1)
      come-begin q k j =
          let h : passes ≡ node_judged s strings place w count at len next place = sym (ap (verdict 10 place) k) ∙ j in
          let d : doubled_from c.seen (m ∷ ns) ≡ doubled_from (m ∷ c.seen) ns = from_step c.seen m ns passes (judged passes h) in
          rw (add-one count)
          (record {
            stack = count ∷ c.stack;
            seen = m ∷ c.seen;
            behind = (omega arith, before_more count c.stack c.behind);
            rest = sym (ap (doubled_from c.seen) opened ∙ d) ∙ c.rest;
            ahead = listed.2;
            below = one_more;
          })

-- the words behind the table are those of the chunk
pub table_clear : (w : List ℕ) (t : Tree) → Table w t → Clear w
unfolding node_words node_ceiling work_words
table_clear w t table = record { room = table.room; zeros = λ i h. table.clear (chunk_start + i) (omega arith) (omega arith) }

-- what is known of a work space, where it is as it was
pub node_back : (s strings : Bytes) (place : ℕ) (w v : List ℕ) (i at len next : ℕ) (q : Option ℕ) → v ≡ w → work_words ≤ length w
    → (work_words ≤ length v → verdict 10 place q ≡ node_judged s strings place v i at len next place)
    → verdict 10 place q ≡ node_judged s strings place w i at len next place
node_back s strings place w v i at len next q e h f =
    f (subst (λ (l : List ℕ). work_words ≤ length l) (sym e) h) ∙ ap (λ (l : List ℕ). node_judged s strings place l i at len next place) e

pub kept_back : (w v u : List ℕ) → v ≡ w → Clear w → (Clear v → u ≡ v) → u ≡ w
kept_back w v u e c f = f (subst Clear (sym e) c) ∙ e
