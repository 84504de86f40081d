-- The node table of a blob that is accepted says the tree read: its nodes stand in the structure where their rows say, and the
-- phandles of the rows are the nodes'.
use Rattle.std.specs.Prelude.{◌≡◌, get_or, drop}
use Rattle.std.proofs.Math.Path.{refl, sym, ap, ap₂}
use Rattle.std.proofs.Common.{◌∙◌, le-ltb}
use mathlib.Core.List.{List, [], ◌∷◌, map}
use Rattle.std.proofs.Math.Option.{none}
use Prim.Native.Nat.{ℕ, zero, suc, ◌+◌, ◌*◌, ◌≤◌, ◌<◌}
use native.Mathlib.Omega.{arith}
use Rattle.std.proofs.Math.ListN.{length, length-map}
use Rattle.std.proofs.Math.Seq.{ext_get_or}
use Rattle.rules.specs.Ceilings.{work_words}
use Rattle.rules.specs.Octets.{Bytes, part, nul_in}
use Rattle.rules.specs.Outcome.{passes}
use Rattle.rules.specs.Blob.{Block, block_in}
use Rattle.rules.specs.Tokens.{token_at}
use Rattle.rules.specs.Events.{Property, Event, string_at, node_name_at, saying, events_in}
use Rattle.rules.specs.Tree.{Node, Tree, node, nowhere, props_of, rest, nodes_from, nodes_of, phandle_of, numbers_from}
use Rattle.rules.specs.Reader.{events_read, tree_read, blob_judged, rows_of, space_of, read_work}
use Rattle.rules.specs.References.{place_of, lookup}
use Rattle.rules.specs.declared.Token.{Token}
use Rattle.rules.specs.declared.Token.TheVariants.{Item, End, Cut}
use Rattle.rules.specs.declared.Kind.{Kind}
use Rattle.rules.specs.declared.Kind.TheVariants.{Begin, EndNode, Prop, Nop}
use Rattle.rules.proofs.Laws.Tokens.{Ahead, token_ahead, begin_says}
use Rattle.rules.proofs.Laws.Lists.{length_numbers, map_at}
use Rattle.rules.specs.Laws.Events.{events_at}
use Rattle.rules.proofs.Laws.Events.{events_all, events_item, events_end, events_cut}
use Rattle.rules.proofs.Laws.References.{by_option}
use Rattle.rules.proofs.Laws.Reader.{space_get, table_fits}
use Rattle.rules.proofs.Laws.Table.{rows_length, row_place, row_parent_lem, row_given_lem, row_none, read_table}
use Rattle.rules.specs.Laws.Paths.{Formed}
use Rattle.rules.proofs.Laws.Formed.{read_formed}
use Rattle.rules.specs.Laws.Tabled.{cell, props_behind, props_at, begin_of, node_in, tree_in, phandle_in, phandles_from, look_in}
use Rattle.rules.proofs.Laws.Tabled.{tree_length, node_in_lem, number_at}
use Rattle.rules.specs.Laws.Constants.{NODE_WORDS}

-- ---- a node stands where it says

pub record Stood (b : Block) (n : Node) : Type 0 where
  pub at : ℕ
  pub len : ℕ
  pub next : ℕ
  pub place : n.place ≡ b.place + at
  pub token : token_at b.structure at ≡ Item (Begin len) next
  pub name : n.name ≡ node_name_at b.structure at len
  pub props : n.props ≡ props_of (events_at b next)

module _ (b : Block) where
  abbrev All : (stack : List ℕ) (n : ℕ) → List Event → Type 0
  All stack n es = (i : ℕ) → i < length (nodes_from stack n es) → Stood b (get_or (nodes_from stack n es) i nowhere)

  none_stood : (stack : List ℕ) (n : ℕ) → All stack n []
  unfolding nodes_from
  none_stood stack n i h = absurd (let z : ⊥ = omega arith in z)

  said_stood : (at : ℕ) (kind : Kind) (next : ℕ) → token_at b.structure at ≡ Item kind next → ((stack : List ℕ) (n : ℕ) → All stack n (events_at b next))
      → (stack : List ℕ) (n : ℕ) → All stack n (saying b at (Item kind next) (events_at b next))
  unfolding nodes_from
  said_stood at (Begin len) next e ih stack n zero h = record { at = at; len = len; next = next; place = refl; token = e; name = refl; props = refl }
  said_stood at (Begin len) next e ih stack n (suc i) h = ih (n ∷ stack) (suc n) i (omega arith)
  said_stood at EndNode next e ih stack n i h = ih (rest stack) n i h
  said_stood at (Prop len name value) next e ih stack n i h = ih stack n i h
  said_stood at Nop next e ih stack n i h = ih stack n i h

  stood_from : (fuel at : ℕ) → at ≤ length b.structure → length b.structure < fuel + at → (stack : List ℕ) (n : ℕ) → All stack n (events_at b at)
  stood_from zero at h k stack n = absurd (let z : ⊥ = omega arith in z)
  stood_from (suc fuel) at h k stack n = by (token_at b.structure at) refl (token_ahead b.structure at) (stood_from fuel)
    where
      by : (t : Token) → token_at b.structure at ≡ t → Ahead b.structure at t
          → ((next : ℕ) → next ≤ length b.structure → length b.structure < fuel + next → (stack : List ℕ) (n : ℕ) → All stack n (events_at b next))
          → All stack n (events_at b at)
      by (Item kind next) e a ih =
          rw (events_item b at h kind next e) (said_stood at kind next e (ih next a.1 (omega (arith, a.0))) stack n)
      by End e a ih = rw (events_end b at h e) (none_stood stack n)
      by Cut e a ih = rw (events_cut b at h e) (none_stood stack n)

  pub stood : (i : ℕ) → i < length (nodes_of (events_in b)) → Stood b (node (nodes_of (events_in b)) i)
  unfolding nodes_of
  stood = rw (events_all b) (stood_from (suc (length b.structure)) 0 (omega arith) (omega arith) [] 0)

  -- ---- so that its row is enough

  row_node : (ws : List ℕ) (i : ℕ) (n : Node) → Stood b n → cell ws i 0 ≡ n.place → cell ws i 1 ≡ n.parent → node_in b ws i ≡ n
  unfolding string_at props_at
  row_node ws i n s e f =
      let k : begin_of b.place ws i ≡ s.at = omega (arith, s.place) in
      let l : s.len ≡ nul_in (drop (s.at + 4) b.structure) = (begin_says b.structure s.at s.len s.next s.token).name in
      let a : string_at b.structure (begin_of b.place ws i + 4) ≡ n.name =
      ap (λ (j : ℕ). string_at b.structure (j + 4)) k ∙ ap (part b.structure (s.at + 4)) (sym l) ∙ sym s.name in
      let p : props_at b (begin_of b.place ws i) ≡ n.props = ap (props_at b) k ∙ ap (props_behind b) s.token ∙ sym s.props in
      ap (λ (x : ℕ). record { place = x; parent = cell ws i 1; name = string_at b.structure (begin_of b.place ws i + 4); props = props_at b (begin_of b.place ws i) }) e
      ∙ ap (λ (x : ℕ). record { place = n.place; parent = x; name = string_at b.structure (begin_of b.place ws i + 4); props = props_at b (begin_of b.place ws i) }) f
      ∙ ap₂ (λ (x : Bytes) (y : List Property). record { place = n.place; parent = n.parent; name = x; props = y }) a p

  -- the rows of these words are the rows of the tree
  abbrev pub Rows : List ℕ → Tree → Type 0
  Rows ws t = (i k : ℕ) → i < length t → k < NODE_WORDS → cell ws i k ≡ cell (rows_of t) i k

  pub tree_said : (ws : List ℕ) → Rows ws (nodes_of (events_in b)) → tree_in b ws (length (nodes_of (events_in b))) ≡ nodes_of (events_in b)
  tree_said ws r =
      let t : Tree = nodes_of (events_in b) in
      ext_get_or nowhere (tree_in b ws (length t)) t (tree_length b ws (length t) 0)
      (λ i h. let g : i < length t = omega (arith, tree_length b ws (length t) 0) in
      let z : NODE_WORDS * i + 0 ≡ NODE_WORDS * i = omega arith in
      node_in_lem b ws (length t) i g
      ∙ row_node ws i (node t i) (stood i g) (r i 0 g (omega arith) ∙ ap (λ (j : ℕ). get_or (rows_of t) j 0) z ∙ row_place t i g) (r i 1 g (omega arith) ∙ row_parent_lem t i g))

-- ---- phandles

module _ (b : Block) (ws : List ℕ) (t : Tree) (r : Rows b ws t) where
  phandle_said : (i : ℕ) → i < length t → phandle_in ws i ≡ phandle_of (node t i)
  phandle_said i h = by_option (phandle_of (node t i))
      (λ e. let c : cell ws i 2 ≡ 0 = r i 2 h (omega arith) ∙ (row_none t i h e).0 in rw (c, e))
      (λ v e. let q = row_given_lem t i v h e in
      let c : cell ws i 2 ≡ 1 = r i 2 h (omega arith) ∙ q.0 in
      let d : cell ws i 3 ≡ v = r i 3 h (omega arith) ∙ q.1 in
      rw (c, d, e))

  phandles_said : phandles_from ws 0 (length t) ≡ map phandle_of t
  unfolding phandles_from
  phandles_said =
      let l : length (map (phandle_in ws) (numbers_from 0 (length t))) ≡ length t = length-map (numbers_from 0 (length t)) (phandle_in ws) ∙ length_numbers 0 (length t) in
      ext_get_or none (map (phandle_in ws) (numbers_from 0 (length t))) (map phandle_of t) (l ∙ sym (length-map t phandle_of))
      (λ i h. let g : i < length t = omega arith in
      map_at (phandle_in ws) (numbers_from 0 (length t)) i 0 none (omega (arith, length_numbers 0 (length t)))
      ∙ ap (phandle_in ws) (number_at 0 (length t) i g ∙ omega arith)
      ∙ phandle_said i g
      ∙ sym (map_at phandle_of t i nowhere none g))

  pub look_said : (w : ℕ) → look_in ws (length t) w ≡ lookup t w
  unfolding look_in lookup
  look_said w = ap (place_of w) phandles_said

-- ---- THE TABLE OF A BLOB THAT IS ACCEPTED

read_rows : (b : Bytes) (work : List ℕ) → blob_judged b ≡ passes → work_words ≤ length work → Rows (block_in b) (read_work b work) (tree_read b)
unfolding read_work
read_rows b work h l i k g m =
    let t : Tree = tree_read b in
    let n = (read_table b h).few in
    let e : read_work b work ≡ space_of (rows_of t) work = rw (le-ltb (length work) work_words l, h) in
    ap (λ (ws : List ℕ). cell ws i k) e ∙ space_get (rows_of t) work (NODE_WORDS * i + k) (omega (arith, table_fits)) (omega (arith, table_fits, rows_length t))

module _ (b : Bytes) (work : List ℕ) (h : blob_judged b ≡ passes) (l : work_words ≤ length work) where
  pub tree_read_lem : tree_in (block_in b) (read_work b work) (length (tree_read b)) ≡ tree_read b
  unfolding tree_read events_read
  tree_read_lem = tree_said (block_in b) (read_work b work) (read_rows b work h l)

  pub look_read : (w : ℕ) → look_in (read_work b work) (length (tree_read b)) w ≡ lookup (tree_read b) w
  look_read = look_said (block_in b) (read_work b work) (tree_read b) (read_rows b work h l)

  pub formed_in : Formed (tree_in (block_in b) (read_work b work) (length (tree_read b)))
  formed_in = rw tree_read_lem (read_formed b h)
