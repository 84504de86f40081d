-- What the grammar derives, within 01's limits, the reader's walk accepts.
use Rattle.std.specs.Prelude.{◌≡◌, refl, Bool, false}
use Rattle.std.proofs.Math.Path.{sym, ap}
use Rattle.std.proofs.Common.{◌∙◌, add-zero, length-drop}
use Rattle.std.proofs.Math.Bool.{true}
use mathlib.Core.List.{List, [], ◌∷◌, ◌++◌, append_assoc, append-nil}
use Prim.Native.Nat.{ℕ, suc, ◌+◌, ◌≤◌, ◌<◌}
use native.Mathlib.Omega.{arith}
use Rattle.std.proofs.Math.ListN.{length, drop}
use borrow.Author.Tests.{eq-eqb, ne_eqb, lt-leb}
use Rattle.rules.specs.Ceilings.{open_ceiling, node_ceiling}
use Rattle.rules.specs.Octets.{Bytes, padded, has_nul}
use Rattle.rules.specs.Names.{node_name_reads, property_name_reads}
use Rattle.rules.specs.Outcome.{passes}
use Rattle.rules.specs.Blob.{Block}
use Rattle.rules.specs.Events.{Walk, at_start, go, node_name_at, opening, closing, holding, ending, shape_judged}
use Rattle.rules.specs.declared.Kind.TheVariants.{Begin, EndNode, Prop, Nop}
use Rattle.rules.proofs.Laws.Events.{judged_at, judged_all, judged_item, judged_end}
use Rattle.rules.specs.Grammar.{Forest, empty, node, Word, Pads, Stands, Props, no_props, nop_props, prop, Nodes, no_nodes, nop_nodes, a_node, Structure, a_root, size, height, PropsNamed, Named, Limits}
use Rattle.rules.proofs.Laws.Trips.Places.{fits, past, nop_here, close_here, end_here, begin_here, begin_past, begin_fits, name_here, prop_here, prop_past, prop_fits, reads_here}

abbrev walk : List ℕ → ℕ → Bool → Walk
walk stack count ended = record { stack = stack; count = count; ended = ended }

module _ (b : Block) where
  abbrev s : Bytes
  s = b.structure

  -- from a place on the walk goes to where `rest` begins
  record Went (at : ℕ) (rest : Bytes) (w v : Walk) : Type 0 where
    to : ℕ
    there : drop to s ≡ rest
    inside : to ≤ length s
    judged : judged_at b w at ≡ judged_at b v to

  then_went : {at : ℕ} {r r' : Bytes} {w v u : Walk} → (g : Went at r w v) → Went g.to r' v u → Went at r' w u
  then_went g h = record { to = h.to; there = h.there; inside = h.inside; judged = g.judged ∙ h.judged }

  three_went : {at : ℕ} {r r' r'' : Bytes} {w v u x : Walk} → (g : Went at r w v) → (h : Went g.to r' v u)
      → Went h.to r'' u x → Went at r'' w x
  three_went g h k = then_went g (then_went h k)

  -- the same, where the last leaves it open whether a child has ended
  last_went : {at : ℕ} {r r' r'' : Bytes} {w v u : Walk} {x : Bool → Walk} → (g : Went at r w v)
      → (h : Went g.to r' v u) → (ended : Bool) × Went h.to r'' u (x ended)
      → (ended : Bool) × Went at r'' w (x ended)
  last_went g h k = (k.0, three_went g h k.1)

  module _ (at : ℕ) (i : at ≤ length s) where
    nothing_went : (r : Bytes) → drop at s ≡ r → (w : Walk) → Went at r w w
    nothing_went r e w = record { to = at; there = e; inside = i; judged = refl }

    nop_went : (x r : Bytes) → drop at s ≡ x ++ r → Word 4 x → (w : Walk) → Went at r w w
    nop_went x r e o w =
        let t = nop_here s at x r e o in
        let l = o.four in
        record {
          to = at + 4;
          there = past s at x r 4 e l;
          inside = omega (arith, fits s at x r e (omega arith));
          judged = judged_item b at i w Nop (at + 4) t;
        }

    -- END_NODE
    close_went : (x r : Bytes) → drop at s ≡ x ++ r → Word 2 x → (j : ℕ) (stack : List ℕ) (count : ℕ) (ended : Bool)
        → Went at r (walk (j ∷ stack) count ended) (walk stack count true)
    unfolding closing
    close_went x r e o j stack count ended =
        let t = close_here s at x r e o in
        let l = o.four in
        record {
          to = at + 4;
          there = past s at x r 4 e l;
          inside = omega (arith, fits s at x r e (omega arith));
          judged = judged_item b at i (walk (j ∷ stack) count ended) EndNode (at + 4) t;
        }

    -- BEGIN
    begin_went : (tag name pad r : Bytes) → drop at s ≡ tag ++ (name ++ (0 ∷ (pad ++ r))) → Word 1 tag → has_nul name ≡ false
        → Pads (length name + 1) pad
        → (w v : Walk) → opening w name ≡ go v → Went at r w v
    begin_went tag name pad r e o p q w v h =
        let to : ℕ = at + 4 + padded (length name + 1) in
        let t = begin_here s at tag name pad r e o p q in
        let n : node_name_at s at (length name) ≡ name = name_here s at tag name pad r e o p q in
        record {
          to = to;
          there = begin_past s at tag name pad r e o p q;
          inside = begin_fits s at tag name pad r e o p q;
          judged = judged_item b at i w (Begin (length name)) to t ∙ rw (n, h);
        }

    -- PROP
    prop_went : (tag len off value pad r name : Bytes) (offset : ℕ) → drop at s ≡ tag ++ (len ++ (off ++ (value ++ (pad ++ r)))) → Word 3 tag
        → Word (length value) len → Word offset off → Pads (length value) pad → Stands b.strings offset name
        → (w : Walk) → holding w (property_name_reads name) ≡ go w → Went at r w w
    prop_went tag len off value pad r name offset e o l f q k w h =
        let to : ℕ = at + 4 + 8 + padded (length value) in
        let t = prop_here s at tag len off value pad r offset e o l f q in
        record {
          to = to;
          there = prop_past s at tag len off value pad r offset e o l f q;
          inside = prop_fits s at tag len off value pad r offset e o l f q;
          judged = judged_item b at i w (Prop (length value) offset (at + 4 + 8)) to t ∙ rw (reads_here b.strings offset name k, h);
        }

  -- ---- properties

  abbrev PropsGo : Bytes → List (Bytes × Bytes) → Type 0
  PropsGo bs ps =
      (at : ℕ) → at ≤ length s → (rest : Bytes) → drop at s ≡ bs ++ rest → (j : ℕ) (stack : List ℕ) (count : ℕ)
      → Went at rest (walk (j ∷ stack) count false) (walk (j ∷ stack) count false)

  no_props_go : PropsGo [] []
  no_props_go at i rest e j stack count = nothing_went at i rest e (walk (j ∷ stack) count false)

  nop_props_go : (w r : Bytes) (ps : List (Bytes × Bytes)) → Word 4 w → PropsGo r ps → PropsGo (w ++ r) ps
  nop_props_go w r ps o h at i rest e j stack count =
      let g = nop_went at i w (r ++ rest) (e ∙ append_assoc w r rest) o (walk (j ∷ stack) count false) in
      then_went g (h g.to g.inside rest g.there j stack count)

  hold_go : (name : Bytes) (j : ℕ) (stack : List ℕ) (count : ℕ) → property_name_reads name ≡ true
      → holding (walk (j ∷ stack) count false) (property_name_reads name) ≡ go (walk (j ∷ stack) count false)
  unfolding holding
  hold_go name j stack count e = rw e

  prop_go : (tag len off pad r name value : Bytes) (offset : ℕ) (ps : List (Bytes × Bytes)) → Word 3 tag → Word (length value) len → Word offset off
      → Stands b.strings offset name → Pads (length value) pad → property_name_reads name ≡ true → PropsGo r ps
      → PropsGo (tag ++ (len ++ (off ++ (value ++ (pad ++ r))))) ((name, value) ∷ ps)
  prop_go tag len off pad r name value offset ps o l f k q n h at i rest e j stack count =
      let g =
      prop_went at i tag len off value pad (r ++ rest) name offset (e ∙ simp append_assoc) o l f q k (walk (j ∷ stack) count false)
      (hold_go name j stack count n) in
      then_went g (h g.to g.inside rest g.there j stack count)

  props_go : {bs : Bytes} {ps : List (Bytes × Bytes)} → Props b.strings bs ps → PropsNamed ps → PropsGo bs ps
  props_go no_props n = no_props_go
  props_go (nop_props {w = w} {r = r} {ps = ps} o d) n = nop_props_go w r ps o (props_go d n)
  props_go (prop {tag = tag} {len = len} {off = off} {pad = pad} {r = r} {name = name} {value = value} {offset = offset} {ps = ps} o l f k q d) n =
      prop_go tag len off pad r name value offset ps o l f k q n.0 (props_go d n.1)

  -- ---- nodes

  abbrev NodesGo : Bytes → Forest → Type 0
  NodesGo bs f =
      (at : ℕ) → at ≤ length s → (rest : Bytes) → drop at s ≡ bs ++ rest → (j : ℕ) (stack : List ℕ) (count : ℕ) (ended : Bool)
      → length (j ∷ stack) + height f ≤ open_ceiling → count + size f ≤ node_ceiling
      → (ended' : Bool) × Went at rest (walk (j ∷ stack) count ended) (walk (j ∷ stack) (count + size f) ended')

  no_nodes_go : NodesGo [] empty
  unfolding size
  no_nodes_go at i rest e j stack count ended d m = (ended, rw (add-zero count) (nothing_went at i rest e (walk (j ∷ stack) count ended)))

  nop_nodes_go : (w r : Bytes) (f : Forest) → Word 4 w → NodesGo r f → NodesGo (w ++ r) f
  nop_nodes_go w r f o h at i rest e j stack count ended d m =
      let g = nop_went at i w (r ++ rest) (e ∙ append_assoc w r rest) o (walk (j ∷ stack) count ended) in
      let k = h g.to g.inside rest g.there j stack count ended d m in
      (k.0, then_went g k.1)

  -- what stands in a node: its properties, its children and its END_NODE
  inner_went : (a c end rest : Bytes) (props : List (Bytes × Bytes)) (below : Forest) → PropsGo a props → NodesGo c below → Word 2 end
      → (at : ℕ) → at ≤ length s → drop at s ≡ a ++ (c ++ (end ++ rest)) → (j : ℕ) (stack : List ℕ) (count : ℕ)
      → length (j ∷ stack) + height below ≤ open_ceiling → count + size below ≤ node_ceiling
      → Went at rest (walk (j ∷ stack) count false) (walk stack (count + size below) true)
  inner_went a c end rest props below ps ns o at i e j stack count d m =
      let g = ps at i (c ++ (end ++ rest)) e j stack count in
      let h = ns g.to g.inside (end ++ rest) g.there j stack count false d m in
      let k = close_went h.1.to h.1.inside end rest h.1.there o j stack (count + size below) h.0 in
      three_went g h.1 k

  child_opens : (name : Bytes) (j : ℕ) (stack : List ℕ) (count : ℕ) (ended : Bool) → node_name_reads name ≡ true → length (j ∷ stack) < open_ceiling
      → count < node_ceiling → opening (walk (j ∷ stack) count ended) name ≡ go (walk (count ∷ j ∷ stack) (suc count) false)
  unfolding opening
  child_opens name j stack count ended e d m = rw (e, lt-leb open_ceiling (length (j ∷ stack)) d, lt-leb node_ceiling count m)

  node_go : (tag pad a c end r name : Bytes) (props : List (Bytes × Bytes)) (below beside : Forest) → Word 1 tag → has_nul name ≡ false
      → Pads (length name + 1) pad → Word 2 end → node_name_reads name ≡ true → PropsGo a props → NodesGo c below → NodesGo r beside
      → NodesGo (tag ++ (name ++ (0 ∷ (pad ++ (a ++ (c ++ (end ++ r))))))) (node name props below beside)
  unfolding size height
  node_go tag pad a c end r name props below beside o p q z n ps ns hs at i rest e j stack count ended d m =
      let g =
      begin_went at i tag name pad (a ++ (c ++ (end ++ (r ++ rest)))) (e ∙ simp append_assoc) o p q (walk (j ∷ stack) count ended)
      (walk (count ∷ j ∷ stack) (suc count) false)
      (child_opens name j stack count ended n (omega arith) (omega arith)) in
      let h =
      inner_went a c end (r ++ rest) props below ps ns z g.to g.inside g.there count (j ∷ stack) (suc count) (omega arith) (omega arith) in
      let k = hs h.to h.inside rest h.there j stack (suc count + size below) true (omega arith) (omega arith) in
      let y : count + suc (size below + size beside) ≡ suc count + size below + size beside = omega arith in
      rw y (last_went {x = walk (j ∷ stack) (suc count + size below + size beside)} g h k)

  nodes_go : {bs : Bytes} {f : Forest} → Nodes b.strings bs f → Named f → NodesGo bs f
  nodes_go no_nodes n = no_nodes_go
  nodes_go (nop_nodes {w = w} {r = r} {f = f} o d) n = nop_nodes_go w r f o (nodes_go d n)
  nodes_go (a_node {a = a} {b = c} {r = r} {name = name} {props = props} {below = below} {beside = beside} o p q ps ns z hs) n =
      node_go _ _ a c _ r name props below beside o p q z n.0 (props_go ps n.1) (nodes_go ns n.2) (nodes_go hs n.3)

  -- ---- the root

  abbrev IsEmpty : Forest → Type 0
  IsEmpty empty = Unit {0}
  IsEmpty (node name props below beside) = ⊥

  -- where no node is derived only NOPs stand
  blank_went : {bs : Bytes} {f : Forest} → Nodes b.strings bs f → IsEmpty f → (at : ℕ) → at ≤ length s → (rest : Bytes) → drop at s ≡ bs ++ rest
      → (w : Walk) → Went at rest w w
  blank_went no_nodes n at i rest e w = nothing_went at i rest e w
  blank_went (nop_nodes {w = x} {r = r} o d) n at i rest e w =
      let g = nop_went at i x (r ++ rest) (e ∙ append_assoc x r rest) o w in
      then_went g (blank_went d n g.to g.inside rest g.there w)
  blank_went (a_node o p q ps ns z hs) n at i rest e w = absurd n

  abbrev Alone : Forest → Type 0
  Alone empty = ⊥
  Alone (node name props below beside) = (length name ≡ 0) × PropsNamed props × Named below × IsEmpty beside

  abbrev RootGoes : Bytes → Forest → Type 0
  RootGoes bs f =
      (at : ℕ) → at ≤ length s → (rest : Bytes) → drop at s ≡ bs ++ rest → Went at rest at_start (walk [] (size f) true)

  root_opens : (name : Bytes) → length name ≡ 0 → opening at_start name ≡ go (walk (0 ∷ []) 1 false)
  unfolding opening
  root_opens name e = rw (eq-eqb (length name) 0 e)

  root_go : (tag pad a c end r name : Bytes) (props : List (Bytes × Bytes)) (below : Forest) → Word 1 tag → has_nul name ≡ false
      → Pads (length name + 1) pad → Word 2 end → length name ≡ 0 → PropsGo a props → NodesGo c below
      → ((at : ℕ) → at ≤ length s → (rest : Bytes) → drop at s ≡ r ++ rest → (w : Walk) → Went at rest w w)
      → height (node name props below empty) ≤ open_ceiling → size (node name props below empty) ≤ node_ceiling
      → RootGoes (tag ++ (name ++ (0 ∷ (pad ++ (a ++ (c ++ (end ++ r))))))) (node name props below empty)
  unfolding size height
  root_go tag pad a c end r name props below o p q z n ps ns hs d m at i rest e =
      let g =
      begin_went at i tag name pad (a ++ (c ++ (end ++ (r ++ rest)))) (e ∙ simp append_assoc) o p q at_start (walk (0 ∷ []) 1 false)
      (root_opens name n) in
      let h = inner_went a c end (r ++ rest) props below ps ns z g.to g.inside g.there 0 [] 1 (omega arith) (omega arith) in
      let k = hs h.to h.inside rest h.there (walk [] (1 + size below) true) in
      let y : suc (size below + 0) ≡ 1 + size below = omega arith in
      rw y (three_went g h k)

  roots_go : {bs : Bytes} {f : Forest} → Nodes b.strings bs f → Alone f → height f ≤ open_ceiling → size f ≤ node_ceiling → RootGoes bs f
  roots_go no_nodes n d m = absurd n
  roots_go (nop_nodes {w = w} {r = r} {f = f} o t) n d m = λ at i rest e.
      let g = nop_went at i w (r ++ rest) (e ∙ append_assoc w r rest) o at_start in
      then_went g (roots_go t n d m g.to g.inside rest g.there)
  roots_go (a_node {a = a} {b = c} {r = r} {name = name} {props = props} {below = below} {beside = empty} o p q ps ns z hs) n d m =
      root_go _ _ a c _ r name props below o p q z n.0 (props_go ps n.1) (nodes_go ns n.2) (blank_went hs tt) d m
  roots_go (a_node {beside = node _ _ _ _} o p q ps ns z hs) n d m = absurd n.3

  -- END at the end
  end_went : (end : Bytes) (at : ℕ) → at ≤ length s → drop at s ≡ end → Word 9 end → (count : ℕ) → 0 < count
      → judged_at b (walk [] count true) at ≡ passes
  unfolding ending
  end_went end at i e o count c =
      let f : drop at s ≡ end ++ [] = e ∙ sym (append-nil end) in
      let t = end_here s at end [] f o in
      let n : at + 4 ≡ length s = omega (arith, sym (length-drop at s) ∙ ap length e ∙ o.four) in
      judged_end b at i (walk [] count true) t ∙ rw (ne_eqb count 0 (λ (z : count ≡ 0). omega arith), eq-eqb (at + 4) (length s) n)

  whole_went : (bs end : Bytes) (f : Forest) → RootGoes bs f → Word 9 end → 0 < size f → s ≡ bs ++ end
      → shape_judged b ≡ passes
  whole_went bs end f h o c e =
      let g = h 0 (omega arith) end e in
      judged_all b ∙ g.judged ∙ end_went end g.to g.inside g.there o (size f) c

  root_size : (name : Bytes) (props : List (Bytes × Bytes)) (below : Forest) → 0 < size (node name props below empty)
  unfolding size
  root_size name props below = omega arith

  derived : {bs : Bytes} {f : Forest} → Structure b.strings bs f → s ≡ bs → Limits f
      → shape_judged b ≡ passes
  derived (a_root {s = bs} {end = end} {name = name} {props = props} {below = below} d o) e l =
      let n = l.names in
      whole_went bs end (node name props below empty) (roots_go d (n.0, n.1, n.2, tt) l.deep l.many) o (root_size name props below) e

  -- WHAT THE GRAMMAR DERIVES WITHIN 01'S LIMITS IS ACCEPTED
  pub grammar_passes : (f : Forest) → Structure b.strings b.structure f → Limits f
      → shape_judged b ≡ passes
  grammar_passes f d l = derived d refl l
