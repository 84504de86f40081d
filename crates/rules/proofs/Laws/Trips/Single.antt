-- The grammar is unambiguous: what it derives of some bytes, within 01's limits or not, is what the tokens say, and so one tree only.
use Rattle.std.specs.Prelude.{◌≡◌, refl, false, length, drop}
use Rattle.std.proofs.Math.Path.{sym, ap}
use Rattle.std.proofs.Common.{◌∙◌, subst, arith}
use mathlib.Core.List.{List, [], ◌∷◌, ◌++◌, append_assoc, append-nil}
use Prim.Native.Nat.{ℕ, ◌+◌, ◌≤◌}
use Rattle.rules.specs.Octets.{Bytes, padded, has_nul}
use Rattle.rules.specs.Blob.{Block, block_of}
use Rattle.rules.specs.Outcome.{passes}
use Rattle.rules.specs.Events.{node_name_at, Event, opens, closes, events_in, shape_judged}
use Rattle.rules.specs.Written.{has_said, unplaced}
use Rattle.rules.specs.declared.Kind.TheVariants.{Begin, EndNode, Prop, Nop}
use Rattle.rules.specs.Grammar.{Forest, empty, node, Word, Pads, Stands, Props, no_props, nop_props, prop, Nodes, no_nodes, nop_nodes, a_node, Structure, a_root, Limits, tell_props, tell}
use Rattle.rules.specs.Exactly.{OneTree, TreeRead}
use Rattle.rules.specs.Laws.Events.{events_at}
use Rattle.rules.proofs.Laws.Events.{events_all, events_item, events_end}
use Rattle.rules.proofs.Laws.Trips.Places.{fits, past, nop_here, close_here, end_here, begin_here, begin_past, begin_fits, name_here, prop_here, prop_past, prop_fits, value_here, string_here}
use Rattle.rules.proofs.Laws.Trips.Derived.{grammar_passes}
use Rattle.rules.proofs.Laws.Trips.Parsed.{reads_grammar}
use Rattle.rules.proofs.Laws.Trips.Exact.{one_forest}

module _ (b : Block) where
  abbrev s : Bytes
  s = b.structure

  -- from a place on the tokens say F up to where `rest` begins
  record Told (at : ℕ) (rest : Bytes) (F : List Event → List Event) : Type 0 where
    to : ℕ
    there : drop to s ≡ rest
    inside : to ≤ length s
    events : unplaced (events_at b at) ≡ F (unplaced (events_at b to))

  then_told : {at : ℕ} {r r' : Bytes} {F G : List Event → List Event} → (g : Told at r F) → Told g.to r' G → Told at r' (λ es. F (G es))
  then_told {F = F} g h = record { to = h.to; there = h.there; inside = h.inside; events = g.events ∙ ap F h.events }

  module _ (at : ℕ) (i : at ≤ length s) where
    nothing_told : (r : Bytes) → drop at s ≡ r → Told at r (λ es. es)
    nothing_told r e = record { to = at; there = e; inside = i; events = refl }

    nop_told : (x r : Bytes) → drop at s ≡ x ++ r → Word 4 x → Told at r (λ es. es)
    nop_told x r e o =
        let l = o.four in
        record {
          to = at + 4;
          there = past s at x r 4 e l;
          inside = omega (arith, fits s at x r e (omega arith));
          events = ap unplaced (events_item b at i Nop (at + 4) (nop_here s at x r e o));
        }

    close_told : (x r : Bytes) → drop at s ≡ x ++ r → Word 2 x → Told at r (λ es. closes 0 ∷ es)
    unfolding unplaced
    close_told x r e o =
        let l = o.four in
        record {
          to = at + 4;
          there = past s at x r 4 e l;
          inside = omega (arith, fits s at x r e (omega arith));
          events = ap unplaced (events_item b at i EndNode (at + 4) (close_here s at x r e o));
        }

    begin_told : (tag name pad r : Bytes) → drop at s ≡ tag ++ (name ++ (0 ∷ (pad ++ r))) → Word 1 tag → has_nul name ≡ false
        → Pads (length name + 1) pad → Told at r (λ es. opens 0 name ∷ es)
    unfolding unplaced
    begin_told tag name pad r e o p q =
        let to : ℕ = at + 4 + padded (length name + 1) in
        let n : node_name_at s at (length name) ≡ name = name_here s at tag name pad r e o p q in
        record {
          to = to;
          there = begin_past s at tag name pad r e o p q;
          inside = begin_fits s at tag name pad r e o p q;
          events = ap unplaced (events_item b at i (Begin (length name)) to (begin_here s at tag name pad r e o p q)) ∙ rw n;
        }

    prop_told : (tag len off value pad r name : Bytes) (offset : ℕ) → drop at s ≡ tag ++ (len ++ (off ++ (value ++ (pad ++ r)))) → Word 3 tag
        → Word (length value) len → Word offset off → Pads (length value) pad → Stands b.strings offset name
        → Told at r (λ es. has_said name value ∷ es)
    unfolding unplaced
    prop_told tag len off value pad r name offset e o l f q k =
        let to : ℕ = at + 4 + 8 + padded (length value) in
        let t = prop_here s at tag len off value pad r offset e o l f q in
        record {
          to = to;
          there = prop_past s at tag len off value pad r offset e o l f q;
          inside = prop_fits s at tag len off value pad r offset e o l f q;
          events =
              ap unplaced (events_item b at i (Prop (length value) offset (at + 4 + 8)) to t)
              ∙ rw (string_here b.strings offset name k, value_here s at tag len off value pad r offset e o l f q);
        }

  abbrev Tells : Bytes → (List Event → List Event) → Type 0
  Tells bs F = (at : ℕ) → at ≤ length s → (rest : Bytes) → drop at s ≡ bs ++ rest → Told at rest F

  nop_tells : (w r : Bytes) (F : List Event → List Event) → Word 4 w → Tells r F → Tells (w ++ r) F
  nop_tells w r F o h at i rest e =
      let g = nop_told at i w (r ++ rest) (e ∙ append_assoc w r rest) o in
      then_told g (h g.to g.inside rest g.there)

  prop_tells : (tag len off pad r name value : Bytes) (offset : ℕ) (ps : List (Bytes × Bytes)) → Word 3 tag → Word (length value) len → Word offset off
      → Stands b.strings offset name → Pads (length value) pad → Tells r (tell_props ps)
      → Tells (tag ++ (len ++ (off ++ (value ++ (pad ++ r))))) (tell_props ((name, value) ∷ ps))
  unfolding tell_props
  prop_tells tag len off pad r name value offset ps o l f k q h at i rest e =
      let g = prop_told at i tag len off value pad (r ++ rest) name offset (e ∙ simp append_assoc) o l f q k in
      then_told g (h g.to g.inside rest g.there)

  no_props_tell : Tells [] (tell_props [])
  unfolding tell_props
  no_props_tell at i rest e = nothing_told at i rest e

  props_tell : {bs : Bytes} {ps : List (Bytes × Bytes)} → Props b.strings bs ps → Tells bs (tell_props ps)
  props_tell no_props = no_props_tell
  props_tell (nop_props {w = w} {r = r} {ps = ps} o d) = nop_tells w r (tell_props ps) o (props_tell d)
  props_tell (prop {tag = tag} {len = len} {off = off} {pad = pad} {r = r} {name = name} {value = value} {offset = offset} {ps = ps} o l f k q d) =
      prop_tells tag len off pad r name value offset ps o l f k q (props_tell d)

  node_tells : (tag pad a c end r name : Bytes) (props : List (Bytes × Bytes)) (below beside : Forest) → Word 1 tag → has_nul name ≡ false
      → Pads (length name + 1) pad → Word 2 end → Tells a (tell_props props) → Tells c (tell below) → Tells r (tell beside)
      → Tells (tag ++ (name ++ (0 ∷ (pad ++ (a ++ (c ++ (end ++ r))))))) (tell (node name props below beside))
  unfolding tell
  node_tells tag pad a c end r name props below beside o p q z ps ns hs at i rest e =
      let g = begin_told at i tag name pad (a ++ (c ++ (end ++ (r ++ rest)))) (e ∙ simp append_assoc) o p q in
      let h = ps g.to g.inside (c ++ (end ++ (r ++ rest))) g.there in
      let k = ns h.to h.inside (end ++ (r ++ rest)) h.there in
      let m = close_told k.to k.inside end (r ++ rest) k.there z in
      then_told g (then_told h (then_told k (then_told m (hs m.to m.inside rest m.there))))

  no_nodes_tell : Tells [] (tell empty)
  unfolding tell
  no_nodes_tell at i rest e = nothing_told at i rest e

  nodes_tell : {bs : Bytes} {f : Forest} → Nodes b.strings bs f → Tells bs (tell f)
  nodes_tell no_nodes = no_nodes_tell
  nodes_tell (nop_nodes {w = w} {r = r} {f = f} o d) = nop_tells w r (tell f) o (nodes_tell d)
  nodes_tell (a_node {a = a} {b = c} {r = r} {name = name} {props = props} {below = below} {beside = beside} o p q ps ns z hs) =
      node_tells _ _ a c _ r name props below beside o p q z (props_tell ps) (nodes_tell ns) (nodes_tell hs)

  whole_told : (bs end : Bytes) (f : Forest) → Tells bs (tell f) → Word 9 end → s ≡ bs ++ end → unplaced (events_in b) ≡ tell f []
  unfolding unplaced
  whole_told bs end f h o e =
      let g = h 0 (omega arith) end e in
      let t = end_here s g.to end [] (g.there ∙ sym (append-nil end)) o in
      ap unplaced (events_all b) ∙ g.events ∙ ap (λ (es : List Event). tell f (unplaced es)) (events_end b g.to g.inside t)

  structure_told : {bs : Bytes} {f : Forest} → Structure b.strings bs f → s ≡ bs → unplaced (events_in b) ≡ tell f []
  structure_told (a_root {s = bs} {end = end} {name = name} {props = props} {below = below} d o) e =
      whole_told bs end (node name props below empty) (nodes_tell d) o e

  -- WHAT THE GRAMMAR DERIVES THE TOKENS SAY
  pub grammar_says : (f : Forest) → Structure b.strings b.structure f → unplaced (events_in b) ≡ tell f []
  grammar_says f d = structure_told d refl

  -- WHAT THE GRAMMAR DERIVES WITHIN 01'S LIMITS THE WALK ACCEPTS, AND ITS TOKENS SAY IT
  pub grammar_reads : (f : Forest) → Structure b.strings b.structure f → Limits f → (shape_judged b ≡ passes) × (unplaced (events_in b) ≡ tell f [])
  grammar_reads f d l = (grammar_passes b f d l, grammar_says f d)

  pub one_of_lem : (f g : Forest) → Structure b.strings b.structure f → Structure b.strings b.structure g → f ≡ g
  one_of_lem f g d d' = (one_forest f g [] [] tt tt (sym (grammar_says f d) ∙ grammar_says g d')).0

-- BYTES SAY ONE TREE AT MOST
pub one_tree : OneTree
one_tree strings structure f g d d' = one_of_lem (block_of 0 structure strings) f g d d'

-- THE WALK ACCEPTS IT EXACTLY IF IT IS WITHIN 01'S LIMITS
pub one_tree_read : TreeRead
one_tree_read b f d = (
  grammar_says b f d,
  (
    λ h. let x = reads_grammar b h in subst Limits (one_of_lem b x.0 f x.1 d) x.2,
    λ l. grammar_passes b f d l,
  ),
)
