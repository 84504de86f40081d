-- 10: "two siblings, or two properties of a node, share a name".
use Rattle.std.specs.Prelude.{◌≡◌, ◌⊎◌, true, ◌&&◌, eqb, get_or, drop}
use Rattle.std.proofs.Math.Path.{refl, sym, ap}
use Rattle.std.proofs.Common.{◌∙◌, drop_of_length-le, drop-cons}
use Rattle.std.proofs.Math.Logic.{inl, inr}
use Rattle.std.proofs.Math.Bool.{false}
use mathlib.Core.List.{List, [], ◌∷◌}
use Prim.Native.Nat.{ℕ, zero, suc, ◌≤◌, ◌<◌}
use native.Mathlib.Omega.{arith}
use Rattle.std.proofs.Math.ListN.{length}
use borrow.Author.Tests.{eqb-true, eq-eqb}
use Rattle.rules.specs.Octets.{Bytes, same}
use Rattle.rules.specs.Outcome.{Verdict, passes, ◌then◌}
use Rattle.rules.specs.Blob.{block_in}
use Rattle.rules.specs.Events.{Property, shape_judged}
use Rattle.rules.specs.Tree.{Node, Tree, node, nowhere, sibling, named, doubled_props, doubled_from, doubled_judged}
use Rattle.rules.specs.Reader.{events_read, tree_read}
use Rattle.rules.specs.Exactly.{prop, NamesApart, DoubledAt, sibling_at, property_shared_at, DoubledExactly}
use Rattle.rules.proofs.Laws.Tests.{by_le, never, and_true, true_and, or_cases, or_left, or_right}
use Rattle.rules.proofs.Laws.Octets.{same_eq, eq_same}
use Rattle.rules.proofs.Laws.Verdicts.{one, then_then}
use Rattle.rules.proofs.Laws.Formed.{SoundFrom, walk_sound}
use Rattle.rules.proofs.Laws.Faults.Told.{None, Told, Same, told_same, then_told, test_told, scan, told_passes, told_refuses}
use Rattle.rules.proofs.Laws.Faults.Rise.{Rises, read_rises, begin_prop, prop_prop, begin_begin, prop_begin}

-- ---- the properties of a node

module _ (ps : List Property) where
  abbrev none : Property
  none = record { place = 0; name = []; value = [] }

  abbrev at : ℕ → Property
  at k = get_or ps k none

  -- those before property k, as the pass has seen them
  unfoldable seen_props : ℕ → List Property
  seen_props zero = []
  seen_props (suc k) = at k ∷ seen_props k

  named_found : (n : Bytes) (k : ℕ) → named n (seen_props k) ≡ true → (i : ℕ) × (i < k) × (n ≡ (at i).name)
  unfolding named seen_props
  named_found n zero h = never false h refl
  named_found n (suc k) h = elim (or_cases (same n (at k).name) (named n (seen_props k)) h) [
    | inl e ↦ (k, omega arith, same_eq n (at k).name e)
    | inr e ↦ let r = named_found n k e in (r.0, omega (arith, r.1), r.2)
  ]

  named_seen : (n : Bytes) (k i : ℕ) → i < k → n ≡ (at i).name → named n (seen_props k) ≡ true
  unfolding named seen_props
  named_seen n zero i l e = absurd (omega arith)
  named_seen n (suc k) i l e = by_le k i
      (λ c. let z : i ≡ k = omega arith in
      or_left (same n (at k).name) (named n (seen_props k)) (eq_same n (at k).name (e ∙ ap (λ (j : ℕ). (at j).name) z)))
      (λ c. or_right (same n (at k).name) (named n (seen_props k)) (named_seen n k i c e))

  -- property k has the name of an earlier one
  abbrev PropFault : (k p : ℕ) → Type 0
  PropFault k p = (i : ℕ) × (i < k) × ((at i).name ≡ (at k).name) × ((at k).place ≡ p)

  prop_stop : doubled_props (seen_props (length ps)) (drop (length ps) ps) ≡ passes
  unfolding doubled_props
  prop_stop = rw (drop_of_length-le ps {i = length ps} (omega arith))

  prop_step : (k : ℕ) → k < length ps
      → doubled_props (seen_props k) (drop k ps) ≡ (one (named (at k).name (seen_props k)) 10 (at k).place then doubled_props (seen_props (suc k)) (drop (suc k) ps))
  unfolding doubled_props seen_props
  prop_step k h = ap (doubled_props (seen_props k)) (drop-cons ps k none h)

  prop_tells : (k : ℕ) → Told 10 (PropFault k) (one (named (at k).name (seen_props k)) 10 (at k).place)
  prop_tells k =
      told_same 10 (λ p. (named (at k).name (seen_props k) ≡ true) × ((at k).place ≡ p)) (PropFault k)
      (one (named (at k).name (seen_props k)) 10 (at k).place)
      (λ p. (
        λ x. let r = named_found (at k).name k x.0 in (r.0, r.1, sym r.2, x.1),
        λ x. (named_seen (at k).name k x.0 x.1 (sym x.2), x.3),
      ))
      (test_told 10 (named (at k).name (seen_props k)) (at k).place)

  props_told : ((i j : ℕ) → i < j → j < length ps → (at i).place < (at j).place)
      → Told 10 (λ p. (k : ℕ) × (k < length ps) × PropFault k p) (doubled_props [] ps)
  unfolding seen_props
  props_told rise =
      scan 10 (length ps) (λ k. doubled_props (seen_props k) (drop k ps)) (λ k. one (named (at k).name (seen_props k)) 10 (at k).place) PropFault
      prop_stop prop_step (λ k l b. prop_tells k)
      (λ i k p q g l f h. omega (arith, rise i k g l, f.3, h.3))

-- ---- the nodes

module _ (t : Tree) where
  unfoldable seen_nodes : ℕ → List Node
  seen_nodes zero = []
  seen_nodes (suc k) = node t k ∷ seen_nodes k

  sibling_found : (n : Node) (k : ℕ) → sibling n (seen_nodes k) ≡ true → (i : ℕ) × (i < k) × (n.parent ≡ (node t i).parent) × (n.name ≡ (node t i).name)
  unfolding sibling seen_nodes
  sibling_found n zero h = never false h refl
  sibling_found n (suc k) h = elim (or_cases (eqb n.parent (node t k).parent && same n.name (node t k).name) (sibling n (seen_nodes k)) h) [
    | inl e ↦
        let a = and_true (eqb n.parent (node t k).parent) (same n.name (node t k).name) e in
        (k, omega arith, eqb-true n.parent (node t k).parent a.0, same_eq n.name (node t k).name a.1)
    | inr e ↦ let r = sibling_found n k e in (r.0, omega (arith, r.1), r.2, r.3)
  ]

  sibling_seen : (n : Node) (k i : ℕ) → i < k → n.parent ≡ (node t i).parent → n.name ≡ (node t i).name → sibling n (seen_nodes k) ≡ true
  unfolding sibling seen_nodes
  sibling_seen n zero i l e f = absurd (omega arith)
  sibling_seen n (suc k) i l e f = by_le k i
      (λ c. let z : i ≡ k = omega arith in
      or_left (eqb n.parent (node t k).parent && same n.name (node t k).name) (sibling n (seen_nodes k))
      (true_and (eqb n.parent (node t k).parent) (same n.name (node t k).name)
      (eq-eqb n.parent (node t k).parent (e ∙ ap (λ (j : ℕ). (node t j).parent) z))
      (eq_same n.name (node t k).name (f ∙ ap (λ (j : ℕ). (node t j).name) z))))
      (λ c. or_right (eqb n.parent (node t k).parent && same n.name (node t k).name) (sibling n (seen_nodes k)) (sibling_seen n k i c e f))

  -- node k has the name of an earlier node with its parent; or a property of it is at fault
  abbrev BeginFault : (k p : ℕ) → Type 0
  BeginFault k p = (i : ℕ) × (i < k) × ((node t i).parent ≡ (node t k).parent) × ((node t i).name ≡ (node t k).name) × ((node t k).place ≡ p)

  abbrev InsideFault : (k p : ℕ) → Type 0
  InsideFault k p = (j : ℕ) × (j < length (node t k).props) × PropFault (node t k).props j p

  abbrev NodeFault : (k p : ℕ) → Type 0
  NodeFault k p = BeginFault k p ⊎ InsideFault k p

  abbrev begin_verdict : ℕ → Verdict
  begin_verdict k = one (sibling (node t k) (seen_nodes k)) 10 (node t k).place

  abbrev node_verdict : ℕ → Verdict
  node_verdict k = begin_verdict k then doubled_props [] (node t k).props

  abbrev from_judged : ℕ → Verdict
  from_judged k = doubled_from (seen_nodes k) (drop k t)

  node_stop : from_judged (length t) ≡ passes
  unfolding doubled_from
  node_stop = rw (drop_of_length-le t {i = length t} (omega arith))

  node_step : (k : ℕ) → k < length t → from_judged k ≡ (node_verdict k then from_judged (suc k))
  unfolding doubled_from seen_nodes
  node_step k h =
      ap (doubled_from (seen_nodes k)) (drop-cons t k nowhere h)
      ∙ sym (then_then (begin_verdict k) (doubled_props [] (node t k).props) (from_judged (suc k)))

  begin_tells : (k : ℕ) → Told 10 (BeginFault k) (begin_verdict k)
  begin_tells k =
      told_same 10 (λ p. (sibling (node t k) (seen_nodes k) ≡ true) × ((node t k).place ≡ p)) (BeginFault k) (begin_verdict k)
      (λ p. (
        λ x. let r = sibling_found (node t k) k x.0 in (r.0, r.1, sym r.2, sym r.3, x.1),
        λ x. (sibling_seen (node t k) k x.0 x.1 (sym x.2) (sym x.3), x.4),
      ))
      (test_told 10 (sibling (node t k) (seen_nodes k)) (node t k).place)

  module _ (r : Rises t) where
    node_tells : (k : ℕ) → k < length t → Told 10 (NodeFault k) (node_verdict k)
    node_tells k h =
        then_told 10 (BeginFault k) (InsideFault k) (NodeFault k) (begin_verdict k) (doubled_props [] (node t k).props) (begin_tells k)
        (λ n. props_told (node t k).props (λ i j g l. prop_prop t r k i j g (h, l)))
        (λ p x. inl x) split same
      where
        split : (p : ℕ) → NodeFault k p → BeginFault k p ⊎ ((q : ℕ) → BeginFault k q → q < p)
        split p (inl x) = inl x
        split p (inr x) = inr (λ q y. omega (arith, y.4, x.2.3, begin_prop t r k x.0 (h, x.1)))

        same : None (BeginFault k) → Same (InsideFault k) (NodeFault k)
        same n p = (λ x. inr x, λ x. elim x [ inl y ↦ absurd (n p y) | inr y ↦ y ])

    node_below : (i k p : ℕ) → i < k → k < length t → NodeFault i p → p < (node t k).place
    node_below i k p g l (inl x) = omega (arith, x.4, begin_begin t r i k g l)
    node_below i k p g l (inr x) = omega (arith, x.2.3, prop_begin t r i k x.0 g l x.1)

    node_above : (k p : ℕ) → k < length t → NodeFault k p → (node t k).place ≤ p
    node_above k p l (inl x) = omega (arith, x.4)
    node_above k p l (inr x) = omega (arith, x.2.3, begin_prop t r k x.0 (l, x.1))

    nodes_told : Told 10 (λ p. (k : ℕ) × (k < length t) × NodeFault k p) (doubled_judged t)
    unfolding doubled_judged seen_nodes
    nodes_told =
        scan 10 (length t) from_judged node_verdict NodeFault node_stop node_step (λ k l b. node_tells k l)
        (λ i k p q g l f h. omega (arith, node_below i k p g l f, node_above k q l h))

    module _ (s : SoundFrom 0 t) where
      -- the root shares its name with no other node
      inner : (i k : ℕ) → i < k → k < length t → (node t i).name ≡ (node t k).name → 0 < i
      inner zero k g l e = absurd ((s k l).named (omega arith) (sym e ∙ (s 0 (omega arith)).root refl))
      inner (suc i) k g l e = omega arith

      to-doubled : (p : ℕ) → ((k : ℕ) × (k < length t) × NodeFault k p) → DoubledAt t p
      to-doubled p (k, l, inl (i, g, e, f, here)) = sibling_at i k (inner i k g l f, g, l, e, f) here
      to-doubled p (k, l, inr (j, h, x)) = property_shared_at k x.0 j (x.1, (l, h), x.2) x.3

      of-doubled : (p : ℕ) → DoubledAt t p → ((k : ℕ) × (k < length t) × NodeFault k p)
      of-doubled p (sibling_at i k x e) = (k, x.2, inl (i, x.1, x.3, x.4, e))
      of-doubled p (property_shared_at n i k x e) = (n, x.1.0, inr (k, x.1.1, (i, x.0, x.2, e)))

      doubled-told : Told 10 (DoubledAt t) (doubled_judged t)
      doubled-told =
          told_same 10 (λ p. (k : ℕ) × (k < length t) × NodeFault k p) (DoubledAt t) (doubled_judged t) (λ p. (to-doubled p, of-doubled p)) nodes_told

  -- no place is at fault exactly where no two share a name
  none_doubled : None (DoubledAt t) → NamesApart t
  none_doubled h = (λ i k x. h (node t k).place (sibling_at i k x refl), λ n i k x. h (prop t n k).place (property_shared_at n i k x refl))

  doubled_none : NamesApart t → None (DoubledAt t)
  doubled_none h p (sibling_at i k x e) = h.0 i k x
  doubled_none h p (property_shared_at n i k x e) = h.1 n i k x

read_sound : (blob : Bytes) → shape_judged (block_in blob) ≡ passes → SoundFrom 0 (tree_read blob)
unfolding tree_read events_read
read_sound blob h = walk_sound (block_in blob) h

-- REFUSAL 10
pub doubled_exactly : DoubledExactly
doubled_exactly blob h =
    let t : Tree = tree_read blob in
    let d = doubled-told t (read_rises blob) (read_sound blob h) in
    let p = told_passes 10 (DoubledAt t) (doubled_judged t) d in
    ((λ e. none_doubled t (p.0 e), λ n. p.1 (doubled_none t n)), told_refuses 10 (DoubledAt t) (doubled_judged t) d)
