-- 12: "two nodes have one phandle"; the place is "the later node's first phandle token".
use Rattle.std.specs.Prelude.{◌≡◌, true, List, [], ◌∷◌, eqb, get_or, drop}
use Rattle.std.proofs.Math.Path.{refl, ap}
use Rattle.std.proofs.Common.{sym, ◌∙◌, subst, drop_of_length-le, drop-cons}
use Rattle.std.proofs.Math.Logic.{inl, inr}
use Rattle.std.proofs.Math.Bool.{false}
use Rattle.std.proofs.Math.Option.{Option, none, some}
use Prim.Native.Nat.{ℕ, zero, suc, ◌≤◌, ◌<◌}
use native.Mathlib.Omega.{arith}
use Rattle.std.proofs.Math.ListN.{length}
use borrow.Author.Tests.{eqb-true, eq-eqb}
use Rattle.rules.specs.Octets.{word_at}
use Rattle.rules.specs.Outcome.{Verdict, passes, ◌then◌}
use Rattle.rules.specs.Lists.{one_of}
use Rattle.rules.specs.Events.{Property}
use Rattle.rules.specs.Tree.{Node, Tree, node, nowhere, is_phandle, phandle_prop, shared_from, shared_judged}
use Rattle.rules.specs.Reader.{tree_read}
use Rattle.rules.specs.Exactly.{prop, FirstPhandle, OnePhandle, PhandlesApart, SharedAt, shared_at, SharedExactly}
use Rattle.rules.proofs.Laws.Tests.{some_same, by_test, by_le, never, or_cases, or_left, or_right}
use Rattle.rules.proofs.Laws.Verdicts.{one}
use Rattle.rules.proofs.Laws.Passes.{phandle_here, phandle_past, shared_none, shared_some}
use Rattle.rules.proofs.Laws.Faults.Told.{None, Told, told_same, test_told, scan, told_passes, told_refuses}
use Rattle.rules.proofs.Laws.Faults.Rise.{Rises, read_rises, begin_prop, prop_begin}

none_some : {X : Type 0} (p : Property) → ◌≡◌ {A = Option Property} none (some p) → X
none_some p e = let z : ◌≡◌ {A = ℕ} 0 1 = cc in absurd (omega arith)

-- ---- the first phandle of a node

abbrev at : List Property → ℕ → Property
at ps j = get_or ps j (record { place = 0; name = []; value = [] })

record FirstIn (ps : List Property) (j : ℕ) : Type 0 where
  inside : j < length ps
  phandle : is_phandle (at ps j).name ≡ true
  before : (i : ℕ) → i < j → is_phandle (at ps i).name ≡ false

first_more : (q : Property) (ps : List Property) (j : ℕ) → is_phandle q.name ≡ false → FirstIn ps j → FirstIn (q ∷ ps) (suc j)
first_more q ps j e f = record { inside = omega (arith, f.inside); phandle = f.phandle; before = earlier }
  where
    earlier : (i : ℕ) → i < suc j → is_phandle (at (q ∷ ps) i).name ≡ false
    earlier zero l = e
    earlier (suc i) l = f.before i (omega arith)

first_found : (ps : List Property) (p : Property) → phandle_prop ps ≡ some p → (j : ℕ) × FirstIn ps j × (at ps j ≡ p)
unfolding phandle_prop
first_found [] p h = none_some p h
first_found (q ∷ ps) p h = by_test (is_phandle q.name)
    (λ e. (0, record { inside = omega arith; phandle = e; before = λ i (l : i < 0). absurd (omega arith) }, some_same q p (sym (phandle_here q ps e) ∙ h)))
    (λ e. let r = first_found ps p (sym (phandle_past q ps e) ∙ h) in (suc r.0, first_more q ps r.0 e r.1, r.2))

first_gives : (ps : List Property) (j : ℕ) → FirstIn ps j → phandle_prop ps ≡ some (at ps j)
first_gives [] j f = absurd (omega (arith, f.inside))
first_gives (q ∷ ps) zero f = phandle_here q ps f.phandle
first_gives (q ∷ ps) (suc j) f =
    phandle_past q ps (f.before 0 (omega arith))
    ∙ first_gives ps j
    (record { inside = omega (arith, f.inside); phandle = f.phandle; before = λ i (l : i < j). f.before (suc i) (omega arith) })

-- ---- the pass

-- what the pass tests at a node, and what it has seen after it
abbrev word : Property → ℕ
word p = word_at p.value 0

abbrev tested : Option Property → List ℕ → Verdict
tested none seen = passes
tested (some p) seen = one (one_of (word p) seen) 12 p.place

abbrev pushed : Option Property → List ℕ → List ℕ
pushed none seen = seen
pushed (some p) seen = word p ∷ seen

step_by : (seen : List ℕ) (n : Node) (ns : List Node) (o : Option Property) → phandle_prop n.props ≡ o
    → shared_from seen (n ∷ ns) ≡ (tested o seen then shared_from (pushed o seen) ns)
step_by seen n ns none e = shared_none seen n ns e
step_by seen n ns (some p) e = shared_some seen n ns p e

module _ (t : Tree) where
  abbrev found : ℕ → Option Property
  found k = phandle_prop (node t k).props

  unfoldable seen_at : ℕ → List ℕ
  seen_at zero = []
  seen_at (suc k) = pushed (found k) (seen_at k)

  to_first : (n j : ℕ) → n < length t → FirstIn (node t n).props j → FirstPhandle t n j
  to_first n j l f = ((l, f.inside), f.phandle, f.before)

  of_first : (n j : ℕ) → FirstPhandle t n j → FirstIn (node t n).props j
  of_first n j f = record { inside = f.0.1; phandle = f.1; before = f.2 }

  -- a word that the pass has seen before node k is the phandle of an earlier node
  abbrev Seen : (v k : ℕ) → Type 0
  Seen v k = (i : ℕ) × (l : ℕ) × (i < k) × FirstPhandle t i l × (v ≡ word (prop t i l))

  seen_later : (v k : ℕ) → Seen v k → Seen v (suc k)
  seen_later v k r = (r.0, r.1, omega (arith, r.2), r.3, r.4)

  seen_by : (v k : ℕ) → k < length t → (one_of v (seen_at k) ≡ true → Seen v k) → (o : Option Property) → found k ≡ o
      → one_of v (pushed o (seen_at k)) ≡ true → Seen v (suc k)
  unfolding one_of
  seen_by v k h ih none f e = seen_later v k (ih e)
  seen_by v k h ih (some p) f e = elim (or_cases (eqb v (word p)) (one_of v (seen_at k)) e) [
    | inl g ↦
        let r = first_found (node t k).props p f in
        (k, r.0, omega arith, to_first k r.0 h r.1, eqb-true v (word p) g ∙ ap word (sym r.2))
    | inr g ↦ seen_later v k (ih g)
  ]

  seen_found : (v k : ℕ) → k ≤ length t → one_of v (seen_at k) ≡ true → Seen v k
  unfolding seen_at one_of
  seen_found v zero h e = never false e refl
  seen_found v (suc k) h e = seen_by v k (omega arith) (λ g. seen_found v k (omega arith) g) (found k) refl e

  pushed_here : (v : ℕ) (o : Option Property) (p : Property) (seen : List ℕ) → o ≡ some p → v ≡ word p → one_of v (pushed o seen) ≡ true
  unfolding one_of
  pushed_here v o p seen e f = rw e (or_left (eqb v (word p)) (one_of v seen) (eq-eqb v (word p) f))

  pushed_past : (v : ℕ) (o : Option Property) (seen : List ℕ) → one_of v seen ≡ true → one_of v (pushed o seen) ≡ true
  unfolding one_of
  pushed_past v none seen e = e
  pushed_past v (some p) seen e = or_right (eqb v (word p)) (one_of v seen) e

  seen_holds : (k i l : ℕ) → i < k → FirstPhandle t i l → one_of (word (prop t i l)) (seen_at k) ≡ true
  unfolding seen_at
  seen_holds zero i l g f = absurd (omega arith)
  seen_holds (suc k) i l g f = by_le k i
      (λ c. let z : i ≡ k = omega arith in
      pushed_here (word (prop t i l)) (found k) (prop t i l) (seen_at k) (ap found (sym z) ∙ first_gives (node t i).props l (of_first i l f)) refl)
      (λ c. pushed_past (word (prop t i l)) (found k) (seen_at k) (seen_holds k i l c f))

  abbrev NodeFault : (k p : ℕ) → Type 0
  NodeFault k p = (i : ℕ) × (l : ℕ) × (m : ℕ) × OnePhandle t i k l m × ((prop t k m).place ≡ p)

  fault_of : (k p : ℕ) (q : Property) → k < length t → found k ≡ some q → one_of (word q) (seen_at k) ≡ true → q.place ≡ p → NodeFault k p
  fault_of k p q h f e g =
      let s = seen_found (word q) k (omega arith) e in
      let r = first_found (node t k).props q f in (
        s.0,
        s.1,
        r.0,
        (s.2, s.3, to_first k r.0 h r.1, sym s.4 ∙ ap word (sym r.2)),
        ap (λ (x : Property). x.place) r.2 ∙ g,
      )

  of_fault : (k p : ℕ) (q : Property) → found k ≡ some q → NodeFault k p → (one_of (word q) (seen_at k) ≡ true) × (q.place ≡ p)
  of_fault k p q f (i, l, m, x, e) =
      let z : prop t k m ≡ q = some_same (prop t k m) q (sym (first_gives (node t k).props m (of_first k m x.2)) ∙ f) in
      let w : word (prop t i l) ≡ word q = x.3 ∙ ap word z in
      (subst (λ (v : ℕ). one_of v (seen_at k) ≡ true) w (seen_holds k i l x.0 x.1), ap (λ (y : Property). y.place) (sym z) ∙ e)

  tells_by : (k : ℕ) → k < length t → (o : Option Property) → found k ≡ o → Told 12 (NodeFault k) (tested o (seen_at k))
  tells_by k h none f = λ p x. none_some (prop t k x.2) (sym f ∙ first_gives (node t k).props x.2 (of_first k x.2 x.3.2))
  tells_by k h (some q) f =
      told_same 12 (λ p. (one_of (word q) (seen_at k) ≡ true) × (q.place ≡ p)) (NodeFault k) (one (one_of (word q) (seen_at k)) 12 q.place)
      (λ p. (λ x. fault_of k p q h f x.0 x.1, λ x. of_fault k p q f x))
      (test_told 12 (one_of (word q) (seen_at k)) q.place)

  abbrev from_judged : ℕ → Verdict
  from_judged k = shared_from (seen_at k) (drop k t)

  node_stop : from_judged (length t) ≡ passes
  unfolding shared_from
  node_stop = rw (drop_of_length-le t {i = length t} (omega arith))

  node_step : (k : ℕ) → k < length t → from_judged k ≡ (tested (found k) (seen_at k) then from_judged (suc k))
  unfolding seen_at
  node_step k h = ap (shared_from (seen_at k)) (drop-cons t k nowhere h) ∙ step_by (seen_at k) (node t k) (drop (suc k) t) (found k) refl

  module _ (r : Rises t) where
    nodes_told : Told 12 (λ p. (k : ℕ) × (k < length t) × NodeFault k p) (shared_judged t)
    unfolding shared_judged seen_at
    nodes_told =
        scan 12 (length t) from_judged (λ k. tested (found k) (seen_at k)) NodeFault node_stop node_step (λ k h b. tells_by k h (found k) refl)
        (λ i k p q g l f h. omega (
          arith,
          prop_begin t r i k f.2 g l f.3.2.0.1,
          begin_prop t r k h.2 h.3.2.0,
          f.4,
          h.4,
        ))

    to_shared : (p : ℕ) → ((k : ℕ) × (k < length t) × NodeFault k p) → SharedAt t p
    to_shared p (k, h, (i, l, m, x, e)) = shared_at i k l m x e

    of_shared : (p : ℕ) → SharedAt t p → ((k : ℕ) × (k < length t) × NodeFault k p)
    of_shared p (shared_at i k l m x e) = (k, x.2.0.0, (i, l, m, x, e))

    shared_told : Told 12 (SharedAt t) (shared_judged t)
    shared_told =
        told_same 12 (λ p. (k : ℕ) × (k < length t) × NodeFault k p) (SharedAt t) (shared_judged t) (λ p. (to_shared p, of_shared p)) nodes_told

  none_shared : None (SharedAt t) → PhandlesApart t
  none_shared h i k l m x = h (prop t k m).place (shared_at i k l m x refl)

  shared_none_at : PhandlesApart t → None (SharedAt t)
  shared_none_at h p (shared_at i k l m x e) = h i k l m x

-- REFUSAL 12
pub shared_exactly : SharedExactly
shared_exactly blob =
    let t : Tree = tree_read blob in
    let d = shared_told t (read_rises blob) in
    let p = told_passes 12 (SharedAt t) (shared_judged t) d in
    ((λ e. none_shared t (p.0 e), λ n. p.1 (shared_none_at t n)), told_refuses 12 (SharedAt t) (shared_judged t) d)
