-- 11: "`phandle`, `linux,phandle` or one of the 14 `#...-cells` names in `build_phandle_map` isn't 4 bytes, or a node's two phandle
-- names disagree".
use Rattle.std.proofs.Math.Path.{◌≡◌, ap}
use Rattle.std.specs.Prelude.{refl, ◌⊎◌, Bool, true, false, not, ◌&&◌, ◌||◌, List, [], ◌∷◌, ◌++◌, ℕ, zero, suc, ◌<◌, eqb, get_or, drop, if◌then◌else◌}
use Rattle.std.proofs.Common.{sym, ◌∙◌, inl, inr, drop_of_length-le, drop-cons, eqb-true, ne_eqb}
use Rattle.std.proofs.Math.Option.{Option, none, some}
use mathlib.Core.List.Memᴰ
use Prim.Native.String.{String}
use native.Mathlib.Omega.{arith}
use Rattle.std.proofs.Math.ListN.{length}
use Rattle.std.proofs.lemmas.Bool.{eqb-false, not-true}
use Rattle.rules.specs.Octets.{Bytes, word_at, ascii, same}
use Rattle.rules.specs.Outcome.{Verdict, passes, ◌then◌, first}
use Rattle.rules.specs.Events.{Property}
use Rattle.rules.specs.Tree.{Tree, node, nowhere, among, phandle_names, cells_names, is_phandle, read_name, differs, words_from, words_judged}
use Rattle.rules.specs.Reader.{tree_read}
use Rattle.rules.specs.Listing.{◌∈◌}
use Rattle.rules.specs.Exactly.{prop, NamesRead, WordsRight, WordsAt, wrong_size_at, disagree_at, WordsExactly}
use Rattle.rules.proofs.Laws.Tests.{some_same, by_test, by_le, never, and_true, or_cases, or_left, or_right, or_assoc}
use Rattle.rules.proofs.Laws.Octets.{same_eq, eq_same}
use Rattle.rules.proofs.Laws.Faults.Told.{None, Told, told_same, scan, told_passes, told_refuses}
use Rattle.rules.proofs.Laws.Faults.Rise.{Rises, read_rises, begin_prop, prop_prop, prop_begin}

-- ---- the names

among_found : (n : Bytes) (ss : List String) → among n ss ≡ true → (s : String) × (s ∈ ss) × (n ≡ ascii s)
unfolding among
among_found n [] h = never false h refl
among_found n (s ∷ ss) h = elim (or_cases (same n (ascii s)) (among n ss) h) [
  | inl e ↦ (s, Memᴰ.head refl, same_eq n (ascii s) e)
  | inr e ↦ let r = among_found n ss e in (r.0, Memᴰ.tail r.1, r.2)
]

found_among : (n : Bytes) {s : String} {ss : List String} → s ∈ ss → n ≡ ascii s → among n ss ≡ true
unfolding among
found_among n (Memᴰ.head {x = x} {xs = xs} e) h = or_left (same n (ascii x)) (among n xs) (eq_same n (ascii x) (h ∙ ap ascii e))
found_among n (Memᴰ.tail {x = x} {xs = xs} m) h = or_right (same n (ascii x)) (among n xs) (found_among n m h)

among_append : (n : Bytes) (ss rs : List String) → among n (ss ++ rs) ≡ (among n ss || among n rs)
unfolding among
among_append n [] rs = refl
among_append n (s ∷ ss) rs =
    ap (λ (b : Bool). same n (ascii s) || b) (among_append n ss rs) ∙ sym (or_assoc (same n (ascii s)) (among n ss) (among n rs))

-- THE NAMES THAT 11 READS
pub names_read : NamesRead
names_read n = (
  λ h. among_found n (phandle_names ++ cells_names) (among_append n phandle_names cells_names ∙ h),
  λ x. sym (among_append n phandle_names cells_names) ∙ found_among n x.1 x.2,
)

-- ---- the tests

-- two tests at one place
abbrev two : (a b : Bool) (place : ℕ) → Verdict
two a b place = first (record { fails = a; number = 11; place = place } ∷ record { fails = b; number = 11; place = place } ∷ [])

two_told : (a b : Bool) (place : ℕ) → Told 11 (λ p. ((a ≡ true) ⊎ (b ≡ true)) × (place ≡ p)) (two a b place)
two_told true b place = (refl, ((inl refl, refl), λ p l f. omega (arith, f.1)))
two_told false true place = (refl, ((inr refl, refl), λ p l f. omega (arith, f.1)))
two_told false false place = λ p f. elim f.0 [ inl e ↦ never false e refl | inr e ↦ never false e refl ]

differs_some : (had : Option ℕ) (v : ℕ) → differs had v ≡ true → (u : ℕ) × (had ≡ some u) × (u ≡ v → ⊥)
differs_some none v h = never false h refl
differs_some (some u) v h = (u, refl, eqb-false u v (not-true (eqb u v) h))

-- ---- the properties of a node

module _ (ps : List Property) where
  abbrev nothing : Property
  nothing = record { place = 0; name = []; value = [] }

  abbrev at : ℕ → Property
  at k = get_or ps k nothing

  abbrev word : ℕ → ℕ
  word k = word_at (at k).value 0

  -- the phandle that the pass has before property k
  unfoldable had_at : ℕ → Option ℕ
  had_at zero = none
  had_at (suc k) = if is_phandle (at k).name then some (word k) else had_at k

  had_here : (k : ℕ) → is_phandle (at k).name ≡ true → had_at (suc k) ≡ some (word k)
  unfolding had_at
  had_here k e = rw e

  had_past : (k : ℕ) → is_phandle (at k).name ≡ false → had_at (suc k) ≡ had_at k
  unfolding had_at
  had_past k e = rw e

  had_none : (u : ℕ) → had_at 0 ≡ some u → ⊥
  unfolding had_at
  had_none u e = let z : ◌≡◌ {A = ℕ} 0 1 = cc in omega arith

  had_found : (k u : ℕ) → had_at k ≡ some u → (i : ℕ) × (i < k) × (is_phandle (at i).name ≡ true) × (word i ≡ u)
  had_found zero u h = absurd (had_none u h)
  had_found (suc k) u h = by_test (is_phandle (at k).name)
      (λ e. (k, omega arith, e, some_same (word k) u (sym (had_here k e) ∙ h)))
      (λ e. let r = had_found k u (sym (had_past k e) ∙ h) in (r.0, omega (arith, r.1), r.2, r.3))

  -- property k has the wrong size, or is a phandle other than an earlier one
  abbrev SizeFault : ℕ → Type 0
  SizeFault k = (read_name (at k).name ≡ true) × (length (at k).value ≡ 4 → ⊥)

  abbrev OtherFault : ℕ → Type 0
  OtherFault k = (i : ℕ) × (i < k) × (is_phandle (at i).name ≡ true) × (is_phandle (at k).name ≡ true) × (word i ≡ word k → ⊥)

  abbrev PropFault : (k p : ℕ) → Type 0
  PropFault k p = (SizeFault k ⊎ OtherFault k) × ((at k).place ≡ p)

  abbrev Before : ℕ → Type 0
  Before k = (i p : ℕ) → i < k → PropFault i p → ⊥

  -- where no earlier property is at fault, that phandle is the one of each of them
  had_holds : (k i : ℕ) → Before k → i < k → is_phandle (at i).name ≡ true → had_at k ≡ some (word i)
  had_holds zero i b l e = absurd (omega arith)
  had_holds (suc k) i b l e = by_test (is_phandle (at k).name)
      (λ f. let w : word k ≡ word i = by_le k i
      (λ c. let z : i ≡ k = omega arith in ap word (sym z))
      (λ c. by_test (eqb (word i) (word k))
      (λ g. sym (eqb-true (word i) (word k) g))
      (λ g. absurd (b k (at k).place (omega arith) (inr (i, c, e, f, eqb-false (word i) (word k) g), refl)))) in
      had_here k f ∙ ap (λ (u : ℕ). some u) w)
      (λ f. by_le k i
      (λ c. let z : i ≡ k = omega arith in never (is_phandle (at i).name) e (ap (λ (j : ℕ). is_phandle (at j).name) z ∙ f))
      (λ c. had_past k f ∙ had_holds k i (λ j p m x. b j p (omega arith) x) c e))

  abbrev wrong : ℕ → Bool
  wrong k = read_name (at k).name && not (eqb (length (at k).value) 4)

  abbrev other : ℕ → Bool
  other k = is_phandle (at k).name && differs (had_at k) (word k)

  wrong_size : (k : ℕ) → wrong k ≡ true → SizeFault k
  wrong_size k h =
      let a = and_true (read_name (at k).name) (not (eqb (length (at k).value) 4)) h in
      (a.0, eqb-false (length (at k).value) 4 (not-true (eqb (length (at k).value) 4) a.1))

  size_wrong : (k : ℕ) → SizeFault k → wrong k ≡ true
  size_wrong k x = rw (x.0, ne_eqb (length (at k).value) 4 x.1)

  other_found : (k : ℕ) → other k ≡ true → OtherFault k
  other_found k h =
      let a = and_true (is_phandle (at k).name) (differs (had_at k) (word k)) h in
      let d = differs_some (had_at k) (word k) a.1 in
      let f = had_found k d.0 d.1 in
      (f.0, f.1, f.2, a.0, λ e. d.2 (sym f.3 ∙ e))

  found_other : (k : ℕ) → Before k → OtherFault k → other k ≡ true
  found_other k b x = rw (x.3, had_holds k x.0 b x.1 x.2, ne_eqb (word x.0) (word k) x.4)

  prop_tells : (k : ℕ) → Before k → Told 11 (PropFault k) (two (wrong k) (other k) (at k).place)
  prop_tells k b =
      told_same 11 (λ p. ((wrong k ≡ true) ⊎ (other k ≡ true)) × ((at k).place ≡ p)) (PropFault k) (two (wrong k) (other k) (at k).place)
      (λ p. (
        λ x. (elim x.0 [ inl e ↦ inl (wrong_size k e) | inr e ↦ inr (other_found k e) ], x.1),
        λ x. (elim x.0 [ inl e ↦ inl (size_wrong k e) | inr e ↦ inr (found_other k b e) ], x.1),
      ))
      (two_told (wrong k) (other k) (at k).place)

  abbrev from_judged : ℕ → Verdict
  from_judged k = words_from (had_at k) (drop k ps)

  prop_stop : from_judged (length ps) ≡ passes
  unfolding words_from
  prop_stop = rw (drop_of_length-le ps {i = length ps} (omega arith))

  prop_step : (k : ℕ) → k < length ps → from_judged k ≡ (two (wrong k) (other k) (at k).place then from_judged (suc k))
  unfolding words_from had_at
  prop_step k h = ap (words_from (had_at k)) (drop-cons ps k nothing h)

  props_told : ((i j : ℕ) → i < j → j < length ps → (at i).place < (at j).place)
      → Told 11 (λ p. (k : ℕ) × (k < length ps) × PropFault k p) (words_from none ps)
  unfolding had_at
  props_told rise =
      scan 11 (length ps) from_judged (λ k. two (wrong k) (other k) (at k).place) PropFault prop_stop prop_step (λ k l b. prop_tells k b)
      (λ i k p q g l f h. omega (arith, rise i k g l, f.1, h.1))

-- ---- the nodes

module _ (t : Tree) where
  abbrev NodeFault : (k p : ℕ) → Type 0
  NodeFault k p = (j : ℕ) × (j < length (node t k).props) × PropFault (node t k).props j p

  node_stop : words_judged (drop (length t) t) ≡ passes
  unfolding words_judged
  node_stop = rw (drop_of_length-le t {i = length t} (omega arith))

  node_step : (k : ℕ) → k < length t → words_judged (drop k t) ≡ (words_from none (node t k).props then words_judged (drop (suc k) t))
  unfolding words_judged
  node_step k h = ap words_judged (drop-cons t k nowhere h)

  module _ (r : Rises t) where
    nodes_told : Told 11 (λ p. (k : ℕ) × (k < length t) × NodeFault k p) (words_judged t)
    nodes_told =
        scan 11 (length t) (λ k. words_judged (drop k t)) (λ k. words_from none (node t k).props) NodeFault node_stop node_step
        (λ k h b. props_told (node t k).props (λ i j g l. prop_prop t r k i j g (h, l)))
        (λ i k p q g l f h. omega (arith, prop_begin t r i k f.0 g l f.1, begin_prop t r k h.0 (l, h.1), f.2.1, h.2.1))

    to_words : (p : ℕ) → ((k : ℕ) × (k < length t) × NodeFault k p) → WordsAt t p
    to_words p (k, l, (j, h, (inl x, e))) = wrong_size_at k j ((l, h), x.0, x.1) e
    to_words p (k, l, (j, h, (inr x, e))) = disagree_at k x.0 j (x.1, (l, h), x.2, x.3, x.4) e

    of_words : (p : ℕ) → WordsAt t p → ((k : ℕ) × (k < length t) × NodeFault k p)
    of_words p (wrong_size_at n j x e) = (n, x.0.0, (j, x.0.1, (inl (x.1, x.2), e)))
    of_words p (disagree_at n i k x e) = (n, x.1.0, (k, x.1.1, (inr (i, x.0, x.2, x.3, x.4), e)))

    words_told : Told 11 (WordsAt t) (words_judged t)
    words_told = told_same 11 (λ p. (k : ℕ) × (k < length t) × NodeFault k p) (WordsAt t) (words_judged t) (λ p. (to_words p, of_words p)) nodes_told

  none_words : None (WordsAt t) → WordsRight t
  none_words h = (λ n j x. h (prop t n j).place (wrong_size_at n j x refl), λ n i k x. h (prop t n k).place (disagree_at n i k x refl))

  words_none : WordsRight t → None (WordsAt t)
  words_none h p (wrong_size_at n j x e) = h.0 n j x
  words_none h p (disagree_at n i k x e) = h.1 n i k x

-- REFUSAL 11
pub words_exactly : WordsExactly
words_exactly blob =
    let t : Tree = tree_read blob in
    let d = words_told t (read_rises blob) in
    let p = told_passes 11 (WordsAt t) (words_judged t) d in
    ((λ e. none_words t (p.0 e), λ n. p.1 (words_none t n)), told_refuses 11 (WordsAt t) (words_judged t) d)
