-- The laws of the copy: with a node its parent is copied.
use Rattle.std.specs.Prelude.{◌≡◌, refl, ◌⊎◌, false, not, ◌&&◌, ◌||◌, List, length}
use Rattle.std.proofs.Common.{sym, ◌∙◌, arith, eqb-true, eq-eqb}
use Rattle.std.proofs.Math.Logic.{inl, inr}
use Rattle.std.proofs.Math.Bool.{Bool, true}
use mathlib.Core.List.Memᴰ
use Prim.Native.Nat.{ℕ, suc, ◌<◌}
use Rattle.std.proofs.Math.Dec.{eqb}
use Rattle.std.proofs.lemmas.Bool.{eqb-false, not-true}
use Rattle.rules.specs.Octets.{ascii, same}
use Rattle.rules.specs.Lists.{any, keep}
use Rattle.rules.specs.Tree.{Tree, node, below, climb, Frame, frame, numbers}
use Rattle.rules.specs.References.{Rules}
use Rattle.rules.specs.Listing.{◌∈◌, within, listed}
use Rattle.rules.specs.Copy.{Asked, near, null, is_cpus, stranger, picked, copied}
use Rattle.rules.proofs.Laws.Tests.{by_test, or_cases, or_left, or_right, or_false, and_true}
use Rattle.rules.proofs.Laws.Lists.{keep_of, any_yes, yes_any, any_or}
use Rattle.rules.specs.Laws.Paths.{Formed}
use Rattle.rules.proofs.Laws.Paths.{by_parent, below_step}
use Rattle.rules.proofs.Laws.Listing.{within_spared, spared_within}

module _ (t : Tree) (w : Formed t) where
  below_cases : (p i : ℕ) → suc i < length t → below t p (suc i) ≡ true → ((node t (suc i)).parent ≡ p) ⊎ (below t p (node t (suc i)).parent ≡ true)
  below_cases p i h b = elim (or_cases (eqb (node t (suc i)).parent p) (below t p (node t (suc i)).parent) (sym (below_step t w p i h) ∙ b)) [
    | inl e ↦ inl (eqb-true (node t (suc i)).parent p e)
    | inr e ↦ inr e
  ]

  below_parent : (i : ℕ) → suc i < length t → below t (node t (suc i)).parent (suc i) ≡ true
  below_parent i h = below_step t w (node t (suc i)).parent i h ∙ or_left _ _ (eq-eqb (node t (suc i)).parent (node t (suc i)).parent refl)

  -- below is transitive
  pub below_trans : (p q i : ℕ) → below t p q ≡ true → i < length t → below t q i ≡ true → below t p i ≡ true
  unfolding climb
  below_trans p q i b = by_parent t w (λ i. below t q i ≡ true → below t p i ≡ true) (λ e. e)
      (λ i h ih e. below_step t w p i h ∙ or_right (eqb (node t (suc i)).parent p) (below t p (node t (suc i)).parent)
      (elim (below_cases q i h e) [ inl g ↦ rw g b | inr g ↦ ih g ])) i

  -- what is not within some nodes has its parent not within them
  within_up : (l : List ℕ) (i : ℕ) → suc i < length t → within (frame t) l (suc i) ≡ false → within (frame t) l (node t (suc i)).parent ≡ false
  within_up l i h e = spared_within t l (node t (suc i)).parent (λ d m.
      let k =
      or_false (eqb (node t (suc i)).parent d) (below t d (node t (suc i)).parent)
      (sym (below_step t w d i h) ∙ (within_spared t l (suc i) e d m).1) in
      (eqb-false (node t (suc i)).parent d k.0, k.1))

  -- a node within some nodes is one of them, or its parent is within them
  within_down : (l : List ℕ) (i : ℕ) → suc i < length t → within (frame t) l (suc i) ≡ true
      → (suc i ∈ l) ⊎ (within (frame t) l (node t (suc i)).parent ≡ true)
  unfolding within
  within_down l i h e =
      let p : ℕ = (node t (suc i)).parent in
      let test : ℕ → Bool = λ d. eqb p d || below t d p in
      let r = any_yes (λ d. eqb (suc i) d || below t d (suc i)) l e in
      elim (or_cases (eqb (suc i) r.0) (below t r.0 (suc i)) r.2) [
        | inl g ↦ inl (Memᴰ.cast (eqb-true (suc i) r.0 g) r.1)
        | inr g ↦ inr (yes_any test r.1 (elim (below_cases r.0 i h g) [
          | inl a ↦ or_left (eqb p r.0) (below t r.0 p) (eq-eqb p r.0 a)
          | inr a ↦ or_right (eqb p r.0) (below t r.0 p) a
        ]))
      ]

  near_up : (ls : List ℕ) → ((x : ℕ) → x ∈ ls → x < length t) → (i : ℕ) → suc i < length t → near (frame t) ls (suc i) ≡ true
      → near (frame t) ls (node t (suc i)).parent ≡ true
  unfolding near
  near_up ls small i h e =
      yes_any (λ j. eqb p j || below t j p || below t p j) r.1 (go (or_cases (eqb (suc i) j || below t j (suc i)) (below t (suc i) j) r.2))
    where
      p : ℕ
      p = (node t (suc i)).parent

      r : (z : ℕ) × (z ∈ ls) × ((eqb (suc i) z || below t z (suc i) || below t (suc i) z) ≡ true)
      r = any_yes (λ j. eqb (suc i) j || below t j (suc i) || below t (suc i) j) ls e

      j : ℕ
      j = r.0

      third : below t p j ≡ true → (eqb p j || below t j p || below t p j) ≡ true
      third b = or_right (eqb p j || below t j p) (below t p j) b

      first : (eqb p j || below t j p) ≡ true → (eqb p j || below t j p || below t p j) ≡ true
      first b = or_left (eqb p j || below t j p) (below t p j) b

      go : ((eqb (suc i) j || below t j (suc i)) ≡ true) ⊎ (below t (suc i) j ≡ true) → (eqb p j || below t j p || below t p j) ≡ true
      go (inr b) = third (below_trans p (suc i) j (below_parent i h) (small j r.1) b)
      go (inl b) = elim (or_cases (eqb (suc i) j) (below t j (suc i)) b) [
        | inl a ↦ third (rw (← eqb-true (suc i) j a) (below_parent i h))
        | inr a ↦ first (elim (below_cases j i h a) [
          | inl c ↦ or_left (eqb p j) (below t j p) (eq-eqb p j c)
          | inr c ↦ or_right (eqb p j) (below t j p) c
        ])
      ]

-- near some nodes is within them, or above one
pub near_split : (t : Tree) (ls : List ℕ) (i : ℕ) → near (frame t) ls i ≡ (within (frame t) ls i || any (below t i) ls)
unfolding near within
near_split t ls i = any_or (λ (j : ℕ). eqb i j || below t j i) (below t i) ls

module _ (q : Asked) (f : Frame) (strange : ℕ → Bool) (ls : List ℕ) (i : ℕ) where
  abbrev all : List ℕ
  all = numbers f

  picked_cpu : within f (keep (is_cpus f) all) i ≡ true → picked q f strange ls i
      ≡ (eqb i 0 || (not (null q.ids) && not (within f (keep strange all) i)))
  unfolding picked
  picked_cpu e = rw (e, picked)

  picked_else : within f (keep (is_cpus f) all) i ≡ false → picked q f strange ls i ≡ (eqb i 0 || (near f ls i && not (within f q.excl i)))
  unfolding picked
  picked_else e = rw (e, picked)

-- the root is not `/cpus`, and `/cpus` is a child of the root
pub cpus_root : (f : Frame) → is_cpus f 0 ≡ false
unfolding is_cpus
cpus_root f = refl

pub is_cpus_up : (f : Frame) (i : ℕ) → is_cpus f i ≡ true → eqb (f.up i) 0 ≡ true
unfolding is_cpus
is_cpus_up f i e = (and_true (not (eqb i 0)) (eqb (f.up i) 0) (and_true (not (eqb i 0) && eqb (f.up i) 0) (same (f.name i) (ascii "cpus")) e).0).1

-- the root is copied
pub copied_root : (r : Rules) (q : Asked) (t : Tree) → copied r q t 0 ≡ true
unfolding copied picked
copied_root r q t = refl

-- WITH A NODE ITS PARENT IS COPIED
pub copied_parent : (r : Rules) (q : Asked) (t : Tree) → Formed t → ((x : ℕ) → x ∈ listed r t q.conf q.excl → x < length t)
    → (i : ℕ) → suc i < length t → copied r q t (suc i) ≡ true → copied r q t (node t (suc i)).parent ≡ true
unfolding copied
copied_parent r q t w small i h c = by_test (eqb p 0) (λ z. root z) (λ z. by_test (within f cpus (suc i)) inside outside)
  where
    p : ℕ
    p = (node t (suc i)).parent

    f : Frame
    f = frame t

    strange : ℕ → Bool
    strange = stranger t q.ids

    ls : List ℕ
    ls = listed r t q.conf q.excl

    nodes : List ℕ
    nodes = numbers (frame t)

    cpus : List ℕ
    cpus = keep (is_cpus f) nodes

    root : eqb p 0 ≡ true → picked q f strange ls p ≡ true
    root z = by_test (within f cpus p)
        (λ e. picked_cpu q f strange ls p e ∙ or_left (eqb p 0) _ z)
        (λ e. picked_else q f strange ls p e ∙ or_left (eqb p 0) _ z)

    -- the rule that let the node in, for a node that is not the root
    kept : (b : Bool) → picked q f strange ls (suc i) ≡ (eqb (suc i) 0 || b) → b ≡ true
    kept b e = elim (or_cases (eqb (suc i) 0) b (sym e ∙ c)) [ inl z ↦ absurd (omega (arith, eqb-true (suc i) 0 z)) | inr z ↦ z ]

    inside : within f cpus (suc i) ≡ true → picked q f strange ls p ≡ true
    inside e =
        let k = and_true (not (null q.ids)) (not (within f (keep strange nodes) (suc i))) (kept _ (picked_cpu q f strange ls (suc i) e)) in
        elim (within_down t w cpus i h e) [
          | inl m ↦ root (is_cpus_up f (suc i) (keep_of (is_cpus f) nodes (suc i) m).1)
          | inr m ↦ picked_cpu q f strange ls p m ∙ or_right (eqb p 0) (not (null q.ids) && not (within f (keep strange nodes) p))
              (rw (k.0, within_up t w (keep strange nodes) i h (not-true (within f (keep strange nodes) (suc i)) k.1)))
        ]

    outside : within f cpus (suc i) ≡ false → picked q f strange ls p ≡ true
    outside e =
        let k = and_true (near f ls (suc i)) (not (within f q.excl (suc i))) (kept _ (picked_else q f strange ls (suc i) e)) in
        picked_else q f strange ls p (within_up t w cpus i h e) ∙ or_right (eqb p 0) (near f ls p && not (within f q.excl p))
        (rw (near_up t w ls small i h k.0, within_up t w q.excl i h (not-true (within f q.excl (suc i)) k.1)))
