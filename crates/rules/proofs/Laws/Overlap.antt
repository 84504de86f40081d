-- Of valid reservations, overlap is found exactly if an address lies in two of them.
use Rattle.std.specs.Prelude.{◌≡◌, true, false, List, [], ◌∷◌, ℕ, zero, suc, ◌+◌, ◌≤◌, ◌<◌, length, take, drop, get_or}
use Rattle.std.proofs.Common.{sym, ap, ◌∙◌, inl, inr, arith}
use Rattle.std.proofs.Math.Seq.{take-length}
use Rattle.rules.specs.Reservations.{Entry, invalid, any_invalid, overlapping}
use Rattle.rules.specs.Exactly.{OverlapExactly}
use Rattle.rules.proofs.Laws.Tests.{by_le, never, or_cases, or_false, or_left, or_right}
use Rattle.rules.specs.Laws.Reservations.{meets, any_meets}
use Rattle.rules.proofs.Laws.Reservations.{pairs_from, overlapping_pairs, meets_step, pairs_step, meets_end, pairs_end, share_meets, meets_share}

-- what stands past the end
abbrev none : Entry
none = record { address = 0; size = 0 }

valid_at : (es : List Entry) (i : ℕ) → i < length es → any_invalid es ≡ false → invalid (get_or es i none) ≡ false
unfolding any_invalid
valid_at [] i h v = absurd (let z : ⊥ = omega arith in z)
valid_at (e ∷ es) zero h v = (or_false (invalid e) (any_invalid es) v).0
valid_at (e ∷ es) (suc i) h v = valid_at es i (omega arith) (or_false (invalid e) (any_invalid es) v).1

module _ (es : List Entry) where
  -- the entry at a place
  abbrev at : ℕ → Entry
  at i = get_or es i none

  -- one of the first n, from i on, that meets e
  meets_yes : (e : Entry) (n : ℕ) → n ≤ length es → (k i : ℕ) → i + k ≡ n → any_meets (drop i (take n es)) e ≡ true
      → (x : ℕ) × (x < n) × (meets (at x) e ≡ true)
  meets_yes e n l zero i h t = never (any_meets (drop i (take n es)) e) t (meets_end es n i (omega arith) e)
  meets_yes e n l (suc k) i h t =
      elim (or_cases (meets (at i) e) (any_meets (drop (i + 1) (take n es)) e) (sym (meets_step es n i none (omega arith) l e) ∙ t)) [
        | inl m ↦ (i, omega arith, m)
        | inr m ↦ meets_yes e n l k (i + 1) (omega arith) m
      ]

  yes_meets : (e : Entry) (n : ℕ) → n ≤ length es → (k i x : ℕ) → i + k ≡ n → i ≤ x → x < n → meets (at x) e ≡ true
      → any_meets (drop i (take n es)) e ≡ true
  yes_meets e n l zero i x h p q m = absurd (let z : ⊥ = omega arith in z)
  yes_meets e n l (suc k) i x h p q m =
      meets_step es n i none (omega arith) l e
      ∙ by_le x i
      (λ b. let same : x ≡ i = omega arith in or_left (meets (at i) e) (any_meets (drop (i + 1) (take n es)) e) (rw same at m))
      (λ b. or_right (meets (at i) e) (any_meets (drop (i + 1) (take n es)) e) (yes_meets e n l k (i + 1) x (omega arith) (omega arith) q m))

  -- two that meet, the earlier first
  abbrev Pair : Type 0
  Pair = (i : ℕ) × (j : ℕ) × (i < j) × (j < length es) × (meets (at i) (at j) ≡ true)

  abbrev all : ℕ
  all = length es

  pairs_yes : (k i : ℕ) → i + k ≡ all → pairs_from (take i es) (drop i (take all es)) ≡ true → Pair
  pairs_yes zero i h t = never (pairs_from (take i es) (drop i (take all es))) t (pairs_end es all i (omega arith) (take i es))
  pairs_yes (suc k) i h t =
      elim (or_cases (any_meets (take i es) (at i)) (pairs_from (take (i + 1) es) (drop (i + 1) (take all es))) (sym (pairs_step es all i none (omega arith) (omega arith)) ∙ t)) [
        | inl m ↦ let r = meets_yes (at i) i (omega arith) i 0 (omega arith) m in (r.0, i, r.1, omega arith, r.2)
        | inr m ↦ pairs_yes k (i + 1) (omega arith) m
      ]

  yes_pairs : (k i : ℕ) → i + k ≡ all → (p : Pair) → i ≤ p.1 → pairs_from (take i es) (drop i (take all es)) ≡ true
  yes_pairs zero i h p b = absurd (let l = p.3 in let z : ⊥ = omega arith in z)
  yes_pairs (suc k) i h p b =
      pairs_step es all i none (omega arith) (omega arith)
      ∙ by_le p.1 i
      (λ q. let same : p.1 ≡ i = omega arith in
      let l : p.0 < i = omega (arith, p.2) in
      or_left (any_meets (take i es) (at i)) (pairs_from (take (i + 1) es) (drop (i + 1) (take all es)))
      (yes_meets (at i) i (omega arith) i 0 p.0 (omega arith) (omega arith) l (rw same at p.4)))
      (λ q. or_right (any_meets (take i es) (at i)) (pairs_from (take (i + 1) es) (drop (i + 1) (take all es))) (yes_pairs k (i + 1) (omega arith) p (omega arith)))

  start : pairs_from (take 0 es) (drop 0 (take all es)) ≡ overlapping es
  start = ap (pairs_from []) (take-length es) ∙ sym (overlapping_pairs es)

-- OVERLAP IS FOUND EXACTLY IF AN ADDRESS LIES IN TWO ENTRIES
pub overlap_exactly : OverlapExactly
overlap_exactly es v = (
  λ o.
      let p = pairs_yes es (length es) 0 (omega arith) (start es ∙ o) in
      let l = p.2 in
      let m = p.3 in
      let s = meets_share (at es p.0) (at es p.1) (valid_at es p.0 (omega arith) v) (valid_at es p.1 m v) p.4 in
      (p.0, p.1, s.0, l, m, s.1, s.2),
  λ x.
      sym (start es)
      ∙ yes_pairs es (length es) 0 (omega arith) (x.0, x.1, x.3, x.4, share_meets (at es x.0) (at es x.1) x.2 x.5 x.6) (omega arith),
)
