-- A judgement that tells the first place at fault: it passes where nothing is, and else refuses there. Judgements one after the
-- other tell so, where their places go up.
use Rattle.std.specs.Prelude.{◌≡◌, refl, ◌⊎◌, ◌↔◌, Bool, true, false, ℕ, zero, suc, ◌+◌, ◌≤◌, ◌<◌}
use Rattle.std.proofs.Common.{sym, ap, ◌∙◌, subst, inl, inr, arith}
use Rattle.rules.specs.Outcome.{Verdict, gives, refuses, passes, ◌then◌}
use Rattle.rules.specs.Exactly.{First}
use Rattle.rules.proofs.Laws.Tests.{by_le, never}
use Rattle.rules.proofs.Laws.Verdicts.{gives_refuses, refused_same, one}

abbrev pub None : (ℕ → Type 0) → Type 0
None F = (p : ℕ) → F p → ⊥

abbrev pub Told : (number : ℕ) → (ℕ → Type 0) → Verdict → Type 0
Told number F (gives u) = None F
Told number F (refuses n place) = (n ≡ number) × First F place

abbrev pub Same : (F G : ℕ → Type 0) → Type 0
Same F G = (p : ℕ) → (F p → G p) × (G p → F p)

module _ (number : ℕ) where
  pub told_same : (F G : ℕ → Type 0) (v : Verdict) → Same F G → Told number F v → Told number G v
  told_same F G (gives u) s t = λ p g. t p ((s p).1 g)
  told_same F G (refuses n place) s t = (t.0, ((s place).0 t.1.0, λ p l g. t.1.1 p l ((s p).1 g)))

  -- one judgement, and then another: what is at fault in H is so in F, or stands behind all that is; and where nothing is at fault
  -- in F, H is G
  pub then_told : (F G H : ℕ → Type 0) (v w : Verdict) → Told number F v → (None F → Told number G w) → ((p : ℕ) → F p → H p)
      → ((p : ℕ) → H p → F p ⊎ ((q : ℕ) → F q → q < p)) → (None F → Same G H) → Told number H (v then w)
  then_told F G H (gives u) w t g into split same = told_same G H w (same t) (g t)
  then_told F G H (refuses n place) w t g into split same = (
    t.0,
    (
      into place t.1.0,
      λ p l h. elim (split p h) [ inl f ↦ t.1.1 p l f | inr b ↦ omega (arith, b place t.1.0) ],
    ),
  )

  -- a test
  pub test_told : (fails : Bool) (place : ℕ) → Told number (λ p. (fails ≡ true) × (place ≡ p)) (one fails number place)
  test_told true place = (refl, ((refl, refl), λ p l f. omega (arith, f.1)))
  test_told false place = λ p f. never false f.0 refl

  -- ---- one element after the other

  module _ (size : ℕ) (judged each : ℕ → Verdict) (F : ℕ → ℕ → Type 0) where
    abbrev From : (k p : ℕ) → Type 0
    From k p = (i : ℕ) × (k ≤ i) × (i < size) × F i p

    abbrev Before : ℕ → Type 0
    Before k = (i p : ℕ) → i < k → F i p → ⊥

    module _ (stop : judged size ≡ passes) (step : (k : ℕ) → k < size → judged k ≡ (each k then judged (suc k)))
        (tells : (k : ℕ) → k < size → Before k → Told number (F k) (each k))
        (order : (i k p q : ℕ) → i < k → k < size → F i p → F k q → p < q) where
      into : (k p : ℕ) → k < size → F k p → From k p
      into k p h f = (k, omega arith, h, f)

      split : (k p : ℕ) → k < size → From k p → F k p ⊎ ((q : ℕ) → F k q → q < p)
      split k p h (i, a, b, f) = by_le i k
          (λ c. let e : i ≡ k = omega arith in inl (subst (λ (j : ℕ). F j p) e f))
          (λ c. inr (λ q g. order k i q p c b g f))

      same : (k : ℕ) → k < size → None (F k) → Same (From (suc k)) (From k)
      same k h n p = (
        λ x. (x.0, omega (arith, x.1), x.2, x.3),
        λ x. (
          x.0,
          by_le x.0 k (λ c. let e : x.0 ≡ k = omega (arith, x.1) in absurd (n p (subst (λ (j : ℕ). F j p) e x.3))) (λ c. omega arith),
          x.2,
          x.3,
        ),
      )

      before : (k : ℕ) → Before k → None (F k) → Before (suc k)
      before k b n i p l f = by_le k i
          (λ c. let e : i ≡ k = omega arith in n p (subst (λ (j : ℕ). F j p) e f))
          (λ c. b i p c f)

      from : (m k : ℕ) → k + m ≡ size → Before k → Told number (From k) (judged k)
      from zero k e b =
          let z : k ≡ size = omega arith in
          subst (Told number (From k)) (sym (ap judged z ∙ stop)) (λ p x. omega (arith, x.1, x.2))
      from (suc m) k e b =
          let h : k < size = omega arith in
          subst (Told number (From k)) (sym (step k h))
          (then_told (F k) (From (suc k)) (From k) (each k) (judged (suc k)) (tells k h b) (λ n. from m (suc k) (omega arith) (before k b n))
          (λ p. into k p h) (λ p. split k p h) (same k h))

      -- A SCAN TELLS THE FIRST PLACE AT FAULT
      pub scan : Told number (λ p. (i : ℕ) × (i < size) × F i p) (judged 0)
      scan =
          told_same (From 0) (λ p. (i : ℕ) × (i < size) × F i p) (judged 0)
          (λ p. (λ x. (x.0, x.2, x.3), λ x. (x.0, omega arith, x.1, x.2)))
          (from size 0 (omega arith) (λ i p l f. omega arith))

-- ---- what it says of the verdict

pub told_passes : (number : ℕ) (F : ℕ → Type 0) (v : Verdict) → Told number F v → (v ≡ passes) ↔ None F
told_passes number F (gives tt) t = (λ e. t, λ n. refl)
told_passes number F (refuses n place) t = (λ e. gives_refuses tt n place e, λ none. absurd (none place t.1.0))

pub told_refuses : (number : ℕ) (F : ℕ → Type 0) (v : Verdict) → Told number F v → (n place : ℕ)
    → (v ≡ refuses n place) ↔ ((n ≡ number) × First F place)
told_refuses number F (gives tt) t n place = (λ e. gives_refuses tt n place (sym e), λ f. absurd (t place f.1.0))
told_refuses number F (refuses m q) t n place = (
  λ e. let r = refused_same m n q place e in (sym r.0 ∙ t.0, subst (First F) r.1 t.1),
  λ f. let a : m ≡ n = t.0 ∙ sym f.0 in
      let b : q ≡ place = by_le q place
      (λ c. by_le place q (λ d. omega arith) (λ d. absurd (f.1.1 q d t.1.0)))
      (λ c. absurd (t.1.1 place c f.1.0)) in
      λ i. refuses (a i) (b i),
)
