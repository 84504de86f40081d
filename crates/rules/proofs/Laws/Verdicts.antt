-- The laws of verdicts: what it says that judgements one after the other pass.
use Rattle.std.specs.Prelude.{◌≡◌, refl, ◌⊎◌, Bool, true, false, [], ◌∷◌, ℕ}
use Rattle.std.proofs.Common.{sym, inl, inr, arith}
use Rattle.rules.specs.Outcome.{Outcome, gives, refuses, Verdict, passes, ◌then◌, first}

pub gives_refuses : {X A : Type 0} (a : A) (number place : ℕ) → ◌≡◌ {A = Outcome A} (refuses number place) (gives a) → X
gives_refuses a number place e = let z : ◌≡◌ {A = ℕ} 0 1 = cc in absurd (omega arith)

pub refused_same : (m n p q : ℕ) → ◌≡◌ {A = Verdict} (refuses m p) (refuses n q) → (m ≡ n) × (p ≡ q)
refused_same m n p q e = (cc, cc)

pub then_passes : {A : Type 0} (v : Verdict) (o : Outcome A) (a : A) → (v then o) ≡ gives a → (v ≡ passes) × (o ≡ gives a)
then_passes (gives tt) o a e = (refl, e)
then_passes (refuses number place) o a e = gives_refuses a number place e

pub then_cases : (v w : Verdict) (number place : ℕ) → (v then w) ≡ refuses number place
    → (v ≡ refuses number place) ⊎ ((v ≡ passes) × (w ≡ refuses number place))
then_cases (gives tt) w number place e = inr (refl, e)
then_cases (refuses n p) w number place e = inl e

pub passes_then : {A : Type 0} (v : Verdict) (o : Outcome A) → v ≡ passes → (v then o) ≡ o
passes_then v o e = rw e

-- a single test
abbrev pub one : (fails : Bool) (number place : ℕ) → Verdict
one fails number place = first (record { fails = fails; number = number; place = place } ∷ [])

pub one_passes : (fails : Bool) (number place : ℕ) → one fails number place ≡ passes → fails ≡ false
one_passes true number place e = gives_refuses tt number place e
one_passes false number place e = refl

-- ---- one after the other

pub then_end : (v : Verdict) → (v then passes) ≡ v
then_end (gives tt) = refl
then_end (refuses number place) = refl

pub then_then : {A : Type 0} (v w : Verdict) (o : Outcome A) → ((v then w) then o) ≡ (v then (w then o))
then_then (gives u) w o = refl
then_then (refuses number place) w o = refl

pub then_refuses : {A : Type 0} (v : Verdict) (a : A) (number place : ℕ) → ◌≡◌ {A = Outcome A} (refuses number place) (v then gives a) → v ≡ refuses number place
then_refuses (gives u) a number place e = gives_refuses a number place e
then_refuses (refuses n p) a number place e = let f : n ≡ number = cc in let g : p ≡ place = cc in rw (f, g)

pub then_gives : (v : Verdict) (n m : ℕ) → gives n ≡ (v then gives m) → (v ≡ passes) × (n ≡ m)
then_gives (gives u) n m e = (refl, cc)
then_gives (refuses number place) n m e = gives_refuses n number place (sym e)
