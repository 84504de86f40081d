-- Tests and what they say: from a Bool to the fact, and back.
use Rattle.std.specs.Prelude.{◌≡◌, refl, ◌⊎◌, Bool, true, false, ◌&&◌, ◌||◌, ℕ, ◌≤◌, ◌<◌, eqb, leb, ltb}
use Rattle.std.proofs.Common.{sym, inl, inr, arith, eqb-true, eq-eqb, ne_eqb, leb-true, leb-false, le-leb, ltb-true, ltb-false, lt-ltb, le-ltb}
use Rattle.std.proofs.Math.Option.{Option, some}
use Rattle.std.proofs.lemmas.Bool.{eqb-false, lt-leb}

-- what tests of numbers say, both ways, for `omega (arith, tests)`
pub ruleset tests = (leb-true, leb-false, le-leb, lt-leb, ltb-true, ltb-false, lt-ltb, le-ltb, eqb-true, eqb-false, eq-eqb, ne_eqb)

-- a test, with the equation for each case
pub by_test {ℓ} : {X : Type ℓ} (b : Bool) → (b ≡ true → X) → (b ≡ false → X) → X
by_test true f g = f refl
by_test false f g = g refl

pub by_le {ℓ} : {X : Type ℓ} (m n : ℕ) → (m ≤ n → X) → (n < m → X) → X
by_le m n f g = by_test (leb m n) (λ e. f (leb-true m n e)) (λ e. g (leb-false m n e))

pub some_same : {A : Type 0} (a b : A) → ◌≡◌ {A = Option A} (some a) (some b) → a ≡ b
some_same a b e = cc

pub never : {X : Type 0} (b : Bool) → b ≡ true → b ≡ false → X
never b p q = let z : ◌≡◌ {A = ℕ} 0 1 = cc in absurd (omega arith)

-- two tests that pass together are one
pub both_ways : (a b : Bool) → (a ≡ true → b ≡ true) → (b ≡ true → a ≡ true) → a ≡ b
both_ways true b f g = sym (f refl)
both_ways false true f g = g refl
both_ways false false f g = refl

pub eqb_sym : (a b : ℕ) → eqb a b ≡ eqb b a
eqb_sym a b = both_ways (eqb a b) (eqb b a) (λ e. eq-eqb b a (sym (eqb-true a b e))) (λ e. eq-eqb a b (sym (eqb-true b a e)))

pub ltb_cong : (a b c e : ℕ) → (a < b → c < e) → (c < e → a < b) → ltb a b ≡ ltb c e
ltb_cong a b c e f g = both_ways (ltb a b) (ltb c e) (λ h. lt-ltb c e (f (ltb-true a b h))) (λ h. lt-ltb a b (g (ltb-true c e h)))

pub ltb_leb : (a b c e : ℕ) → (a < b → c ≤ e) → (c ≤ e → a < b) → ltb a b ≡ leb c e
ltb_leb a b c e f g = both_ways (ltb a b) (leb c e) (λ h. le-leb c e (f (ltb-true a b h))) (λ h. lt-ltb a b (g (leb-true c e h)))

pub and_true : (a b : Bool) → (a && b) ≡ true → (a ≡ true) × (b ≡ true)
and_true true b h = (refl, h)
and_true false b h = never true refl (sym h)

pub true_and : (a b : Bool) → a ≡ true → b ≡ true → (a && b) ≡ true
true_and a b p q = rw (p, q)

pub or_cases : (a b : Bool) → (a || b) ≡ true → (a ≡ true) ⊎ (b ≡ true)
or_cases true b h = inl refl
or_cases false b h = inr h

pub or_false : (a b : Bool) → (a || b) ≡ false → (a ≡ false) × (b ≡ false)
or_false true b h = never true refl h
or_false false b h = (refl, h)

pub or_left : (a b : Bool) → a ≡ true → (a || b) ≡ true
or_left a b e = rw e

pub or_right : (a b : Bool) → b ≡ true → (a || b) ≡ true
or_right true b e = refl
or_right false b e = e

pub false_or : (a b : Bool) → a ≡ false → b ≡ false → (a || b) ≡ false
false_or a b p q = rw (p, q)

pub or_nothing : (a : Bool) → (a || false) ≡ a
or_nothing true = refl
or_nothing false = refl

pub or_comm : (a b : Bool) → (a || b) ≡ (b || a)
or_comm true true = refl
or_comm true false = refl
or_comm false true = refl
or_comm false false = refl

pub or_assoc : (a b c : Bool) → ((a || b) || c) ≡ (a || (b || c))
or_assoc true b c = refl
or_assoc false b c = refl

pub or_shift : (a b c : Bool) → (a || (b || c)) ≡ (b || (a || c))
or_shift true true c = refl
or_shift true false c = refl
or_shift false true c = refl
or_shift false false c = refl

pub or_four : (a b c d : Bool) → (a || b || (c || d)) ≡ (a || c || (b || d))
or_four true b c d = refl
or_four false b c d = or_shift b c d

pub and_nothing : (a : Bool) → (a && true) ≡ a
and_nothing true = refl
and_nothing false = refl

pub and_none : (a : Bool) → (a && false) ≡ false
and_none true = refl
and_none false = refl

-- the test passes, or it does not
pub not_passed : (b : Bool) → (b ≡ true → ⊥) → b ≡ false
not_passed true h = absurd (h refl)
not_passed false h = refl
