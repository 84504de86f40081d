-- What a call answers: something, or a refusal with its number and place.
use Rattle.std.specs.Prelude.{Bool, List, [], ◌∷◌, ℕ, if◌then◌else◌}

pub data Outcome (A : Type 0) : Type 0 where
  gives : A → Outcome A
  refuses : (number place : ℕ) → Outcome A

-- a judgement: passed, or refused
abbrev pub Verdict : Type 0
Verdict = Outcome (Unit {0})

abbrev pub passes : Verdict
passes = gives tt

-- the first refusal counts
infixr 4 ◌then◌
abbrev pub ◌then◌ : {A : Type 0} → Verdict → Outcome A → Outcome A
◌then◌ (gives u) next = next
◌then◌ (refuses number place) next = refuses number place

-- what stands where it is refused, the old, and where it is not, the new
abbrev pub settled {ℓ} : {A : Type 0} {B : Type ℓ} → Outcome A → B → B → B
settled (gives a) old new = new
settled (refuses number place) old new = old

-- a test, and the number and place of its refusal
pub record Test : Type 0 where
  pub fails : Bool
  pub number : ℕ
  pub place : ℕ

-- the first test that fails refuses
abbrev pub first : List Test → Verdict
first [] = passes
first (t ∷ ts) = if t.fails then refuses t.number t.place else first ts
