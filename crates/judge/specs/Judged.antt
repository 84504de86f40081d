-- What the tests of a call answer: the definitions of rules, with a property's size for its value.
use Rattle.std.specs.Prelude.{◌≡◌, refl, Result, Ok, Err, Bool, not, List, [], ◌∷◌, ℕ, ◌+◌, eqb, ltb, length, if◌then◌else◌}
use Rattle.std.proofs.Common.{sym, ap, ◌∙◌}
use Rattle.rules.specs.Octets.{Bytes, has_nul, closed}
use Rattle.rules.specs.Names.{property_name_valid}
use Rattle.rules.specs.Outcome.{Outcome, gives, refuses, Verdict, first, ◌then◌}
use Rattle.rules.specs.Writer.{State, wrong_state, test, no_room, growth, strings_of, name_offset, phandle_name, phandle_judged}
use Rattle.judge.specs.Meaning.{number_of, error_of, error_of_lem}
use Rattle.judge.specs.declared.Error.{Error}

-- "Place is 0 throughout."
abbrev pub outcome_of : {A : Type 0} → Result A Error → Outcome A
outcome_of (Ok a) = gives a
outcome_of (Err e) = refuses (number_of e) 0

-- the tests of a property that takes `size` bytes of data
unfoldable pub sized : State → (dataLent : ℕ) → Bytes → (own : Bool) → Bytes → (size : ℕ) → Verdict
sized w dataLent strings own name size =
    first
    (wrong_state w dataLent (length strings)
    ∷ test own 24
    ∷ test w.ended 21
    ∷ test (eqb w.depth 0) 20
    ∷ test (has_nul name) 24
    ∷ test (not (property_name_valid name)) 30
    ∷ no_room dataLent (w.data_length + size)
    ∷ no_room (length strings) (w.strings_length + length (growth w strings name))
    ∷ [])

-- those tests, and where the name stands or goes
unfoldable pub placed : State → (dataLent : ℕ) → Bytes → (own : Bool) → Bytes → (size : ℕ) → Outcome ℕ
placed w dataLent strings own name size = sized w dataLent strings own name size then gives (name_offset name (strings_of w strings))

-- the tests of `property_phandle`, and where the name stands or goes
unfoldable pub phandle_placed : State → (dataLent : ℕ) → Bytes → List ℕ → ℕ → Outcome ℕ
phandle_placed w dataLent strings phandles value =
    phandle_judged w dataLent strings phandles value then gives (name_offset phandle_name (strings_of w strings))

-- what a block of `used` bytes grows by where the name was sought and `offset` was answered
abbrev pub grown : (offset used : ℕ) → Bytes → Bytes
grown offset used name = if ltb offset used then [] else closed name

-- ---- no two answers have one meaning

answer_of : {A : Type 0} → Outcome A → Result A Error
answer_of (gives a) = Ok a
answer_of (refuses n p) = Err (error_of n)

answer_of_lem : {A : Type 0} (r : Result A Error) → answer_of (outcome_of r) ≡ r
unfolding answer_of
answer_of_lem (Ok a) = refl
answer_of_lem (Err e) = ap Err (error_of_lem e)

pub outcome_injective : {A : Type 0} (a b : Result A Error) → outcome_of a ≡ outcome_of b → a ≡ b
outcome_injective a b e = sym (answer_of_lem a) ∙ ap answer_of e ∙ answer_of_lem b
