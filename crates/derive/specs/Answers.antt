-- The paper's number and place for each answer.
use Rattle.std.specs.Prelude.{ℕ, Result, Ok, Err}
use Rattle.rules.specs.Outcome.{Outcome, gives, refuses}
use Rattle.rules.specs.Derivation.{Derived}
use Rattle.reader.specs.Answers.{inside_number, place_of as readerPlace}
use Rattle.derive.specs.declared.Refusal.{Refusal}
use Rattle.derive.specs.declared.Refusal.TheVariants.{NoSpace, Reader, Lists, Configured, Register, Unmet, List, Guest}
use Rattle.derive.specs.declared.Derived as lent

abbrev pub number_of : Refusal → ℕ
number_of NoSpace = 40
number_of (Reader r) = inside_number r
number_of (Lists at) = 41
number_of (Configured at) = 42
number_of (Register at) = 43
number_of (Unmet at) = 44
number_of (List needed) = 45
number_of (Guest needed) = 46

abbrev pub place_of : Refusal → ℕ
place_of NoSpace = 0
place_of (Reader r) = readerPlace r
place_of (Lists at) = at
place_of (Configured at) = at
place_of (Register at) = at
place_of (Unmet at) = at
place_of (List needed) = needed
place_of (Guest needed) = needed

abbrev pub refused : {A : Type 0} → Refusal → Outcome A
refused r = refuses (number_of r) (place_of r)

-- an answer of any kind, or a refusal
abbrev pub checked : {A : Type 0} → Result A Refusal → Outcome A
checked (Ok a) = gives a
checked (Err r) = refused r

abbrev pub meaning : Result lent.Derived Refusal → Outcome Derived
meaning (Ok d) = gives (record { paths = d.paths; list_length = d.list; guest_length = d.guest })
meaning (Err r) = refused r
