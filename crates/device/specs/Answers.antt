-- The paper's number and place for each answer.
use Rattle.std.specs.Prelude.{ℕ, Result, Ok, Err}
use Rattle.rules.specs.Outcome.{Outcome, gives, refuses}
use Rattle.rules.specs.Device.{Found}
use Rattle.reader.specs.Answers.{inside_number, place_of as readerPlace}
use Rattle.device.specs.declared.Refusal.{Refusal}
use Rattle.device.specs.declared.Refusal.TheVariants.{NoSpace, Reader, Lists, Configured, List}
use Rattle.device.specs.declared.Listed.{Listed}

abbrev pub number_of : Refusal → ℕ
number_of NoSpace = 40
number_of (Reader r) = inside_number r
number_of (Lists at) = 41
number_of (Configured at) = 42
number_of (List needed) = 45

abbrev pub place_of : Refusal → ℕ
place_of NoSpace = 0
place_of (Reader r) = readerPlace r
place_of (Lists at) = at
place_of (Configured at) = at
place_of (List needed) = needed

abbrev pub refused : {A : Type 0} → Refusal → Outcome A
refused r = refuses (number_of r) (place_of r)

abbrev pub meaning : Result Listed Refusal → Outcome Found
meaning (Ok l) = gives (record { paths = l.paths; list_length = l.list })
meaning (Err r) = refused r

abbrev pub checked : Result ℕ Refusal → Outcome ℕ
checked (Ok n) = gives n
checked (Err r) = refused r
