-- The paper's number and place for each answer.
use Rattle.std.specs.Prelude.{ℕ, Result, Ok, Err, eqb, if◌then◌else◌}
use Rattle.rules.specs.Outcome.{Outcome, gives, refuses}
use Rattle.reader.specs.declared.Refusal.{Refusal}
use Rattle.reader.specs.declared.Refusal.TheVariants.{NoSpace, Short, Magic, Total, Version, Layout, Shape, Name, Deep, Many, Doubled, Cells, Shared}

abbrev pub number_of : Refusal → ℕ
number_of NoSpace = 40
number_of Short = 1
number_of Magic = 2
number_of Total = 3
number_of Version = 4
number_of Layout = 5
number_of (Shape at) = 6
number_of (Name at) = 7
number_of (Deep at) = 8
number_of (Many at) = 9
number_of (Doubled at) = 10
number_of (Cells at) = 11
number_of (Shared at) = 12

abbrev pub place_of : Refusal → ℕ
place_of NoSpace = 0
place_of Short = 0
place_of Magic = 0
place_of Total = 0
place_of Version = 0
place_of Layout = 0
place_of (Shape at) = at
place_of (Name at) = at
place_of (Deep at) = at
place_of (Many at) = at
place_of (Doubled at) = at
place_of (Cells at) = at
place_of (Shared at) = at

abbrev pub refused : {A : Type 0} → Refusal → Outcome A
refused r = refuses (number_of r) (place_of r)

abbrev pub meaning : Result ℕ Refusal → Outcome ℕ
meaning (Ok count) = gives count
meaning (Err refusal) = refused refusal

-- The number of a refusal that callers carry inside their own: 1 to 12. 40 is the caller's own and is not carried; it would have the
-- number 0, which no refusal has.
abbrev pub inside_number : Refusal → ℕ
inside_number r = if eqb (number_of r) 40 then 0 else number_of r
