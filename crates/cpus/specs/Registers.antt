-- How a register is read, and which names are those of CPUs.
use Rattle.std.specs.Prelude.{Bool, ◌||◌, List, ℕ, eqb, length, if◌then◌else◌, Some, None}
use Rattle.std.specs.Prelude as lent
use Rattle.std.proofs.Math.Option.{Option, none, some}
use Rattle.rules.specs.Octets.{Bytes, number, ascii, same, begins}
use Rattle.rules.specs.Events.{Property}
use Rattle.rules.specs.Tree.{value_of}
use Rattle.rules.specs.Copy.{register_of}

abbrev pub meaning : lent.Option ℕ → Option ℕ
meaning (Some n) = some n
meaning None = none

-- what a value says
abbrev pub number_in : Bytes → lent.Option ℕ
number_in v = if eqb (length v) 4 || eqb (length v) 8 then Some (number v) else None

-- what `reg` among these properties says
abbrev pub reg_in : List Property → Option ℕ
reg_in ps = register_of (value_of (ascii "reg") ps)

abbrev pub names_cpu : Bytes → Bool
names_cpu n = same n (ascii "cpu") || begins (ascii "cpu@") n
