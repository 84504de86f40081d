-- The paper's number and place for each answer.
use Rattle.std.specs.Prelude.{ℕ, Result, Ok, Err}
use Rattle.rules.specs.Outcome.{Outcome, gives, refuses}
use Rattle.asked.specs.declared.Fault.{Fault}

abbrev pub meaning : Result ℕ Fault → Outcome ℕ
meaning (Ok n) = gives n
meaning (Err fault) = refuses 42 fault.at
