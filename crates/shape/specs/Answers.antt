-- The paper's number and place for each answer.
use Rattle.std.specs.Prelude.{ℕ, Result, Ok, Err}
use Rattle.rules.specs.Outcome.{Outcome, gives, refuses}
use Rattle.shape.specs.declared.Refusal.{Refusal}
use Rattle.shape.specs.declared.Refusal.TheVariants.{Shape, Name, Deep, Many}

abbrev pub refused : {A : Type 0} → Refusal → Outcome A
refused (Shape at) = refuses 6 at
refused (Name at) = refuses 7 at
refused (Deep at) = refuses 8 at
refused (Many at) = refuses 9 at

abbrev pub meaning : Result ℕ Refusal → Outcome ℕ
meaning (Ok count) = gives count
meaning (Err refusal) = refused refusal
