-- The paper's number and place for each answer.
use Rattle.std.specs.Prelude.{Result, Ok, Err}
use Rattle.rules.specs.Outcome.{Verdict, passes, refuses}
use Rattle.cpus.specs.declared.judged.Unnumbered.{Unnumbered}
use Rattle.cpus.specs.declared.judged.Unmet.{Unmet}

abbrev pub unnumbered_meaning : Result (Unit {0}) Unnumbered → Verdict
unnumbered_meaning (Ok u) = passes
unnumbered_meaning (Err child) = refuses 43 child.at

abbrev pub unmet_meaning : Result (Unit {0}) Unmet → Verdict
unmet_meaning (Ok u) = passes
unmet_meaning (Err id) = refuses 44 id.at
