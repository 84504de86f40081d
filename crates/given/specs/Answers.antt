-- The paper's number and place for each answer, and a request as it is lent.
use Rattle.std.specs.Prelude.{Result, Ok, Err}
use Rattle.rules.specs.Outcome.{Verdict, passes, refuses}
use Rattle.rules.specs.Derivation.{Request}
use Rattle.given.specs.declared.Fault.{Fault}
use Rattle.given.specs.declared.Request.{Request as LentRequest}

abbrev pub meaning : Result (Unit {0}) Fault → Verdict
meaning (Ok u) = passes
meaning (Err fault) = refuses 41 fault.at

-- the request that these lists say
abbrev pub request_lent : LentRequest → Request
request_lent q = record { configured = q.configured.now; excluded = q.excluded.now; ids = q.ids.now }
