-- What each answer means, in the words of the definitions.
use Rattle.std.specs.Prelude.{Bool, true, false, List, ℕ, drop, Option, Some, None, Result, Ok, Err}
use Rattle.rules.specs.Octets.{Bytes}
use Rattle.rules.specs.Outcome.{Verdict, passes, refuses}
use Rattle.rules.specs.Program.{Line, configures, excludes, names, other, configured_by, excluded_by, configured_in, excluded_in}
use Rattle.rules.specs.Program as program
use Rattle.request.specs.declared.Fault.{Fault}
use Rattle.request.specs.declared.List.{List as Listed}
use Rattle.request.specs.declared.List.TheVariants.{Configured, Excluded}
use Rattle.request.specs.declared.Said.{Said}
use Rattle.request.specs.declared.Said.TheVariants.{Configures, Excludes, Names, Other}

-- the paper's number and place
abbrev pub meaning : Result (Unit {0}) Fault → Verdict
meaning (Ok u) = passes
meaning (Err fault) = refuses 41 fault.at

-- what is said by a line with this text
abbrev pub said : Said → Bytes → program.Said
said Configures text = configures (drop 2 text)
said Excludes text = excludes (drop 2 text)
said (Names id) text = names id
said Other text = other

-- what is said by a line with these digits
abbrev pub decimal_of : Option ℕ → program.Said
decimal_of (Some id) = names id
decimal_of None = other

-- ---- the two lists of paths, which are made alike

abbrev pub enters : Listed → Said → Bool
enters Configured Configures = true
enters Configured Excludes = false
enters Configured (Names id) = false
enters Configured Other = false
enters Excluded Configures = false
enters Excluded Excludes = true
enters Excluded (Names id) = false
enters Excluded Other = false

abbrev pub listed_by : Listed → program.Said → Bytes → Bytes
listed_by Configured = configured_by
listed_by Excluded = excluded_by

abbrev pub list_in : Listed → List Line → Bytes
list_in Configured = configured_in
list_in Excluded = excluded_in
