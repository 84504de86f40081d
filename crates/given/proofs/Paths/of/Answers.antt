-- `Paths::of` meets its contract.
use mathlib.Core.Path.{sym}
use Rattle.rules.proofs.Laws.Given.{given_all}
use Rattle.given.proofs.Paths.of.Goals as goal

pub returns : goal.returns
returns c = sym (given_all c.args.list.now)
