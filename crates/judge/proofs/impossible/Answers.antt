-- `impossible` meets its contract.
use Rattle.std.proofs.Common.{rules, arith, tests}
use Rattle.std.proofs.lemmas.Bool.Decides.{nat_tests}
use Rattle.rules.specs.Ceilings.{open_ceiling}
use Rattle.rules.specs.Writer.{impossible}
use Rattle.judge.proofs.impossible.Goals as goal

pub returns-then-room-w : goal.returns-then-room-w
unfolding impossible open_ceiling
returns-then-room-w c = search (rules, tests)

pub returns-else-room-w : goal.returns-else-room-w
unfolding impossible open_ceiling
returns-else-room-w c = grind (arith, nat_tests)
