-- `end_node` meets its contract: the first test that fails.
use Rattle.rules.specs.Ceilings.{blob_ceiling}
use Rattle.rules.specs.Writer.{end_judged}
use Rattle.rules.proofs.Laws.Writer.{length_end}
use Rattle.std.proofs.Common.{rules, tests}
use Rattle.judge.proofs.end_node.Goals as goal

pub returns-then-impossible : goal.returns-then-impossible
unfolding end_judged blob_ceiling
returns-then-impossible c = search (rules, tests)

pub returns-then-depth-eq0 : goal.returns-then-depth-eq0
unfolding end_judged blob_ceiling
returns-then-depth-eq0 c = search (rules, tests)

pub returns-then-short : goal.returns-then-short
unfolding end_judged blob_ceiling
returns-then-short c = search (rules, tests, length_end)

pub returns : goal.returns
unfolding end_judged blob_ceiling
returns c = search (rules, tests, length_end)
