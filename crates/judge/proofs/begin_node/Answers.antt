-- `begin_node` meets its contract: the first test that fails.
use Rattle.rules.specs.Ceilings.{blob_ceiling, open_ceiling}
use Rattle.rules.specs.Writer.{begin_judged}
use Rattle.rules.proofs.Laws.Writer.{length_begin}
use Rattle.std.proofs.Common.{rules, tests}
use Rattle.judge.proofs.begin_node.Goals as goal

pub returns-then-impossible : goal.returns-then-impossible
unfolding begin_judged blob_ceiling open_ceiling
returns-then-impossible c = search (rules, tests)

pub returns-then-w-ge-OPEN_CEILING : goal.returns-then-w-ge-OPEN_CEILING
unfolding begin_judged blob_ceiling open_ceiling
returns-then-w-ge-OPEN_CEILING c = search (rules, tests)

pub returns-then-has_nul : goal.returns-then-has_nul
unfolding begin_judged blob_ceiling open_ceiling
returns-then-has_nul c = search (rules, tests)

pub returns-then-not-node_name_valid : goal.returns-then-not-node_name_valid
unfolding begin_judged blob_ceiling open_ceiling
returns-then-not-node_name_valid c = search (rules, tests)

pub returns-then-short : goal.returns-then-short
unfolding begin_judged blob_ceiling open_ceiling
returns-then-short c = search (rules, tests, length_begin c.args.name.now)

pub returns : goal.returns
unfolding begin_judged blob_ceiling open_ceiling
returns c = search (rules, tests, length_begin c.args.name.now)
