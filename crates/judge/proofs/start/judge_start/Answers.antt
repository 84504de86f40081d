-- `judge_start` meets its contract: the first test that fails.
use Rattle.rules.specs.Ceilings.{reservation_ceiling}
use Rattle.rules.specs.Writer.{start_judged}
use Rattle.judge.proofs.Starts.{taken, length_start}
use Rattle.std.proofs.Common.{rules, tests}
use Rattle.judge.proofs.start.judge_start.Goals as goal

pub returns-then-reservations-gt-RESERVATION_CEILING : goal.returns-then-reservations-gt-RESERVATION_CEILING
unfolding start_judged reservation_ceiling
returns-then-reservations-gt-RESERVATION_CEILING c = search (rules, tests)

pub returns-then-any_invalid : goal.returns-then-any_invalid
unfolding start_judged reservation_ceiling
returns-then-any_invalid c = rw (taken c.args.reservations.now) (search (rules, tests))

pub returns-then-any_overlap : goal.returns-then-any_overlap
unfolding start_judged reservation_ceiling
returns-then-any_overlap c = rw (taken c.args.reservations.now) (search (rules, tests))

pub returns-then-short : goal.returns-then-short
unfolding start_judged reservation_ceiling
returns-then-short c = rw (taken c.args.reservations.now, length_start c.args.reservations.now) (search (rules, tests))

pub returns : goal.returns
unfolding start_judged reservation_ceiling
returns c = rw (taken c.args.reservations.now, length_start c.args.reservations.now) (search (rules, tests))
