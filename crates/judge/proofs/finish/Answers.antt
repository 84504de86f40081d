-- `finish` meets its contract: the first test that fails.
use mathlib.Core.Path.{sym, ◌∙◌}
use native.Mathlib.Omega.{arith}
use Rattle.rules.specs.Ceilings.{blob_ceiling}
use Rattle.rules.specs.Writer.{finish_judged}
use Rattle.judge.specs.Meaning.{state_of}
use Rattle.judge.proofs.Possible.{possible}
use Rattle.std.proofs.Common.{rules, tests}
use Rattle.judge.proofs.finish.Goals as goal

pub returns-then-impossible : goal.returns-then-impossible
unfolding finish_judged
returns-then-impossible c = search (rules, tests)

pub returns-then-w-ne0 : goal.returns-then-w-ne0
unfolding finish_judged
returns-then-w-ne0 c = search (rules, tests)

pub returns-then-short : goal.returns-then-short
unfolding finish_judged
returns-then-short c = search (rules, tests)

pub returns : goal.returns
unfolding finish_judged
returns c = search (rules, tests)

pub overflow_add-w : goal.overflow_add-w
unfolding blob_ceiling
overflow_add-w c =
    let p = possible (state_of c.args.w) c.args.data_lent c.args.strings_lent (sym c.impossible.ensures ∙ c.if-impossible.false) in
    omega arith
