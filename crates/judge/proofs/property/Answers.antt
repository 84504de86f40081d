-- `property` meets its contract: the first test that fails, or where the name was found.
use mathlib.Core.Path.{sym, ap, ◌∙◌}
use Rattle.rules.specs.Writer.{name_offset}
use Rattle.judge.specs.Meaning.{state_of}
use Rattle.judge.specs.Judged.{sized, placed}
use Rattle.judge.proofs.Properties.{length_growth}
use Rattle.std.proofs.Common.{rules, tests}
use Rattle.judge.proofs.property.Goals as goal

pub returns-then-impossible : goal.returns-then-impossible
unfolding placed sized
returns-then-impossible c = search (rules, tests)

pub returns-then-own : goal.returns-then-own
unfolding placed sized
returns-then-own c = search (rules, tests)

pub returns-then-w : goal.returns-then-w
unfolding placed sized
returns-then-w c = search (rules, tests)

pub returns-then-w-eq0 : goal.returns-then-w-eq0
unfolding placed sized
returns-then-w-eq0 c = search (rules, tests)

pub returns-then-has_nul : goal.returns-then-has_nul
unfolding placed sized
returns-then-has_nul c = search (rules, tests)

pub returns-then-not-property_name_valid : goal.returns-then-not-property_name_valid
unfolding placed sized
returns-then-not-property_name_valid c = search (rules, tests)

pub returns-then-short : goal.returns-then-short
unfolding placed sized
returns-then-short c = search (rules, tests)

pub returns-then-short-2 : goal.returns-then-short-2
unfolding placed sized
returns-then-short-2 c =
    let possibly = sym c.impossible.ensures ∙ c.if-impossible.false in
    let found = c.find_name-offset.ensures ∙ ap (name_offset c.args.name.now) c.part.ensures in
    rw (length_growth (state_of c.args.w) c.args.data_lent c.args.strings.now c.args.name.now possibly _ found) (search (rules, tests))

pub returns : goal.returns
unfolding placed sized
returns c =
    let possibly = sym c.impossible.ensures ∙ c.if-impossible.false in
    let found = c.find_name-offset.ensures ∙ ap (name_offset c.args.name.now) c.part.ensures in
    rw (length_growth (state_of c.args.w) c.args.data_lent c.args.strings.now c.args.name.now possibly _ found, ← found) (search (rules, tests))
