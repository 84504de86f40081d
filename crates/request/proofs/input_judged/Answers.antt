use mathlib.Core.Path.{sym, ap, ◌∙◌}
use borrow.Author.Tests.{lt-ltb}
use Rattle.rules.specs.Ceilings.{program_ceiling}
use Rattle.rules.specs.Program.{is_other, lines_judged, input_judged}
use Rattle.request.specs.Lines.{lines_left}
use Rattle.request.proofs.Entered.{one_of_three}
use Rattle.request.proofs.Turns.{judged_lines, at_done, at_fault, at_good}
use Rattle.request.proofs.input_judged.Goals as goal

pub returns-then-input-gt-PROGRAM_CEILING : goal.returns-then-input-gt-PROGRAM_CEILING
unfolding input_judged program_ceiling
returns-then-input-gt-PROGRAM_CEILING c = simp (lt-ltb _ _ c.if-input-gt-PROGRAM_CEILING.true)

pub loop-offset-init : goal.loop-offset-init
unfolding program_ceiling
loop-offset-init c =
    judged_lines c.args.input.now c.if-input-gt-PROGRAM_CEILING.false
    ∙ sym (ap lines_judged (ap lines_left c.into_iter-offset-iterator.ensures.into_iter_gives ∙ c.of-offset-items.ensures))

pub returns-in-Other : goal.returns-in-Other
returns-in-Other c =
    at_fault (input_judged c.args.input.now) (lines_left c.loop-offset.offset-iterator) c.loop-offset.invariant _ (lines_left c.next.new.self) c.in-Some.ensures.steps (sym (ap is_other c.in-Other.ensures))

pub loop-offset-preserved : goal.loop-offset-preserved
loop-offset-preserved c =
    at_good (input_judged c.args.input.now) (lines_left c.loop-offset.offset-iterator) c.loop-offset.invariant _ (lines_left c.next.new.self) c.in-Some.ensures.steps
    (one_of_three c.line_said.result c.in-Some.text.now c.line_said.ensures c.in_default.not-Other)

pub returns : goal.returns
returns c = at_done (input_judged c.args.input.now) (lines_left c.loop-offset.offset-iterator) c.loop-offset.invariant c.in-None.ensures.steps.0
