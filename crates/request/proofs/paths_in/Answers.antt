use mathlib.Core.Path.{sym, ap, ◌∙◌, subst}
use native.Mathlib.Omega.{arith}
use Rattle.rules.specs.Program.{lines_of}
use Rattle.rules.proofs.Laws.Program.{Laying, laying_none, laying_bytes, laying_count}
use Rattle.request.specs.Answers.{list_in}
use Rattle.request.specs.Lines.{lines_left}
use Rattle.request.proofs.Entered.{skipped, entered}
use Rattle.request.proofs.Turns.{paths_done, paths_skip, path_room, path_more}
use Rattle.request.proofs.paths_in.Goals as goal

pub loop-text-init : goal.loop-text-init
loop-text-init c =
    let whole = list_in c.args.list (lines_of c.args.input.now) in
    let e = ap lines_left c.into_iter-text-iterator.ensures.into_iter_gives ∙ c.of-text-items.ensures in
    subst (λ r. Laying whole c.args.out.now c.args.out.now 0 (list_in c.args.list r)) (sym e) laying_none

pub overflow_add-laid : goal.overflow_add-laid
overflow_add-laid c =
    let g = entered c.args.list c.in-Some.text.now c.line_said.result c.line_said.ensures c.enters.result c.enters.ensures c.if-enters.true in
    omega (arith, path_room c.args.list c.args.input.now (lines_left c.loop-text.text-iterator) c.loop-text.invariant _ (lines_left c.next.new.self) c.in-Some.ensures.steps c.part-path.result.now c.part-path.ensures g)

pub overflow_add-laid-then-enters-2 : goal.overflow_add-laid-then-enters-2
overflow_add-laid-then-enters-2 c =
    let g = entered c.args.list c.in-Some.text.now c.line_said.result c.line_said.ensures c.enters.result c.enters.ensures c.if-enters.true in
    omega (arith, path_room c.args.list c.args.input.now (lines_left c.loop-text.text-iterator) c.loop-text.invariant _ (lines_left c.next.new.self) c.in-Some.ensures.steps c.part-path.result.now c.part-path.ensures g)

pub loop-text-preserved-then-enters : goal.loop-text-preserved-then-enters
loop-text-preserved-then-enters c =
    let g = entered c.args.list c.in-Some.text.now c.line_said.result c.line_said.ensures c.enters.result c.enters.ensures c.if-enters.true in
    path_more c.args.list c.args.input.now (lines_left c.loop-text.text-iterator) c.loop-text.invariant _ (lines_left c.next.new.self) c.in-Some.ensures.steps c.part-path.result.now c.part-path.ensures g c.put.ensures c.put_zeros.ensures

pub loop-text-preserved : goal.loop-text-preserved
loop-text-preserved c =
    paths_skip c.args.list c.args.input.now (lines_left c.loop-text.text-iterator) c.loop-text.invariant _ (lines_left c.next.new.self) c.in-Some.ensures.steps
    (skipped c.args.list c.in-Some.text.now c.line_said.result c.line_said.ensures c.enters.result c.enters.ensures c.if-enters.false)

pub returns : goal.returns
returns c =
    let l = paths_done c.args.list c.args.input.now (lines_left c.loop-text.text-iterator) c.loop-text.invariant c.in-None.ensures.steps.0 in
    record { value = laying_count l; out_after = laying_bytes l }
