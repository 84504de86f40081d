use mathlib.Core.Path.{sym, ap, ◌∙◌, subst}
use native.Mathlib.Omega.{arith}
use Rattle.rules.specs.Program.{lines_of, ids_in}
use Rattle.rules.proofs.Laws.Program.{Laying, laying_none, laying_bytes, laying_count}
use Rattle.request.specs.Lines.{lines_left}
use Rattle.request.proofs.Entered.{names_none, names_one}
use Rattle.request.proofs.Turns.{ids_over, ids_skip, id_room, id_more}
use Rattle.request.proofs.ids_in.Goals as goal

pub loop-text-init : goal.loop-text-init
loop-text-init c =
    let whole = ids_in (lines_of c.args.input.now) in
    let e = ap lines_left c.into_iter-text-iterator.ensures.into_iter_gives ∙ c.of-text-items.ensures in
    subst (λ r. Laying whole c.args.out.now c.args.out.now 0 (ids_in r)) (sym e) laying_none

pub overflow_add-laid : goal.overflow_add-laid
overflow_add-laid c =
    omega (arith, id_room c.args.input.now (lines_left c.loop-text.text-iterator) c.loop-text.invariant _ (lines_left c.next.new.self) c.in-Some.ensures.steps c.in-Names.id (names_one c.in-Some.text.now c.line_said.result c.line_said.ensures c.in-Names.id c.in-Names.is))

pub loop-text-preserved-in-Names : goal.loop-text-preserved-in-Names
loop-text-preserved-in-Names c =
    id_more c.args.input.now (lines_left c.loop-text.text-iterator) c.loop-text.invariant _ (lines_left c.next.new.self) c.in-Some.ensures.steps c.in-Names.id (names_one c.in-Some.text.now c.line_said.result c.line_said.ensures c.in-Names.id c.in-Names.is) c.put.ensures

pub loop-text-preserved : goal.loop-text-preserved
loop-text-preserved c =
    ids_skip c.args.input.now (lines_left c.loop-text.text-iterator) c.loop-text.invariant _ (lines_left c.next.new.self) c.in-Some.ensures.steps
    (names_none c.in-Some.text.now c.line_said.result c.line_said.ensures c.in_default.not-Names)

pub returns : goal.returns
returns c =
    let l = ids_over c.args.input.now (lines_left c.loop-text.text-iterator) c.loop-text.invariant c.in-None.ensures.steps.0 in
    record { value = laying_count l; out_after = laying_bytes l }
