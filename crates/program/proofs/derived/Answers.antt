-- `derived` meets its contract: the lists that the input says are handed on whole, and the answer is told.
use mathlib.Core.Path.{sym, ◌∙◌}
use native.Mathlib.Omega.{arith}
use lib.Seq.{length-take-le}
use Rattle.rules.specs.Ceilings.{program_ceiling, work_words}
use Rattle.rules.specs.Program.{lines_of, configured_in, excluded_in, ids_in}
use Rattle.request.proofs.Short.{configured_short, excluded_short, ids_short}
use Rattle.program.proofs.Whole.{handed, handed_inside, asked_whole, joined}
use borrow.Author.Rules.{rules}
use Rattle.program.proofs.derived.Goals as goal

pub slice_bounds-ids-end : goal.slice_bounds-ids-end
unfolding program_ceiling
slice_bounds-ids-end c = handed_inside c.room-ids.result _ (ids_in (lines_of c.args.input.now)) c.ids_in-n.result (omega (arith, ids_short c.args.input.now, c.room-ids.ensures, c.requires.2)) c.ids_in-n.ensures.out_after c.ids_in-n.ensures.value

pub slice_bounds-derive-end : goal.slice_bounds-derive-end
unfolding program_ceiling
slice_bounds-derive-end c = sym (length-take-le _ _ (handed_inside c.room-ids.result _ (ids_in (lines_of c.args.input.now)) c.ids_in-n.result (omega (arith, ids_short c.args.input.now, c.room-ids.ensures, c.requires.2)) c.ids_in-n.ensures.out_after c.ids_in-n.ensures.value))

pub returns : goal.returns
unfolding program_ceiling work_words
returns c =
    let input = c.args.input.now in
    let conf = handed c.room-configured.result _ (configured_in (lines_of input)) c.configured_in-c.result (omega (arith, configured_short input, c.room-configured.ensures, c.requires.2)) c.configured_in-c.ensures.out_after c.configured_in-c.ensures.value in
    let excl = handed c.room-excluded.result _ (excluded_in (lines_of input)) c.excluded_in-x.result (omega (arith, excluded_short input, c.room-excluded.ensures, c.requires.2)) c.excluded_in-x.ensures.out_after c.excluded_in-x.ensures.value in
    let ids = handed c.room-ids.result _ (ids_in (lines_of input)) c.ids_in-n.result (omega (arith, ids_short input, c.room-ids.ensures, c.requires.2)) c.ids_in-n.ensures.out_after c.ids_in-n.ensures.value in
    let q = asked_whole input _ _ _ (c.part.ensures ∙ conf) (c.part-2.ensures ∙ excl) ids in
    let t = joined c.args.host.now input c.args.guest.now c.args.text.now c.requires.0 c.requires.1 _ q _ c.room-work.ensures c.room-list.result _ c.room-list.ensures (search rules) c.derive-answer.result c.derive-answer.ensures.result_value c.derive-answer.ensures.list_after _ c.derive-answer.ensures.guest_after c.told_of.result _ c.told_of.ensures.value c.told_of.ensures.text_after c.told_of.ensures.list_in_bounds in
    record { value = t.0; text_after = t.1; guest_after = t.2; guest_len_bound = t.3 }
