-- `told_of` meets its contract: an answer, or a refusal.
use Rattle.program.proofs.Printing.{print_derived}
use borrow.Author.Rules.{rules}
use Rattle.program.proofs.told_of.Goals as goal

pub returns-in-Ok : goal.returns-in-Ok
returns-in-Ok c =
    let t = print_derived c.args.answer c.args.list.now c.args.text.now c.answer.new.out c.in-Ok.derived c.in-Ok.is (search rules) (search rules) c.part-paths.result.now c.part-paths.ensures c.answer.result c.answer.ensures.value c.answer.ensures.out_after in
    record { value = t.0; text_after = t.1; list_in_bounds = t.2 }
