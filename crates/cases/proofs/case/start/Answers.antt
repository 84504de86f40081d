-- `start` meets its contract.
use Rattle.std.proofs.Common.{◌∙◌, rules, tests, refl, zero-add, arith}
use Rattle.std.proofs.lemmas.Iterator.{YieldsList-from_range}
use Rattle.std.proofs.lemmas.Iterator.Consumers.{fold_from_yields_List}
use Rattle.cases.specs.Case.{up_by, size_of}
use Rattle.cases.proofs.Turns.{start_fold, start_first}
use Rattle.cases.proofs.case.start.Goals as goal

pub returns : goal.returns
returns c =
    let case = c.args.case.now in
    fold_from_yields_List _ (λ at k. up_by at (size_of case k)) 48 c.fold.result c.fold.ensures.ran (YieldsList-from_range 0 c.args.k c.args.k refl (omega arith)) (λ a x b q k. search (rules, tests))
    ∙ rw (start_first case, zero-add) at (start_fold case 0 c.args.k)
