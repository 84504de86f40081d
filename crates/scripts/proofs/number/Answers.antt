-- `number` meets its contract.
use Rattle.std.proofs.Common.{◌∙◌, rules, tests}
use Rattle.std.proofs.lemmas.Iterator.{YieldsList-from_slice}
use Rattle.std.proofs.lemmas.Iterator.Consumers.{fold_from_yields_List}
use Rattle.scripts.specs.Scripts.{shifted}
use Rattle.scripts.proofs.Spelt.{spelt_fold}
use Rattle.scripts.proofs.number.Goals as goal

pub returns : goal.returns
returns c =
    fold_from_yields_List _ shifted 0 c.fold.result c.fold.ensures.ran (YieldsList-from_slice c.args.s.now cc) (λ a x b q k. search (rules, tests))
    ∙ spelt_fold 0 c.args.s.now
