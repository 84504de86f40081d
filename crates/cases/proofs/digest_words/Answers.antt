-- `digest_words` meets its contract.
use Rattle.std.proofs.Common.{◌∙◌, rules, tests}
use Rattle.std.proofs.lemmas.Iterator.{YieldsList-from_slice}
use Rattle.std.proofs.lemmas.Iterator.Consumers.{fold_from_yields_List}
use Rattle.cases.specs.Digests.{mixed}
use Rattle.cases.proofs.Turns.{digest_fold}
use Rattle.cases.proofs.digest_words.Goals as goal

pub returns : goal.returns
returns c =
    fold_from_yields_List _ mixed 0 c.fold.result c.fold.ensures.ran (YieldsList-from_slice c.args.words.now cc) (λ a x b q k. search (rules, tests))
    ∙ digest_fold 0 c.args.words.now
