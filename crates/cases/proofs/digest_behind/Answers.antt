-- `digest_behind` meets its contract.
use Rattle.std.proofs.Common.{◌∙◌, rules, tests}
use Rattle.std.proofs.lemmas.Iterator.{YieldsList-from_slice}
use Rattle.std.proofs.lemmas.Iterator.Consumers.{fold_from_yields_List}
use Rattle.cases.specs.Digests.{mixed}
use Rattle.cases.proofs.Turns.{digest_fold}
use Rattle.cases.proofs.digest_behind.Goals as goal

pub returns : goal.returns
returns c =
    fold_from_yields_List _ mixed c.args.first c.fold.result c.fold.ensures.ran (YieldsList-from_slice c.args.s.now cc) (λ a x b q k. search (rules, tests))
    ∙ digest_fold c.args.first c.args.s.now
