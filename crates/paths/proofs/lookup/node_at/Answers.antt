-- `node_at` meets its contract.
use Rattle.std.proofs.Common.{◌≡◌, true, false, rules}
use Rattle.std.proofs.lemmas.Iterator.{first_from_Range}
use borrow.Author.Tests.{tests}
use Rattle.rules.specs.Laws.Lent.{block_lent}
use Rattle.paths.proofs.Climbs.{fits, first_fits}
use Rattle.paths.proofs.lookup.node_at.Goals as goal

pub returns : goal.returns
returns c =
    let t = c.args.tree.now in
    let b = block_lent t.block in
    let p = c.args.p.now in
    first_fits b t.work.now t.count p c.find.result
    (first_from_Range _ _ _ c.find.result (λ i. fits b t.work.now t.count p i ≡ true) (λ i. fits b t.work.now t.count p i ≡ false) c.find.ensures.ran
    (λ x q k. search (rules, tests))
    (λ x q k. search (rules, tests)))
