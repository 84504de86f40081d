-- `node_of` meets its contract.
use Rattle.std.proofs.Common.{◌≡◌, true, false, rules}
use Rattle.std.proofs.lemmas.Iterator.{first_from_Range}
use borrow.Author.Tests.{tests}
use Rattle.references.proofs.Tables.{says, look_first}
use Rattle.references.proofs.table.node_of.Goals as goal

pub returns : goal.returns
returns c =
    let t = c.args.tree.now in
    let w = c.args.phandle in
    look_first t.work.now t.count w c.find.result
    (first_from_Range _ _ _ c.find.result (λ i. says t.work.now t.count w i ≡ true) (λ i. says t.work.now t.count w i ≡ false) c.find.ensures.ran
    (λ x q k. search (rules, tests))
    (λ x q k. search (rules, tests)))
