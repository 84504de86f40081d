-- `listed` meets its contract.
use Rattle.listing.proofs.Joined.{lists}
use Rattle.rules.specs.Laws.Lent.{block_lent}
use Rattle.listing.proofs.listed.Goals as goal

pub returns : goal.returns
returns c =
    let a = c.args in
    let q = c.requires in
    lists (block_lent a.block.now) a.work.now a.count a.conf.now a.excl.now q.kept
    c.reached-n.new.work c.reached-n.result c.reached-n.ensures c.sift.new.work c.sift.result c.sift.ensures
