use lib.ListN.{get_or}
use Rattle.rules.specs.Laws.Lent.{block_lent}
use Rattle.rules.proofs.Laws.Lists.{mem_at}
use Rattle.listing.specs.Given.{with_below}
use Rattle.listing.proofs.Gained.{gathers_each, below_alike}
use Rattle.listing.proofs.given.list_each.Goals as goal

pub list_with-n-requires : goal.list_with-n-requires
list_with-n-requires c =
    let a = c.args in
    let p = c.requires in
    record { p_lt_count = (p.by_index.0 (get_or a.conf.now c.loop-p.p-index 0) (mem_at a.conf.now c.loop-p.p-index 0 c.loop-p-test.true), p.by_index.1); by_index = rw (c.loop-p.invariant.stack a.starts) p.by_index_2; marked = c.loop-p.invariant.marked }

pub loop-p-preserved : goal.loop-p-preserved
loop-p-preserved c =
    let a = c.args in
    gathers_each a.count a.work.now a.listed (with_below (block_lent a.block.now) a.work.now a.count a.starts) a.conf.now c.loop-p.work c.loop-p.n a.conf.now c.loop-p.p-index c.loop-p.invariant c.loop-p-test.true
    c.list_with-n.new.work c.list_with-n.result
    (rw (below_alike (block_lent a.block.now) a.work.now c.loop-p.work a.count a.starts (get_or a.conf.now c.loop-p.p-index 0) c.loop-p.invariant.marked.few c.loop-p.invariant.apart (c.loop-p.invariant.stack a.starts)) at c.list_with-n.ensures)
