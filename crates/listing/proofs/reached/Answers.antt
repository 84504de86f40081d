-- `reached` meets its contract: each part hands on what the next asks for.
use native.Mathlib.Omega.{arith}
use Rattle.listing.proofs.Joined.{clear-nodes, given-kept, given-piled, reaches}
use Rattle.rules.specs.Laws.Lent.{block_lent}
use Rattle.listing.proofs.reached.Goals as goal

pub list_each-configured-requires : goal.list_each-configured-requires
list_each-configured-requires c =
    let a = c.args in
    let q = c.requires in
    record {
      by_index = (q.small, omega (arith, c.starts-starts.ensures.few, q.kept.few));
      by_index_2 = λ x m. clear-nodes (block_lent a.block.now) a.work.now a.count a.conf.now q c.starts-starts.result c.starts-starts.ensures.few c.starts-starts.new.work (c.starts-starts.ensures.started q)
          c.clear_marks.new.work c.clear_marks.ensures x m (omega (arith, c.starts-starts.ensures.few));
      marked = c.clear_marks.ensures.marked;
    }

pub list_each-given-requires : goal.list_each-given-requires
list_each-given-requires c =
    let a = c.args in
    let q = c.requires in
    let g = c.list_each-configured.ensures in
    record {
      by_index = (q.small, omega (arith, c.starts-starts.ensures.few, q.kept.few));
      by_index_2 = λ x m. clear-nodes (block_lent a.block.now) a.work.now a.count a.conf.now q c.starts-starts.result c.starts-starts.ensures.few c.starts-starts.new.work (c.starts-starts.ensures.started q)
          c.clear_marks.new.work c.clear_marks.ensures x (rw (g.stack c.starts-starts.result) at m) (omega (arith, c.starts-starts.ensures.few));
      marked = g.marked;
    }

pub walk-requires : goal.walk-requires
walk-requires c =
    let a = c.args in
    let q = c.requires in
    record {
      kept = given-kept (block_lent a.block.now) a.work.now a.count a.conf.now q c.starts-starts.result c.starts-starts.ensures.few c.starts-starts.new.work (c.starts-starts.ensures.started q) c.clear_marks.new.work c.clear_marks.ensures
          c.list_each-configured.new.work c.list_each-configured.result c.list_each-configured.ensures c.list_each-given.new.work c.list_each-given.result c.list_each-given.ensures;
      piled = given-piled (block_lent a.block.now) a.work.now a.count a.conf.now q c.starts-starts.result c.starts-starts.ensures.few c.starts-starts.new.work (c.starts-starts.ensures.started q) c.clear_marks.new.work c.clear_marks.ensures
          c.list_each-configured.new.work c.list_each-configured.result c.list_each-configured.ensures c.list_each-given.new.work c.list_each-given.result c.list_each-given.ensures;
    }

pub returns : goal.returns
returns c =
    let a = c.args in
    let q = c.requires in
    reaches (block_lent a.block.now) a.work.now a.count a.conf.now q c.starts-starts.result c.starts-starts.ensures.few c.starts-starts.new.work (c.starts-starts.ensures.started q) c.clear_marks.new.work c.clear_marks.ensures
    c.list_each-configured.new.work c.list_each-configured.result c.list_each-configured.ensures c.list_each-given.new.work c.list_each-given.result c.list_each-given.ensures
    c.walk.new.work c.walk.result c.walk.ensures
