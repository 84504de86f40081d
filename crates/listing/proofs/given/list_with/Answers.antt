-- `list_with` meets its contract: the node, and then those below it.
use Rattle.rules.specs.Laws.Lent.{block_lent}
use Rattle.listing.specs.Given.{below_in}
use Rattle.listing.proofs.Gained.{gains_with, below_alike}
use Rattle.listing.proofs.given.list_with.Goals as goal

pub list_below-requires : goal.list_below-requires
list_below-requires c =
    let a = c.args in
    let p = c.requires in
    let g = c.list-n.ensures a.count p.p_lt_count.0 p.marked in
    record { starts_le_node_ceiling = p.p_lt_count.1; by_index = rw (g.stack a.starts) p.by_index; marked = g.marked }

pub returns : goal.returns
returns c =
    let a = c.args in
    let p = c.requires in
    let g = c.list-n.ensures a.count p.p_lt_count.0 p.marked in
    gains_with a.count a.work.now a.listed a.p c.list-n.new.work c.list-n.result (below_in (block_lent a.block.now) a.work.now a.count a.starts a.p) c.list_below.new.work c.list_below.result g
    (rw (below_alike (block_lent a.block.now) a.work.now c.list-n.new.work a.count a.starts a.p p.marked.few g.apart (g.stack a.starts)) at c.list_below.ensures)
