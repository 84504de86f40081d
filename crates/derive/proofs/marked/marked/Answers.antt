-- `marked` meets its contract.
use Rattle.rules.specs.Laws.Lent.{block_lent}
use Rattle.derive.proofs.Marks.{listed_kept, listed_inside, marks_joined}
use Rattle.derive.proofs.marked.marked.Goals as goal

pub picks-requires : goal.picks-requires
picks-requires c = record { kept = listed_kept (block_lent c.args.block.now) c.args.work.now c.args.count c.args.wanted.now.conf.now c.args.wanted.now.excl.now c.args.wanted.now.ids.now c.requires _ c.listed-n.result c.listed-n.ensures; n_le_node_ceiling = c.listed-n.ensures.short; by_index = listed_inside (block_lent c.args.block.now) c.args.work.now c.args.count c.args.wanted.now.conf.now c.args.wanted.now.excl.now c.args.wanted.now.ids.now c.requires _ c.listed-n.result c.listed-n.ensures }

pub returns : goal.returns
returns c = marks_joined (block_lent c.args.block.now) c.args.work.now c.args.count c.args.wanted.now.conf.now c.args.wanted.now.excl.now c.args.wanted.now.ids.now c.requires _ c.listed-n.result c.listed-n.ensures _ c.picks.ensures
