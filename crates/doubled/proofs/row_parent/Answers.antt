-- `row_parent` meets its contract.
use Rattle.std.proofs.Common.{rules}
use Rattle.doubled.proofs.Rows.{parent_is}
use Rattle.doubled.proofs.row_parent.Goals as goal

pub returns : goal.returns
returns c = parent_is _ c.args.work.now c.args.i c.row.result c.map_or.result c.row.ensures c.map_or.ensures (λ x k. search rules)
