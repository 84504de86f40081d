-- `row` meets its contract.
use mathlib.Core.Path.{ap, ◌∙◌}
use native.Mathlib.Omega.{arith}
use Rattle.doubled.specs.Passes.{row_in}
use Rattle.doubled.proofs.Rows.{row_is}
use Rattle.doubled.proofs.row.Goals as goal

pub returns : goal.returns
returns c = row_is c.args.work.now _ c.as_chunks.result.0.now c.get.result c.as_chunks.ensures.front c.get.ensures.lookup ∙ ap (row_in c.args.work.now) (omega arith)
