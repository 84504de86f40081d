-- `written` meets its contract: listed, measured, and written where the list fits.
use mathlib.Core.Path.{refl}
use native.Mathlib.Omega.{arith}
use Rattle.device.proofs.Writing.{writes_45, writes_list}
use Rattle.rules.specs.Laws.Lent.{block_lent}
use Rattle.device.proofs.written.written.Goals as goal

pub returns-then-list-needed : goal.returns-then-list-needed
returns-then-list-needed c = writes_45 (block_lent c.args.block.now) c.args.count c.args.conf.now c.args.excl.now c.args.work.now c.requires _ c.listed-n.result c.listed-n.ensures c.list_len-needed.result c.list_len-needed.ensures c.args.list.now c.if-list-needed.true _ refl

pub returns : goal.returns
returns c = writes_list (block_lent c.args.block.now) c.args.count c.args.conf.now c.args.excl.now c.args.work.now c.requires _ c.listed-n.result c.listed-n.ensures c.list_len-needed.result c.list_len-needed.ensures c.args.list.now (omega (arith, c.if-list-needed.false)) _ c.list_out.ensures _ refl
