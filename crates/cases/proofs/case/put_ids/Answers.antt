use mathlib.Core.Path.{◌∙◌}
use native.Mathlib.Omega.{arith}
use Rattle.cases.proofs.Turns.{ids_none, ids_more, ids_all}
use Rattle.cases.proofs.case.put_ids.Goals as goal

pub loop-i-init : goal.loop-i-init
loop-i-init c = ids_none c.args.raw.now c.args.ids.now

pub loop-i-preserved : goal.loop-i-preserved
loop-i-preserved c = rw (c.loop-i.invariant, c.long.ensures) (ids_more c.args.raw.now c.args.ids.now c.loop-i.i (omega arith))

pub returns : goal.returns
returns c = c.loop-i.invariant ∙ ids_all c.args.raw.now c.args.ids.now c.loop-i.i (omega arith) (omega arith)
