use mathlib.Core.Path.{refl, ◌∙◌}
use native.Mathlib.Omega.{arith}
use Rattle.cases.proofs.Turns.{filled_more, filled_all}
use Rattle.cases.proofs.fill.Goals as goal

pub loop-place-init : goal.loop-place-init
loop-place-init g c = refl

pub loop-place-preserved : goal.loop-place-preserved
loop-place-preserved g c = rw c.loop-place.invariant (filled_more c.args.s.now c.args.x c.loop-place.place-index (omega arith))

pub returns : goal.returns
returns g c = c.loop-place.invariant ∙ filled_all c.args.s.now c.args.x c.loop-place.place-index (omega arith) (omega arith)
