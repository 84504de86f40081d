-- `onward` meets its contract: a case for each kind.
use native.Mathlib.Omega.{arith}
use Rattle.rules.specs.Ceilings.{blob_ceiling}
use Rattle.guest.proofs.walk.Walk.onward.Goals as goal

pub overflow_add-next : goal.overflow_add-next
unfolding blob_ceiling
overflow_add-next c = omega (arith, c.requires)

pub overflow_add-result : goal.overflow_add-result
unfolding blob_ceiling
overflow_add-result c = omega (arith, c.requires)
