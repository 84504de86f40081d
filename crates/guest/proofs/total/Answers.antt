-- `total` meets its contract.
use native.Mathlib.Omega.{arith}
use Rattle.rules.specs.Ceilings.{blob_ceiling}
use Rattle.guest.proofs.total.Goals as goal

pub overflow_add-result : goal.overflow_add-result
unfolding blob_ceiling
overflow_add-result c = record { fits = omega (arith, c.requires.0, c.requires.1) }

pub overflow_add-result-2 : goal.overflow_add-result-2
unfolding blob_ceiling
overflow_add-result-2 c = record { fits = omega (arith, c.requires.0, c.requires.1) }

pub overflow_add-result-3 : goal.overflow_add-result-3
unfolding blob_ceiling
overflow_add-result-3 c = record { fits = omega (arith, c.requires.0, c.requires.1) }
