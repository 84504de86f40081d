-- `room` meets its contract.
use native.Mathlib.Omega.{arith}
use Rattle.rules.specs.Ceilings.{blob_ceiling}
use Rattle.judge.proofs.room.Goals as goal

pub returns : goal.returns
unfolding blob_ceiling
returns c = omega arith
