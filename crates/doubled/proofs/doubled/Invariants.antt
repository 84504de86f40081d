-- `doubled` meets its contract. The invariant: the walk has come here, with the rows of the nodes before, and the work space is as
-- it was.
use mathlib.Core.Path.{◌≡◌}
use Prim.Native.Nat.{◌-◌, ◌≤◌}
use lib.ListN.{length}
use Rattle.doubled.specs.Passes.{nodes_in}
use Rattle.doubled.specs.Siblings.{Table}
use Rattle.doubled.proofs.Twins.{Come}
use Rattle.doubled.proofs.doubled.Given as goal

abbrev pub invariant-loop-kind : goal.invariant-loop-kind
invariant-loop-kind l =
    (l.at ≤ length l.block.structure.now) × (l.count ≤ l.at) × (length l.work ≡ length l.initial.work) × (Table l.initial.work (nodes_in l.block.structure.now l.block.strings.now l.block.place) → (l.work ≡ l.initial.work) × Come l.block.structure.now l.block.strings.now l.block.place l.initial.work l.at l.count)

abbrev pub decreases-loop-kind : goal.decreases-loop-kind
decreases-loop-kind l = length l.block.structure.now - l.at
