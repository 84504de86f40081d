-- `build` meets its contract. The invariant: n of the properties are in the chunk, and judge what is left.
use mathlib.Core.Path.{◌≡◌}
use Prim.Native.Nat.{◌-◌, ◌≤◌}
use lib.ListN.{length}
use Rattle.doubled.specs.Sorted.{chunk_room, taken, Framed}
use Rattle.doubled.proofs.Chunks.{Filled}
use Rattle.doubled.proofs.props.build.Given as goal

abbrev pub invariant-loop-n : goal.invariant-loop-n
invariant-loop-n l =
    (l.n ≤ chunk_room) × (l.n ≤ l.left) × (l.here ≤ length l.block.structure.now) × (length l.work ≡ length l.initial.work) × Framed l.initial.work (taken l.left) l.work × Filled l.block.structure.now l.block.strings.now l.from l.left l.n l.here l.work

abbrev pub decreases-loop-n : goal.decreases-loop-n
decreases-loop-n l = chunk_room - l.n
