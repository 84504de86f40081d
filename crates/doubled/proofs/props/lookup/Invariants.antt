-- `lookup` meets its contract.
use Prim.Native.Nat.{ℕ, ◌≤◌}
use lib.ListN.{length}
use Rattle.doubled.specs.Passes.{props_at}
use Rattle.doubled.specs.Sorted.{chunk_room, key_below}
use Rattle.doubled.proofs.Doubles.{Looked}
use Rattle.doubled.proofs.props.lookup.Given as goal

abbrev pub invariant-loop-index : goal.invariant-loop-index
invariant-loop-index l =
    (l.here ≤ length l.block.structure.now) × ((p : ℕ) → Looked (key_below l.block.strings.now l.work chunk_room) (props_at l.block.structure.now l.block.strings.now p l.from) l.left l.index (props_at l.block.structure.now l.block.strings.now p l.here))
