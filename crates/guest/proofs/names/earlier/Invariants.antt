-- `earlier` meets its contract. The invariant: the name is among the first properties where it is among those that are left.
use mathlib.Core.Path.{◌≡◌}
use Prim.Native.Nat.{◌-◌, ◌≤◌}
use lib.ListN.{length, take}
use Rattle.rules.specs.Blob.{block_of}
use Rattle.guest.specs.Walked.{marked}
use Rattle.guest.specs.Measured.{is_in, names_in}
use Rattle.guest.proofs.Turns.{Behind, names_from}
use Rattle.guest.proofs.names.earlier.Given as goal

abbrev pub invariant-loop-left : goal.invariant-loop-left
invariant-loop-left l =
    (l.at ≤ length l.block.structure.now) × Behind l.walk l.at
    × (is_in l.name (take l.left (names_from (marked l.work) (block_of 0 l.block.structure.now l.block.strings.now) l.at l.walk)) ≡ is_in l.name (take l.props (names_in l.block.structure.now l.block.strings.now l.work)))

abbrev pub decreases-loop-left : goal.decreases-loop-left
decreases-loop-left l = length l.block.structure.now - l.at
