-- `blocks` meets its contract. The invariant: what stands in the guest, with what the rest writes, is the copy.
use mathlib.Core.Path.{◌≡◌}
use Prim.Native.Nat.{◌-◌}
use lib.ListN.{length}
use Rattle.guest.proofs.Filled.{Fills}
use Rattle.guest.proofs.blocks.Given as goal

abbrev pub invariant-loop-kind : goal.invariant-loop-kind
invariant-loop-kind l =
    record {
      same_reference : l.laid.bytes.ghost_name ≡ l.initial.laid.bytes.ghost_name;
      same_place : l.laid.strings_at ≡ l.n;
      fills : Fills l.block.structure.now l.block.strings.now l.work l.n l.initial.laid.bytes.now l.laid.bytes.now l.at l.walk l.laid.size;
    }

abbrev pub decreases-loop-kind : goal.decreases-loop-kind
decreases-loop-kind l = length l.block.structure.now - l.at
