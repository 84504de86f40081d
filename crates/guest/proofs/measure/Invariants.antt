-- `measure` meets its contract. The invariant: the sums so far, and what the rest adds, are those of the whole copy.
use Prim.Native.Nat.{◌-◌}
use lib.ListN.{length}
use Rattle.guest.proofs.Counted.{Measures}
use Rattle.guest.proofs.measure.Given as goal

abbrev pub invariant-loop-kind : goal.invariant-loop-kind
invariant-loop-kind l = Measures l.block.structure.now l.block.strings.now l.initial.work l.work l.at l.walk l.sum

abbrev pub decreases-loop-kind : goal.decreases-loop-kind
decreases-loop-kind l = length l.block.structure.now - l.at
