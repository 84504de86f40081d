-- `judge` meets its contract. The invariant: the rest of the walk is the whole walk, and the work space holds the rows so far.
use Prim.Native.Nat.{◌-◌}
use lib.ListN.{length}
use Rattle.rules.specs.Laws.Lent.{block_lent}
use Rattle.shape.proofs.Walks.{Inv}
use Rattle.shape.proofs.judge.Given as goal

abbrev pub invariant-loop-kind : goal.invariant-loop-kind
invariant-loop-kind l = Inv (block_lent l.block) l.initial.work l.work l.at l.walk

abbrev pub decreases-loop-kind : goal.decreases-loop-kind
decreases-loop-kind l = length l.block.structure.now - l.at
