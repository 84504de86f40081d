-- `visit` meets its contract. The invariant: what the node's targets are to bring is there, but for what those bring that the
-- properties from here on tell.
use Prim.Native.Nat.{◌-◌, ◌≤◌}
use lib.ListN.{length}
use Rattle.rules.specs.Laws.Lent.{block_lent}
use Rattle.listing.specs.State.{Stacks}
use Rattle.listing.proofs.Visits.{targets_of, targets_behind}
use Rattle.listing.proofs.visit.visit.Given as goal

abbrev pub invariant-loop-p : goal.invariant-loop-p
invariant-loop-p l =
    (l.at ≤ length l.block.structure.now)
    × Stacks l.count l.initial.work l.initial.ends.list l.initial.ends.stack (targets_of (block_lent l.block) l.initial.work l.count l.x)
    l.work l.ends.list l.ends.stack (targets_behind (block_lent l.block) l.initial.work l.count l.at)

abbrev pub decreases-loop-p : goal.decreases-loop-p
decreases-loop-p l = length l.block.structure.now - l.at
