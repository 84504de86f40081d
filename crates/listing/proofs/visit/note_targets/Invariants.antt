-- `note_targets` meets its contract. The invariant: what the targets from the first word on are to bring is there, but for what
-- those from the present word on bring.
use Prim.Native.Nat.{◌-◌, ◌/◌}
use lib.ListN.{length}
use Rattle.references.specs.Rows.{meaning}
use Rattle.listing.specs.State.{Stacks}
use Rattle.listing.proofs.Visits.{targets_from}
use Rattle.rules.specs.Laws.Lent.{block_lent}
use Rattle.listing.proofs.visit.note_targets.Given as goal

abbrev pub invariant-loop-reference : goal.invariant-loop-reference
invariant-loop-reference l =
    Stacks l.count l.initial.work l.initial.ends.list l.initial.ends.stack (targets_from (block_lent l.block) l.initial.work l.count (meaning l.cells) l.value 0)
    l.work l.ends.list l.ends.stack (targets_from (block_lent l.block) l.initial.work l.count (meaning l.cells) l.value l.i)

abbrev pub decreases-loop-reference : goal.decreases-loop-reference
decreases-loop-reference l = length l.value / 4 - l.i
