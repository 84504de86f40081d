-- `walk` meets its contract. The invariant: what is listed, and what the work list still comes to, is what it came to at first.
use mathlib.Core.Path.{◌≡◌}
use Prim.Native.Nat.{◌+◌, ◌-◌}
use Rattle.listing.specs.State.{Apart, Piled}
use Rattle.listing.specs.Walk.{work_from}
use Rattle.rules.specs.Laws.Lent.{block_lent}
use Rattle.listing.proofs.walk.walk.Given as goal

abbrev pub invariant-loop-ends : goal.invariant-loop-ends
invariant-loop-ends l =
    Apart l.initial.work l.work
    × Piled l.work l.count l.ends.list l.ends.stack
    × (work_from (block_lent l.block) l.initial.work l.work l.count l.ends.list l.ends.stack ≡ work_from (block_lent l.block) l.initial.work l.initial.work l.count l.initial.ends.list l.initial.ends.stack)

abbrev pub decreases-loop-ends : goal.decreases-loop-ends
decreases-loop-ends l = l.count + l.ends.stack - l.ends.list
