-- `above` meets its contract. The invariant: what is marked, and what is above the node that is come to, are the whole.
use Prim.Native.Nat.{ℕ, ◌≤◌}
use Rattle.picks.proofs.Marking.{Climbing}
use Rattle.picks.proofs.marks.above.Given as goal

abbrev pub invariant-loop-at : goal.invariant-loop-at
invariant-loop-at l = (left : ℕ) × (l.at ≤ left) × Climbing l.count l.initial.work l.work l.j left l.at

abbrev pub decreases-loop-at : goal.decreases-loop-at
decreases-loop-at l = l.at
