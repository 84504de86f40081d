-- `note` meets its contract. The invariant: the first k nodes of the list are marked, and those above them.
use Prim.Native.Nat.{◌≤◌}
use Rattle.rules.specs.Space.{list_in}
use Rattle.picks.specs.Marks.{Noted}
use Rattle.picks.proofs.marks.note.Given as goal

abbrev pub invariant-loop-k : goal.invariant-loop-k
invariant-loop-k l = (l.k ≤ l.n) × Noted l.count l.initial.work l.work (list_in l.initial.work l.k)
