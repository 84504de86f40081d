-- `any_overlap` meets its contract. The invariant: the answer is that for the pairs whose later one stands at i or behind it.
use mathlib.Core.Path.{◌≡◌}
use lib.ListN.{take, drop}
use Rattle.rules.specs.Reservations.{overlapping}
use Rattle.rules.proofs.Laws.Reservations.{pairs_from}
use Rattle.reservation.specs.Made.{entries_of}
use Rattle.reservation.proofs.any_overlap.Given as goal

abbrev pub invariant-loop-i : goal.invariant-loop-i
invariant-loop-i l = overlapping (entries_of l.reservations) ≡ pairs_from (entries_of (take l.i l.reservations)) (entries_of (drop l.i l.reservations))
