-- `write_block` meets its contract. The invariant: what is left, laid in from the place reached on, makes all.
use mathlib.Core.Path.{◌≡◌}
use Prim.Native.Nat.{◌+◌, ◌*◌}
use lib.ListN.{drop}
use Rattle.rules.specs.Octets.{lay}
use Rattle.rules.specs.Reservations.{block}
use Rattle.reservation.specs.Made.{entries_of}
use Rattle.judge.proofs.start.write_block.Given as goal

abbrev pub invariant-loop-reservation : goal.invariant-loop-reservation
invariant-loop-reservation l = (l.at ≡ 40 + 16 * l.reservation-index)
    × (lay l.initial.data 40 (block (entries_of l.reservations)) ≡ lay l.data l.at (block (entries_of (drop l.reservation-index l.reservations))))
