-- What a reservation and its maker's answer mean in the paper's words.
use Rattle.std.specs.Prelude.{List, map, Result, Ok, Err}
use Rattle.rules.specs.Outcome.{Outcome, gives, refuses}
use Rattle.rules.specs.Reservations.{Entry}
use Rattle.reservation.specs.declared.InvalidMemoryReservation.{InvalidMemoryReservation}
use Rattle.reservation.specs.declared.Reservation.{Reservation}

abbrev pub entry_of : Reservation → Entry
entry_of r = record { address = r.address; size = r.size }

abbrev pub entries_of : List Reservation → List Entry
entries_of rs = map entry_of rs

-- "refuses size 0 and address + size of 2^64 or more (27)"; place 0
abbrev pub meaning : Result Reservation InvalidMemoryReservation → Outcome Entry
meaning (Ok r) = gives (entry_of r)
meaning (Err e) = refuses 27 0
