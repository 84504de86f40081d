-- Walks over reservations, in the words of the entries that they stand for.
use mathlib.Core.Path.{◌≡◌, refl, ap}
use mathlib.Core.Bool.{◌||◌}
use mathlib.Core.List.{List, [], ◌∷◌, ◌++◌}
use Prim.Native.Nat.{ℕ, ◌+◌, ◌<◌}
use native.Mathlib.Numerals.{add-one}
use lib.ListN.{length, take, drop, get_or}
use lib.Seq.{take-suc, drop-cons}
use Rattle.std.specs.List.{list_any}
use Rattle.rules.specs.Reservations.{Entry, invalid, any_invalid}
use Rattle.rules.specs.Laws.Reservations.{meets, any_meets}
use Rattle.rules.proofs.Laws.Reservations.{pairs_from}
use Rattle.reservation.specs.declared.Reservation.{Reservation}
use Rattle.reservation.specs.Made.{entry_of, entries_of}

-- what stands past the end, as a check has it
abbrev pub nowhere : Reservation
nowhere = record { address = 0; size = 0 }

pub any_invalid_lem : (rs : List Reservation) → list_any (λ (r : Reservation). invalid (entry_of r)) rs ≡ any_invalid (entries_of rs)
unfolding any_invalid
any_invalid_lem [] = refl
any_invalid_lem (r ∷ rs) = ap (λ b. invalid (entry_of r) || b) (any_invalid_lem rs)

pub any_meets_lem : (later : Entry) (rs : List Reservation) → list_any (λ (r : Reservation). meets (entry_of r) later) rs ≡ any_meets (entries_of rs) later
unfolding any_meets
any_meets_lem later [] = refl
any_meets_lem later (r ∷ rs) = ap (λ b. meets (entry_of r) later || b) (any_meets_lem later rs)

entries_append : (rs us : List Reservation) → entries_of (rs ++ us) ≡ entries_of rs ++ entries_of us
entries_append [] us = refl
entries_append (r ∷ rs) us = ap (λ es. entry_of r ∷ es) (entries_append rs us)

-- the pairs whose later one stands at i or behind it: those of the one at i, and those behind
pub pairs_at : (rs : List Reservation) (i : ℕ) (r : Reservation) → i < length rs → pairs_from (entries_of (take i rs)) (entries_of (drop i rs))
    ≡ (any_meets (entries_of (take i rs)) (entry_of (get_or rs i r)) || pairs_from (entries_of (take (i + 1) rs)) (entries_of (drop (i + 1) rs)))
unfolding pairs_from
pairs_at rs i r h = rw (drop-cons rs i r h, add-one i, take-suc rs i r h, entries_append (take i rs))
