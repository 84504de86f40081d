-- What a start answers and leaves.
use mathlib.Core.Path.{◌≡◌, sym}
use mathlib.Core.Bool.{true, false}
use mathlib.Core.List.{List, [], ◌∷◌}
use Prim.Native.Nat.{ℕ, ◌+◌, ◌*◌, ◌≤◌, min}
use native.Mathlib.Omega.{arith}
use Rattle.std.proofs.Math.Nat.{min-eq_left}
use borrow.Author.Tests.{ltb-false}
use lib.Dec.{ltb}
use lib.ListN.{length}
use Rattle.rules.specs.Ceilings.{reservation_ceiling}
use Rattle.rules.specs.Octets.{Bytes, lay}
use Rattle.rules.specs.Outcome.{refuses, passes}
use Rattle.rules.specs.Reservations.{any_invalid, overlapping}
use Rattle.rules.specs.Writer.{State, fresh, test, no_room, start_bytes, start_judged, start, start_data}
use Rattle.reservation.specs.declared.Reservation.{Reservation}
use Rattle.reservation.specs.Made.{entries_of}
use Rattle.judge.proofs.Starts.{taken, length_start}
use Rattle.writer.proofs.Passed.{all_passed, fits, answer_refused, answer_done, kept, changed}

start_passed : (lent : ℕ) (rs : List Reservation) → passes ≡ start_judged lent (entries_of rs) (length rs) → (length rs ≤ 32) × (length (start_bytes (entries_of rs)) ≤ lent)
unfolding start_judged reservation_ceiling
start_passed lent rs e =
    let t =
    all_passed
    (test (ltb reservation_ceiling (length rs)) 33
    ∷ test (any_invalid (entries_of rs)) 27
    ∷ test (overlapping (entries_of rs)) 28
    ∷ no_room lent (length (start_bytes (entries_of rs)))
    ∷ [])
    (rw (taken rs) at e) in
    (ltb-false _ _ t.0, (fits lent (length (start_bytes (entries_of rs))) t.1.1.1.0).0)

-- a start that passed is as long as so many reservations make it, since all of them count
pub start_long : (lent : ℕ) (rs : List Reservation) → passes ≡ start_judged lent (entries_of rs) (length rs) → 56 + 16 * min (length rs) 32 ≡ length (start_bytes (entries_of rs))
start_long lent rs e = rw (min-eq_left (start_passed lent rs e).0) (sym (length_start rs))

module _ (d : Bytes) (rs : List Reservation) (x : State) where
  pub start_refused : x ≡ fresh 0 true → (n : ℕ) → refuses n 0 ≡ start_judged (length d) (entries_of rs) (length rs)
      → (record { verdict = refuses n 0; state = x } ≡ start (length d) (entries_of rs) (length rs)) × (d ≡ start_data d (entries_of rs) (length rs))
  unfolding start start_data
  start_refused h n v = (rw h (answer_refused _ n (fresh 0 true) _ v), kept _ n d _ v)

  pub start_done : (d₁ : Bytes) → x ≡ fresh (length (start_bytes (entries_of rs))) false → passes ≡ start_judged (length d) (entries_of rs) (length rs)
      → d₁ ≡ lay d 0 (start_bytes (entries_of rs)) → (record { verdict = passes; state = x } ≡ start (length d) (entries_of rs) (length rs)) × (d₁ ≡ start_data d (entries_of rs) (length rs))
  unfolding start start_data
  start_done d₁ h v l =
      let p = start_passed (length d) rs v in
      rw (taken rs) (rw h (answer_done _ (fresh 0 true) _ v), changed _ d d₁ 0 (start_bytes (entries_of rs)) v (omega (arith, p.1)) l)
