-- `invalid` meets its contract: the sum is none where it has no 64 bits.
use mathlib.Core.Path.{◌≡◌, sym}
use mathlib.Core.Bool.{Bool, true, false, not}
use Prim.Native.Nat.{ℕ, ◌<◌}
use native.Mathlib.Omega.{arith}
use lib.Dec.{leb}
use borrow.Author.Tests.{eq-eqb, ne_eqb, le-leb, lt-leb}
use Rattle.std.specs.Prelude.{Option, Some, None}
use Rattle.std.specs.Option.{SomeIff, is_some}
use Rattle.std.proofs.lemmas.Bool.{false≢true}
use Rattle.rules.specs.Reservations.{invalid}
use Rattle.reservation.proofs.Reservation.invalid.Goals as goal

past : (sum : Option ℕ) (none : Bool) (n m v : ℕ) → SomeIff sum (n < m) v → is_some sum ≡ not none → none ≡ leb m n
past None true n m v h e = sym (le-leb m n (omega arith))
past None false n m v h e = absurd (false≢true e)
past (Some x) true n m v h e = absurd (false≢true (sym e))
past (Some x) false n m v h e = sym (lt-leb m n h.0)

pub returns-then-self-eq0 : goal.returns-then-self-eq0
unfolding invalid
returns-then-self-eq0 c = rw (eq-eqb c.args.self.size 0 c.if-self-eq0.true)

pub returns-else-self-eq0 : goal.returns-else-self-eq0
unfolding invalid
returns-else-self-eq0 c = rw (ne_eqb c.args.self.size 0 c.if-self-eq0.false) (past _ _ _ _ _ c.checked_add.ensures c.is_none.ensures)
