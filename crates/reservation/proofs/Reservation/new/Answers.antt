-- `new` meets its contract.
use Rattle.rules.specs.Reservations.{made}
use Rattle.reservation.proofs.Reservation.new.Goals as goal

pub returns-then-invalid : goal.returns-then-invalid
unfolding made
returns-then-invalid c = rw (← c.invalid.ensures, c.if-invalid.true)

pub returns : goal.returns
unfolding made
returns c = rw (← c.invalid.ensures, c.if-invalid.false)
