use mathlib.Core.Path.{sym, ◌∙◌}
use native.Mathlib.Omega.{arith}
use Rattle.judge.proofs.Starts.{block_more, block_end}
use Rattle.judge.proofs.start.write_block.Goals as goal

pub loop-reservation-preserved : goal.loop-reservation-preserved
loop-reservation-preserved c = (
  omega (arith, c.loop-reservation.invariant.0),
  c.loop-reservation.invariant.1 ∙ block_more c.loop-reservation.«data» c.loop-reservation.at c.args.reservations.now c.loop-reservation.reservation-index c.loop-reservation-test.true _ _ c.address.ensures c.size.ensures _ c.words.ensures,
)

pub returns : goal.returns
returns c = c.put_zeros.ensures ∙ sym (c.loop-reservation.invariant.1 ∙ block_end c.loop-reservation.«data» c.loop-reservation.at c.args.reservations.now c.loop-reservation.reservation-index c.loop-reservation-test.false)
