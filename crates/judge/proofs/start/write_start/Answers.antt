-- `write_start` meets its contract: zeros for the header, then the block.
use native.Mathlib.Omega.{arith}
use Rattle.rules.specs.Octets.{zeros}
use Rattle.rules.specs.Reservations.{block}
use Rattle.rules.proofs.Laws.Octets.{length_zeros}
use Rattle.rules.proofs.Laws.Writer.{laid_on}
use Rattle.reservation.specs.Made.{entries_of}
use Rattle.judge.proofs.Starts.{start_bytes_lem}
use Rattle.judge.proofs.start.write_start.Goals as goal

pub returns : goal.returns
returns c =
    let es = entries_of c.args.reservations.now in
    rw (start_bytes_lem es) (laid_on c.args.«data».now 0 (zeros 40) (block es) c.put_zeros.ensures (omega (arith, length_zeros 40)) c.write_block.ensures)
