-- `put` meets its contract: all of src, or what there is room for.
use Rattle.std.proofs.Common.{◌≡◌, ◌+◌, ◌-◌, length, arith}
use lib.Seq.{take-length}
use Rattle.octets.proofs.Slices.{lay_mid}
use Rattle.octets.proofs.put.Goals as goal

pub returns-then-src-room : goal.returns-then-src-room
returns-then-src-room g c =
    let src = c.args.src.now in
    let k : c.min-start.result + length src - c.min-start.result ≡ length src = omega arith in
    rw (k, c.copy_from_slice.ensures.after) (rw take-length at (lay_mid c.args.d.now c.args.at src _ (length src) c.min-start.ensures (omega arith)))

pub returns-else-src-room : goal.returns-else-src-room
returns-else-src-room g c =
    rw c.copy_from_slice-else-src-room.ensures.after (lay_mid c.args.d.now c.args.at c.args.src.now _ _ c.min-start.ensures (omega arith))
