-- The blob of two blocks without reservations, part by part, and how long it is.
use Rattle.std.specs.Prelude.{◌≡◌, refl, List, [], ◌++◌, ◌+◌, length}
use Rattle.std.proofs.Common.{ap, arith, length-append}
use Rattle.rules.specs.Octets.{Bytes, be32, be64, zeros}
use Rattle.rules.specs.Reservations.{entry_bytes, block}
use Rattle.rules.specs.Events.{Event}
use Rattle.rules.specs.Writer.{header_bytes, start_bytes}
use Rattle.rules.specs.Written.{Blocks, write_events, blob_with, blob_of}
use Rattle.rules.proofs.Laws.Octets.{length_be32, length_zeros}
use Rattle.rules.proofs.Laws.Header.{length_header}
use Rattle.guest.specs.Walked.{blank}

reserved : block [] ≡ zeros 16
unfolding block entry_bytes be64 be32
reserved = refl

front_length : length (start_bytes []) ≡ 56
unfolding start_bytes
front_length = omega (arith, length-append (zeros 40) (block []), ap length reserved, length_zeros 40, length_zeros 16)

-- its header
abbrev pub head_of : Blocks → Bytes
head_of w =
    header_bytes (56 + (length w.structure + 4) + length w.strings) 56 (56 + (length w.structure + 4)) 0 (length w.strings) (length w.structure + 4)

pub blob_is : (w : Blocks) → blob_with [] 0 w ≡ head_of w ++ (zeros 16 ++ (w.structure ++ (be32 9 ++ w.strings)))
unfolding blob_with
blob_is w = rw (front_length, reserved)

-- how long it is
pub blob_length : (w : Blocks) → length (blob_with [] 0 w) ≡ 56 + length w.structure + 4 + length w.strings
blob_length w =
    rw (
      blob_is w,
      length-append (head_of w) (zeros 16 ++ (w.structure ++ (be32 9 ++ w.strings))),
      length-append (zeros 16) (w.structure ++ (be32 9 ++ w.strings)),
      length-append w.structure (be32 9 ++ w.strings),
      length-append (be32 9) w.strings,
      length_header (56 + (length w.structure + 4) + length w.strings) 56 (56 + (length w.structure + 4)) 0 (length w.strings) (length w.structure + 4),
      length_zeros 16,
      length_be32 9,
    )
    (omega arith)

pub guest_length_lem : (es : List Event) → length (blob_of [] 0 es) ≡ 56 + length (write_events blank es).structure + 4 + length (write_events blank es).strings
unfolding blob_of
guest_length_lem es = blob_length (write_events blank es)
