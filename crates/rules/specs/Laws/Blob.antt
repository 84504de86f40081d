-- A word that contracts over a header's reservations cite. The laws of the header stand in proofs/Laws/Blob.antt.
use Rattle.std.specs.Prelude.{Bool, ◌&&◌, ℕ, ◌+◌, eqb}
use Rattle.rules.specs.Octets.{Bytes, long_at}

-- ---- reservations

-- a pair of zeros
abbrev pub zero_pair : Bytes → ℕ → Bool
zero_pair b at = eqb (long_at b at) 0 && eqb (long_at b (at + 8)) 0
