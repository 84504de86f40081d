-- A case of the derivation in one buffer: a head of twelve numbers, and the parts behind it.
use Rattle.std.specs.Prelude.{List, [], ◌∷◌, ℕ, zero, suc, ◌+◌, ◌*◌, eqb, ltb, leb, if◌then◌else◌}
use Rattle.rules.specs.Octets.{Bytes, word_at, long_at, part}

-- A place n further on. No place of a case comes near the bound, which keeps the sum from wrapping.
abbrev pub up_by : ℕ → ℕ → ℕ
up_by at n = if ltb at 4294967296 then (if ltb n 4294967296 then at + n else at) else at

abbrev pub number_of : Bytes → ℕ → ℕ
number_of case k = if ltb k 12 then word_at case (k * 4) else 0

abbrev pub id_bytes : ℕ → ℕ
id_bytes n = if leb n 80 then n * 8 else 0

-- how many bytes part k has: 6 is the ids, of 8 bytes each, and 7 to 9, words and room, have no part
unfoldable pub size_of : Bytes → ℕ → ℕ
size_of case k =
    if eqb k 6 then id_bytes (number_of case k) else (if ltb k 6 then number_of case k else (if ltb k 10 then 0 else number_of case k))

-- where part k begins
unfoldable pub start_of : Bytes → ℕ → ℕ
start_of case zero = 48
start_of case (suc k) = up_by (start_of case k) (size_of case k)

-- front, zeros and rest
abbrev pub host_of : Bytes → Bytes
host_of case = part case (start_of case 1) (up_by (number_of case 1) (up_by (number_of case 2) (number_of case 3)))

-- so many numbers of 64 bits, from a place on
unfoldable pub ids_in : Bytes → (at count : ℕ) → List ℕ
ids_in raw at zero = []
ids_in raw at (suc k) = long_at raw at ∷ ids_in raw (at + 8) k
