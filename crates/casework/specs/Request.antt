-- The request that a case holds.
use Rattle.std.specs.Prelude.{List, ℕ, min, take}
use Rattle.rules.specs.Octets.{Bytes, part}
use Rattle.rules.specs.Derivation.{Request}
use Rattle.cases.specs.Case.{number_of, size_of, start_of, ids_in}

-- part k of a case
abbrev pub part_of : Bytes → (k : ℕ) → Bytes
part_of c k = part c (start_of c k) (size_of c k)

-- as many ids as it says, of at most 80
abbrev pub ids_of : Bytes → List ℕ
ids_of c = take (min (number_of c 6) 80) (ids_in (part_of c 6) 0 80)

abbrev pub request_of : Bytes → Request
request_of c = record { configured = part_of c 4; excluded = part_of c 5; ids = ids_of c }
