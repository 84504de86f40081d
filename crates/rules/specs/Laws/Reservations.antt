-- Two entries that meet, whatever the order in which they are given. That judging every pair so is judging neighbours in address order
-- is proved in proofs/Laws/Reservations.antt.
use Rattle.std.specs.Prelude.{Bool, true, false, ◌||◌, List, [], ◌∷◌, ◌+◌, leb, ltb}
use Rattle.rules.specs.Reservations.{Entry}

-- ---- every pair

-- does the one that comes first in address order run into the other; of one address, the one given first does
unfoldable pub meets : Entry → Entry → Bool
meets e f = elim (leb e.address f.address) [
  | true ↦ ltb f.address (e.address + e.size)
  | false ↦ ltb e.address (f.address + f.size)
]

-- does one of those given before meet e
unfoldable pub any_meets : List Entry → Entry → Bool
any_meets [] e = false
any_meets (d ∷ ds) e = meets d e || any_meets ds e
