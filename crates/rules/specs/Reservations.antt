-- 01, "The writer": memory reservations (DTSpec 5.3). `FdtReserveEntry` and `check_overlapping` of the source.
use Rattle.std.specs.Prelude.{Bool, true, false, ◌||◌, List, [], ◌∷◌, ◌++◌, ℕ, ◌+◌, ◌^◌, eqb, leb, ltb}
use Rattle.rules.specs.Octets.{Bytes, be64}
use Rattle.rules.specs.Outcome.{Outcome, gives, first, ◌then◌}

pub record Entry : Type 0 where
  pub address : ℕ
  pub size : ℕ

-- "refuses size 0 and address + size of 2^64 or more (27)"
unfoldable pub invalid : Entry → Bool
invalid e = eqb e.size 0 || leb (2 ^ 64) (e.address + e.size)

-- what the maker answers
unfoldable pub made : ℕ → ℕ → Outcome Entry
made address size =
    let e : Entry = record { address = address; size = size } in
    first (record { fails = invalid e; number = 27; place = 0 } ∷ []) then gives e

unfoldable pub any_invalid : List Entry → Bool
any_invalid [] = false
any_invalid (e ∷ es) = invalid e || any_invalid es

-- ---- "Overlap (28) is judged in address order"

-- e among entries in address order, behind those of the same address
unfoldable pub insert : Entry → List Entry → List Entry
insert e [] = e ∷ []
insert e (f ∷ fs) = elim (leb f.address e.address) [ true ↦ f ∷ insert e fs | false ↦ e ∷ f ∷ fs ]

unfoldable pub sorted_from : List Entry → List Entry → List Entry
sorted_from done [] = done
sorted_from done (e ∷ es) = sorted_from (insert e done) es

-- does one run into the next
unfoldable pub neighbours : List Entry → Bool
neighbours [] = false
neighbours (e ∷ []) = false
neighbours (e ∷ f ∷ fs) = ltb f.address (e.address + e.size) || neighbours (f ∷ fs)

unfoldable pub overlapping : List Entry → Bool
overlapping es = neighbours (sorted_from [] es)

-- ---- the block

-- "entries are written in the order given"
unfoldable pub entry_bytes : List Entry → Bytes
entry_bytes [] = []
entry_bytes (e ∷ es) = be64 e.address ++ (be64 e.size ++ entry_bytes es)

-- closed by a pair of zeros
unfoldable pub block : List Entry → Bytes
block es = entry_bytes es ++ (be64 0 ++ be64 0)
