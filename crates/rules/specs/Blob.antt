-- 01, "The blob, as read": the header (DTSpec 5.2), the memory reservations (5.3) and refusals 1 to 5.
use Rattle.std.specs.Prelude.{Bool, true, false, not, ◌&&◌, ◌||◌, List, [], ◌∷◌, ℕ, zero, suc, ◌+◌, ◌%◌, eqb, ltb, length}
use Rattle.std.proofs.Math.Option.{Option, none, some, map}
use Rattle.rules.specs.Ceilings.{blob_ceiling}
use Rattle.rules.specs.Octets.{Bytes, word_at, long_at, part}
use Rattle.rules.specs.Outcome.{Verdict, first}
use Rattle.rules.specs.Reservations.{Entry}

pub record Header : Type 0 where
  pub magic : ℕ
  pub total : ℕ
  pub structure : ℕ
  pub strings : ℕ
  pub reservations : ℕ
  pub version : ℕ
  pub compatible : ℕ
  pub boot_cpu : ℕ
  pub strings_size : ℕ
  pub structure_size : ℕ

unfoldable pub header_in : Bytes → Header
header_in b =
    record {
      magic = word_at b 0;
      total = word_at b 4;
      structure = word_at b 8;
      strings = word_at b 12;
      reservations = word_at b 16;
      version = word_at b 20;
      compatible = word_at b 24;
      boot_cpu = word_at b 28;
      strings_size = word_at b 32;
      structure_size = word_at b 36;
    }

-- The reservations from `at` on, up to the first pair of zeros, which ends at `limit` or before; none where there is no such pair.
unfoldable pub entries_from : (fuel : ℕ) → Bytes → (at limit : ℕ) → Option (List Entry)
entries_from zero b at limit = none
entries_from (suc fuel) b at limit = elim (ltb limit (at + 16)) [
  | true ↦ none
  | false ↦ elim (eqb (long_at b at) 0 && eqb (long_at b (at + 8)) 0) [
    | true ↦ some []
    | false ↦ map (λ (es : List Entry). record { address = long_at b at; size = long_at b (at + 8) } ∷ es) (entries_from fuel b (at + 16) limit)
  ]
]

-- A pair takes 16 bytes, and past the end all is zero, so that there are fewer pairs than bytes.
unfoldable pub entries_in : Bytes → Option (List Entry)
entries_in b = entries_from (suc (length b)) b (header_in b).reservations (header_in b).structure

abbrev pub missing : {A : Type 0} → Option A → Bool
missing none = true
missing (some a) = false

-- 5: "reservation offset below 40 or not a multiple of 8; structure offset or size not a multiple of 4; no zero pair closing the
-- reservations; reservations, structure, strings not in that order, apart, inside totalsize"
unfoldable pub misplaced : Bytes → Bool
misplaced b =
    let h : Header = header_in b in
    ltb h.reservations 40
    || not (eqb (h.reservations % 8) 0)
    || not (eqb (h.structure % 4) 0)
    || not (eqb (h.structure_size % 4) 0)
    || missing (entries_in b)
    || ltb h.strings (h.structure + h.structure_size)
    || ltb h.total (h.strings + h.strings_size)

-- "1 to 5 go in order, with place 0."
unfoldable pub header_judged : Bytes → Verdict
header_judged b =
    let h : Header = header_in b in
    first
    (record { fails = ltb (length b) 40; number = 1; place = 0 }
    ∷ record { fails = not (eqb h.magic 0xd00dfeed); number = 2; place = 0 }
    ∷ record { fails = ltb h.total 40 || ltb (length b) h.total || ltb blob_ceiling h.total; number = 3; place = 0 }
    ∷ record { fails = not (eqb h.version 17) || not (eqb h.compatible 16); number = 4; place = 0 }
    ∷ record { fails = misplaced b; number = 5; place = 0 }
    ∷ [])

-- "the structure block is handed on as its own part of the blob"; with it, where it stands, and the strings block
pub record Block : Type 0 where
  pub place : ℕ
  pub structure : Bytes
  pub strings : Bytes

-- from its parts
abbrev pub block_of : (place : ℕ) (structure strings : Bytes) → Block
block_of place structure strings = record { place = place; structure = structure; strings = strings }

unfoldable pub block_in : Bytes → Block
block_in b =
    let h : Header = header_in b in
    record { place = h.structure; structure = part b h.structure h.structure_size; strings = part b h.strings h.strings_size }
