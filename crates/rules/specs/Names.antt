-- 01, "Ceilings" and "The blob, as read": the tests of names. DTSpec 2.2.1 and 2.2.4; `node_name_valid` and
-- `property_name_valid` of the source. All characters are ASCII, so that a name that is not UTF-8 is no valid name.
use Rattle.std.specs.Prelude.{Bool, not, ◌&&◌, ◌||◌, [], ◌∷◌, ℕ, suc, leb, eqb, length, take, drop}
use Rattle.rules.specs.Ceilings.{node_name_ceiling, property_name_ceiling}
use Rattle.rules.specs.Octets.{Bytes, length_to}
use Rattle.rules.specs.Lists.{one_of, every}

abbrev pub within : ℕ → ℕ → ℕ → Bool
within low high n = leb low n && leb n high

-- 0-9 A-Z a-z , . _ + -
unfoldable pub node_char : ℕ → Bool
node_char b = within 48 57 b || within 65 90 b || within 97 122 b || one_of b (44 ∷ 46 ∷ 95 ∷ 43 ∷ 45 ∷ [])

-- those, and ? #
unfoldable pub property_char : ℕ → Bool
property_char b = node_char b || one_of b (63 ∷ 35 ∷ [])

-- where the first @ stands; the length where there is none
abbrev pub at_sign : Bytes → ℕ
at_sign s = length_to 64 s

abbrev pub before_at : Bytes → Bytes
before_at s = take (at_sign s) s

-- the unit address; a second @ is part of it, and is no character of a name
abbrev pub after_at : Bytes → Bytes
after_at s = drop (suc (at_sign s)) s

-- `node_name_valid`: empty; or 1 to 31 characters, then perhaps @ and a unit address of the same characters
unfoldable pub node_name_valid : Bytes → Bool
node_name_valid s =
    eqb (length s) 0
    || within 1 node_name_ceiling (length (before_at s)) && every node_char (before_at s) && every node_char (after_at s)

-- `property_name_valid`: 1 to 31 characters
unfoldable pub property_name_valid : Bytes → Bool
property_name_valid s = within 1 property_name_ceiling (length s) && every property_char s

-- "Other names pass `node_name_valid` and aren't empty; property names pass `property_name_valid`": how the reader judges names
unfoldable pub node_name_reads : Bytes → Bool
node_name_reads s = not (eqb (length s) 0) && node_name_valid s

unfoldable pub property_name_reads : Bytes → Bool
property_name_reads s = property_name_valid s
