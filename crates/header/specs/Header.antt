-- What the header's judge answers, in the paper's numbers, and the tests that it is made of.
use Rattle.std.specs.Prelude.{◌≡◌, Bool, Result, Ok, Err, not, ◌||◌, eqb, ltb, length}
use Rattle.rules.specs.Ceilings.{blob_ceiling}
use Rattle.rules.specs.Octets.{Bytes, word_at}
use Rattle.rules.specs.Outcome.{Outcome, refuses, passes}
use Rattle.rules.specs.Blob.{header_in, header_judged}
use Rattle.header.specs.declared.Parts.{Parts}
use Rattle.header.specs.declared.Refusal.{Refusal}
use Rattle.header.specs.declared.Refusal.TheVariants.{Short, Magic, Total, Version, Layout}

abbrev pub refused : {A : Type 0} → Refusal → Outcome A
refused Short = refuses 1 0
refused Magic = refuses 2 0
refused Total = refuses 3 0
refused Version = refuses 4 0
refused Layout = refuses 5 0

-- 3 and 4
unfoldable pub mistotalled : Bytes → Bool
mistotalled b = ltb (word_at b 4) 40 || ltb (length b) (word_at b 4) || ltb blob_ceiling (word_at b 4)

unfoldable pub misversioned : Bytes → Bool
misversioned b = not (eqb (word_at b 20) 17) || not (eqb (word_at b 24) 16)

-- the header passes, and its blocks stand where it says
pub record Found (b : Bytes) (p : Parts) : Type 0 where
  pub judged : header_judged b ≡ passes
  pub structure : p.structure ≡ (header_in b).structure
  pub structure_size : p.structure_size ≡ (header_in b).structure_size
  pub strings : p.strings ≡ (header_in b).strings
  pub strings_size : p.strings_size ≡ (header_in b).strings_size

abbrev pub Heads : Bytes → Result Parts Refusal → Type 0
Heads b (Ok parts) = Found b parts
Heads b (Err refusal) = header_judged b ≡ refused refusal
