-- The constants of src/lib.rt as numbers that compute, since a proof of code meets them so. A number of theirs stands there, in src/lib.rt
-- and here, and nowhere else; that each is the number of its definition (Ceilings, Space) is proved in proofs/Laws/Constants.antt.
use Rattle.std.specs.Prelude.{ℕ}

abbrev pub NODE_CEILING : ℕ
NODE_CEILING = 2048

abbrev pub ENTRY_CEILING : ℕ
ENTRY_CEILING = 64

abbrev pub WORK_WORDS : ℕ
WORK_WORDS = 16384

abbrev pub NODE_WORDS : ℕ
NODE_WORDS = 4

abbrev pub MARKS_AT : ℕ
MARKS_AT = 8192

abbrev pub LIST_AT : ℕ
LIST_AT = 10240

abbrev pub STACK_AT : ℕ
STACK_AT = 12288

abbrev pub NAMES_AT : ℕ
NAMES_AT = 14336
