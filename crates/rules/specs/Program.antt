-- 01, "Ceilings" and "Trees on the bench": the command program. Its request text becomes lists, or a refusal 41; its answer is
-- printed, and the guest written.
use Rattle.std.specs.Prelude.{Bool, true, false, not, ◌&&◌, List, [], ◌∷◌, ◌++◌, ℕ, zero, suc, ◌+◌, ◌-◌, ◌*◌, ◌/◌, ◌%◌, ◌^◌, eqb, ltb, length, take, drop, if◌then◌else◌}
use Rattle.std.proofs.Math.Option.{Option, none, some}
use Rattle.rules.specs.Ceilings.{program_ceiling, work_words}
use Rattle.rules.specs.Octets.{Bytes, length_to, has_nul, closed, ascii, begins}
use Rattle.rules.specs.Lists.{every}
use Rattle.rules.specs.Names.{within}
use Rattle.rules.specs.Outcome.{Outcome, gives, refuses, Verdict, passes, ◌then◌, first}
use Rattle.rules.specs.Reader.{tree_read}
use Rattle.rules.specs.References.{Rules}
use Rattle.rules.specs.Derivation.{Request, Derived, derive, listed_paths, guest_of}

-- ---- lines

-- how many bytes stand before the first newline; all of them where there is none
abbrev pub line_end : Bytes → ℕ
line_end s = length_to 10 s

pub record Line : Type 0 where
  pub offset : ℕ
  pub text : Bytes

-- "The last line may lack its newline": behind the last newline nothing is no line
unfoldable pub lines_from : (fuel offset : ℕ) → Bytes → List Line
lines_from zero offset bs = []
lines_from (suc fuel) offset [] = []
lines_from (suc fuel) offset (b ∷ bs) =
    let n : ℕ = line_end (b ∷ bs) in
    record { offset = offset; text = take n (b ∷ bs) } ∷ lines_from fuel (offset + n + 1) (drop (n + 1) (b ∷ bs))

unfoldable pub lines_of : Bytes → List Line
lines_of bs = lines_from (length bs) 0 bs

-- ---- what a line says: "lines `c PATH`, `x PATH`, `i DECIMAL` ... (PATH may be empty, DECIMAL not)"

pub data Said : Type 0 where
  configures : Bytes → Said
  excludes : Bytes → Said
  names : ℕ → Said
  other : Said

unfoldable pub decimal_after : ℕ → Bytes → ℕ
decimal_after n [] = n
decimal_after n (d ∷ ds) = decimal_after (n * 10 + (d - 48)) ds

abbrev pub digit : ℕ → Bool
digit d = within 48 57 d

-- "id of 2^64 or more" is at fault too
unfoldable pub decimal_said : Bytes → Said
decimal_said ds =
    if not (eqb (length ds) 0) && every digit ds && ltb (decimal_after 0 ds) (2 ^ 64) then names (decimal_after 0 ds) else other

-- "the first other line, line with a NUL, or id of 2^64 or more"
unfoldable pub line_said : Bytes → Said
line_said text =
    if has_nul text then other
    else if begins (ascii "c ") text then configures (drop 2 text)
    else if begins (ascii "x ") text then excludes (drop 2 text)
    else if begins (ascii "i ") text then decimal_said (drop 2 text)
    else other

abbrev pub is_other : Said → Bool
is_other (configures p) = false
is_other (excludes p) = false
is_other (names n) = false
is_other other = true

-- "(at its line's byte offset), is `refused 41`"
unfoldable pub lines_judged : List Line → Verdict
lines_judged [] = passes
lines_judged (l ∷ ls) = first (record { fails = is_other (line_said l.text); number = 41; place = l.offset } ∷ []) then lines_judged ls

-- "Input over 65,536 bytes (at 65536), then the first other line, ..."
unfoldable pub input_judged : Bytes → Verdict
input_judged input =
    first (record { fails = ltb program_ceiling (length input); number = 41; place = program_ceiling } ∷ []) then lines_judged (lines_of input)

-- ---- the lists, each in the order of its lines

abbrev pub configured_by : Said → Bytes → Bytes
configured_by (configures p) rest = closed p ++ rest
configured_by (excludes p) rest = rest
configured_by (names n) rest = rest
configured_by other rest = rest

abbrev pub excluded_by : Said → Bytes → Bytes
excluded_by (configures p) rest = rest
excluded_by (excludes p) rest = closed p ++ rest
excluded_by (names n) rest = rest
excluded_by other rest = rest

abbrev pub named_by : Said → List ℕ → List ℕ
named_by (configures p) rest = rest
named_by (excludes p) rest = rest
named_by (names n) rest = n ∷ rest
named_by other rest = rest

unfoldable pub configured_in : List Line → Bytes
configured_in [] = []
configured_in (l ∷ ls) = configured_by (line_said l.text) (configured_in ls)

unfoldable pub excluded_in : List Line → Bytes
excluded_in [] = []
excluded_in (l ∷ ls) = excluded_by (line_said l.text) (excluded_in ls)

unfoldable pub ids_in : List Line → List ℕ
ids_in [] = []
ids_in (l ∷ ls) = named_by (line_said l.text) (ids_in ls)

unfoldable pub request_in : Bytes → Request
request_in input = record { configured = configured_in (lines_of input); excluded = excluded_in (lines_of input); ids = ids_in (lines_of input) }

-- ---- what is printed

-- a number in decimal, in front of the rest; each turn takes a digit off, so that n turns and one are enough
unfoldable pub digits_from : (fuel n : ℕ) → Bytes → Bytes
digits_from zero n rest = rest
digits_from (suc fuel) n rest = elim (ltb n 10) [
  | true ↦ (48 + n) ∷ rest
  | false ↦ digits_from fuel (n / 10) ((48 + n % 10) ∷ rest)
]

unfoldable pub decimal : ℕ → Bytes
decimal n = digits_from (suc n) n []

abbrev pub newline : Bytes
newline = 10 ∷ []

unfoldable pub printed_paths : List Bytes → Bytes
printed_paths [] = []
printed_paths (p ∷ ps) = p ++ (newline ++ printed_paths ps)

-- "paths 3", the paths, "guest 254", each in a line
unfoldable pub printed_answer : List Bytes → (guest_length : ℕ) → Bytes
printed_answer ps n = ascii "paths " ++ (decimal (length ps) ++ (newline ++ (printed_paths ps ++ (ascii "guest " ++ (decimal n ++ newline)))))

-- "A refusal prints only `refused N at P` and writes no file."
unfoldable pub printed_refusal : (number place : ℕ) → Bytes
printed_refusal number place = ascii "refused " ++ (decimal number ++ (ascii " at " ++ (decimal place ++ newline)))

-- ---- the program: its host and its input, what it prints, and the guest that it writes, if any

pub record Printed : Type 0 where
  pub text : Bytes
  pub guest : Option Bytes

-- "(a longer host is `refused 3 at 0`)"
unfoldable pub host_judged : Bytes → Verdict
host_judged host = first (record { fails = ltb program_ceiling (length host); number = 3; place = 0 } ∷ [])

unfoldable pub program_outcome : Rules → (host input : Bytes) → Outcome Derived
program_outcome r host input =
    input_judged input then host_judged host then derive r host (request_in input) work_words program_ceiling program_ceiling

abbrev pub printed : Rules → (host input : Bytes) → Outcome Derived → Printed
printed r host input (gives d) =
    record {
      text = printed_answer (listed_paths r (tree_read host) (request_in input)) d.guest_length;
      guest = some (guest_of r host (request_in input));
    }
printed r host input (refuses number place) = record { text = printed_refusal number place; guest = none }

unfoldable pub program : Rules → (host input : Bytes) → Printed
program r host input = printed r host input (program_outcome r host input)
