-- 01, "The writer": for each call its tests in their order, the state handed back, and what each lent buffer holds after it.
-- `FdtWriter` of the source. "Place is 0 throughout."
use Rattle.std.specs.Prelude.{Bool, true, false, not, ◌&&◌, ◌||◌, List, [], ◌∷◌, ◌++◌, ℕ, suc, ◌+◌, ◌-◌, ◌%◌, min, eqb, ltb, leb, length, take, if◌then◌else◌}
use Rattle.rules.specs.Ceilings.{blob_ceiling, open_ceiling, reservation_ceiling}
use Rattle.rules.specs.Octets.{Bytes, be32, words32, zeros, filled, put, has_nul, closed, ascii, begins}
use Rattle.rules.specs.Names.{node_name_valid, property_name_valid}
use Rattle.rules.specs.Lists.{one_of}
use Rattle.rules.specs.Outcome.{Verdict, settled, Test, first}
use Rattle.rules.specs.Reservations.{Entry, any_invalid, overlapping, block}

-- the writer state
pub record State : Type 0 where
  pub data_length : ℕ
  pub structure : ℕ
  pub strings_length : ℕ
  pub phandle_count : ℕ
  pub depth : ℕ
  pub ended : Bool
  pub finished : Bool
  pub boot_cpu : ℕ

-- ---- what is written

-- BEGIN, "name with NUL padded to 4"
unfoldable pub begin_bytes : Bytes → Bytes
begin_bytes name = be32 1 ++ filled (closed name)

unfoldable pub end_bytes : Bytes
end_bytes = be32 2

-- "PROP carries length, name offset, value padded to 4"
unfoldable pub property_bytes : ℕ → Bytes → Bytes
property_bytes offset value = be32 3 ++ (be32 (length value) ++ (be32 offset ++ filled value))

-- DTSpec 5.2: magic, total size, where structure, strings and reservations stand, version, last compatible version, boot CPU,
-- the sizes of strings and structure
unfoldable pub header_bytes : (total structure strings boot_cpu strings_size structure_size : ℕ) → Bytes
header_bytes total structure strings boot_cpu strings_size structure_size =
    words32 (0xd00dfeed ∷ total ∷ structure ∷ strings ∷ 40 ∷ 17 ∷ 16 ∷ boot_cpu ∷ strings_size ∷ structure_size ∷ [])

-- "Names are interned whole, first use first (NUL-closed strings, from the block's start)."
-- Where a string that is `name` begins, or the block's length: a string begins where the block does and after each NUL.
unfoldable pub name_from : Bool → Bytes → Bytes → ℕ
name_from start name [] = 0
name_from start name (b ∷ bs) = elim (start && begins (closed name) (b ∷ bs)) [ true ↦ 0 | false ↦ suc (name_from (eqb b 0) name bs) ]

abbrev pub name_offset : Bytes → Bytes → ℕ
name_offset name strings = name_from true name strings

-- what the block grows by: nothing where the name stands there already
unfoldable pub name_growth : Bytes → Bytes → Bytes
name_growth name strings = if ltb (name_offset name strings) (length strings) then [] else closed name

-- ---- the refusals that all calls share

-- of the bytes lent, those that count: "bytes past the ceiling don't count"
abbrev pub room : ℕ → ℕ
room lent = min lent blob_ceiling

-- 33: "exactly when the bytes or entries after the call exceed what was lent"
abbrev pub no_room : (lent after : ℕ) → Test
no_room lent after = record { fails = ltb (room lent) after; number = 33; place = 0 }

-- "whose numbers can't be so (data length below 56 or not a multiple of 4, structure offset outside 56 to the data length, depth
-- over 64, or a length above its lent buffer or the ceiling)"
unfoldable pub impossible : State → (dataLent strings_lent : ℕ) → Bool
impossible w dataLent strings_lent =
    w.finished
    || ltb w.data_length 56
    || not (eqb (w.data_length % 4) 0)
    || ltb w.structure 56
    || ltb w.data_length w.structure
    || ltb open_ceiling w.depth
    || ltb (room dataLent) w.data_length
    || ltb (room strings_lent) w.strings_length

-- 34: "before all else". A call that is not lent the strings judges their length by the ceiling alone.
abbrev pub wrong_state : State → (dataLent strings_lent : ℕ) → Test
wrong_state w dataLent strings_lent = record { fails = impossible w dataLent strings_lent; number = 34; place = 0 }

abbrev pub test : Bool → ℕ → Test
test fails number = record { fails = fails; number = number; place = 0 }

-- what a call answers: its verdict, and the state that it hands back ("A refused call changes neither state nor buffers")
pub record Answer : Type 0 where
  pub verdict : Verdict
  pub state : State

abbrev pub answer : Verdict → State → State → Answer
answer v old new = record { verdict = v; state = settled v old new }

-- ---- starting

-- a state of n bytes of data, nothing open
abbrev pub fresh : ℕ → Bool → State
fresh n finished =
    record { data_length = n; structure = n; strings_length = 0; phandle_count = 0; depth = 0; ended = false; finished = finished; boot_cpu = 0 }

-- what starting writes: 40 bytes for the header, and the reservations
unfoldable pub start_bytes : List Entry → Bytes
start_bytes es = zeros 40 ++ block es

-- "starting tests count over 32 (33), then 27, 28, room"
unfoldable pub start_judged : (dataLent : ℕ) → List Entry → (count : ℕ) → Verdict
start_judged dataLent es count =
    first
    (test (ltb reservation_ceiling count) 33
    ∷ test (any_invalid (take count es)) 27
    ∷ test (overlapping (take count es)) 28
    ∷ no_room dataLent (length (start_bytes (take count es)))
    ∷ [])

-- "a refused start gives zeros marked finished"
unfoldable pub start : (dataLent : ℕ) → List Entry → (count : ℕ) → Answer
start dataLent es count = answer (start_judged dataLent es count) (fresh 0 true) (fresh (length (start_bytes (take count es))) false)

unfoldable pub start_data : Bytes → List Entry → (count : ℕ) → Bytes
start_data d es count = settled (start_judged (length d) es count) d (put d 0 (start_bytes (take count es)))

-- "Setting the boot CPU never refuses."
unfoldable pub set_boot_cpu : State → ℕ → State
set_boot_cpu w n =
    record {
      data_length = w.data_length;
      structure = w.structure;
      strings_length = w.strings_length;
      phandle_count = w.phandle_count;
      depth = w.depth;
      ended = w.ended;
      finished = w.finished;
      boot_cpu = n;
    }

-- ---- opening a node: "depth, NUL, name, room"

unfoldable pub begin_judged : State → (dataLent : ℕ) → Bytes → Verdict
begin_judged w dataLent name =
    first
    (wrong_state w dataLent blob_ceiling
    ∷ test (leb open_ceiling w.depth) 31
    ∷ test (has_nul name) 24
    ∷ test (not (node_name_valid name)) 29
    ∷ no_room dataLent (w.data_length + length (begin_bytes name))
    ∷ [])

abbrev pub begun : State → Bytes → State
begun w name =
    record {
      data_length = w.data_length + length (begin_bytes name);
      structure = w.structure;
      strings_length = w.strings_length;
      phandle_count = w.phandle_count;
      depth = w.depth + 1;
      ended = false;
      finished = w.finished;
      boot_cpu = w.boot_cpu;
    }

unfoldable pub begin_node : State → (dataLent : ℕ) → Bytes → Answer
begin_node w dataLent name = answer (begin_judged w dataLent name) w (begun w name)

unfoldable pub begin_node_data : State → Bytes → Bytes → Bytes
begin_node_data w d name = settled (begin_judged w (length d) name) d (put d w.data_length (begin_bytes name))

-- ---- closing a node: "25, room". "Closing takes the depth its opening gave; one other than the state's, or 0, is 25."

unfoldable pub end_judged : State → (dataLent : ℕ) → (depth : ℕ) → Verdict
end_judged w dataLent depth =
    first
    (wrong_state w dataLent blob_ceiling
    ∷ test (eqb depth 0 || not (eqb depth w.depth)) 25
    ∷ no_room dataLent (w.data_length + length end_bytes)
    ∷ [])

abbrev pub closed_node : State → State
closed_node w =
    record {
      data_length = w.data_length + length end_bytes;
      structure = w.structure;
      strings_length = w.strings_length;
      phandle_count = w.phandle_count;
      depth = w.depth - 1;
      ended = true;
      finished = w.finished;
      boot_cpu = w.boot_cpu;
    }

unfoldable pub end_node : State → (dataLent : ℕ) → (depth : ℕ) → Answer
end_node w dataLent depth = answer (end_judged w dataLent depth) w (closed_node w)

unfoldable pub end_node_data : State → Bytes → (depth : ℕ) → Bytes
end_node_data w d depth = settled (end_judged w (length d) depth) d (put d w.data_length end_bytes)

-- ---- a property: "ended, not begun, NUL, name, room"

-- the strings written so far
abbrev pub strings_of : State → Bytes → Bytes
strings_of w strings = take w.strings_length strings

abbrev pub growth : State → Bytes → Bytes → Bytes
growth w strings name = name_growth name (strings_of w strings)

abbrev pub property_at : State → Bytes → Bytes → Bytes → Bytes
property_at w strings name value = property_bytes (name_offset name (strings_of w strings)) value

-- the tests of a property behind `before`, its helper's own
abbrev pub property_tests : State → (dataLent : ℕ) → Bytes → Bytes → Bytes → List Test
property_tests w dataLent strings name value =
    test w.ended 21
    ∷ test (eqb w.depth 0) 20
    ∷ test (has_nul name) 24
    ∷ test (not (property_name_valid name)) 30
    ∷ no_room dataLent (w.data_length + length (property_at w strings name value))
    ∷ no_room (length strings) (w.strings_length + length (growth w strings name))
    ∷ []

-- `own` says that the value breaks its helper's rule: "String helpers test NUL in the value before all that"
unfoldable pub property_judged : State → (dataLent : ℕ) → Bytes → (own : Bool) → Bytes → Bytes → Verdict
property_judged w dataLent strings own name value =
    first (wrong_state w dataLent (length strings) ∷ test own 24 ∷ property_tests w dataLent strings name value)

abbrev pub with_property : State → Bytes → Bytes → Bytes → State
with_property w strings name value =
    record {
      data_length = w.data_length + length (property_at w strings name value);
      structure = w.structure;
      strings_length = w.strings_length + length (growth w strings name);
      phandle_count = w.phandle_count;
      depth = w.depth;
      ended = w.ended;
      finished = w.finished;
      boot_cpu = w.boot_cpu;
    }

unfoldable pub property : State → (dataLent : ℕ) → Bytes → (own : Bool) → Bytes → Bytes → Answer
property w dataLent strings own name value = answer (property_judged w dataLent strings own name value) w (with_property w strings name value)

unfoldable pub property_data : State → Bytes → Bytes → (own : Bool) → Bytes → Bytes → Bytes
property_data w d strings own name value =
    settled (property_judged w (length d) strings own name value) d (put d w.data_length (property_at w strings name value))

unfoldable pub property_strings : State → (dataLent : ℕ) → Bytes → (own : Bool) → Bytes → Bytes → Bytes
property_strings w dataLent strings own name value =
    settled (property_judged w dataLent strings own name value) strings (put strings w.strings_length (growth w strings name))

-- ---- the helpers, each by the value that it writes and whether that breaks its own rule

-- `property`, `property_null`, `property_u32`, `property_u64`, `property_array_u32`, `property_array_u64` have no rule of their
-- own and write the value, nothing, be32, be64, words32, words64. `property_string` writes the string closed by NUL:
abbrev pub bad_string : Bytes → Bool
bad_string value = has_nul value

-- "a string list lends each string NUL-closed; a last one unclosed is 24"
unfoldable pub bad_list : Bytes → Bool
bad_list [] = false
bad_list (b ∷ []) = not (eqb b 0)
bad_list (b ∷ c ∷ bs) = bad_list (c ∷ bs)

-- ---- `property_phandle`: its table lent, "tests duplicates first"

abbrev pub phandle_name : Bytes
phandle_name = ascii "phandle"

unfoldable pub phandle_judged : State → (dataLent : ℕ) → Bytes → List ℕ → ℕ → Verdict
phandle_judged w dataLent strings phandles value =
    first
    (wrong_state w dataLent (length strings)
    ∷ test (ltb (length phandles) w.phandle_count) 34
    ∷ test (one_of value (take w.phandle_count phandles)) 32
    ∷ (property_tests w dataLent strings phandle_name (be32 value)
    ++ test (ltb (length phandles) (w.phandle_count + 1)) 33
    ∷ []))

abbrev pub with_phandle : State → Bytes → ℕ → State
with_phandle w strings value =
    record {
      data_length = w.data_length + length (property_at w strings phandle_name (be32 value));
      structure = w.structure;
      strings_length = w.strings_length + length (growth w strings phandle_name);
      phandle_count = w.phandle_count + 1;
      depth = w.depth;
      ended = w.ended;
      finished = w.finished;
      boot_cpu = w.boot_cpu;
    }

unfoldable pub phandle : State → (dataLent : ℕ) → Bytes → List ℕ → ℕ → Answer
phandle w dataLent strings phandles value = answer (phandle_judged w dataLent strings phandles value) w (with_phandle w strings value)

unfoldable pub phandle_data : State → Bytes → Bytes → List ℕ → ℕ → Bytes
phandle_data w d strings phandles value =
    settled (phandle_judged w (length d) strings phandles value) d (put d w.data_length (property_at w strings phandle_name (be32 value)))

unfoldable pub phandle_strings : State → (dataLent : ℕ) → Bytes → List ℕ → ℕ → Bytes
phandle_strings w dataLent strings phandles value =
    settled (phandle_judged w dataLent strings phandles value) strings (put strings w.strings_length (growth w strings phandle_name))

unfoldable pub phandle_table : State → (dataLent : ℕ) → Bytes → List ℕ → ℕ → List ℕ
phandle_table w dataLent strings phandles value =
    settled (phandle_judged w dataLent strings phandles value) phandles (put phandles w.phandle_count (value ∷ []))

-- ---- `finish`: "26, room", where room is "data, plus 4, plus strings: the data length it leaves, with only the finished mark
-- besides"

abbrev pub total : State → ℕ
total w = w.data_length + 4 + w.strings_length

unfoldable pub finish_judged : State → (dataLent strings_lent : ℕ) → Verdict
finish_judged w dataLent strings_lent =
    first (wrong_state w dataLent strings_lent ∷ test (not (eqb w.depth 0)) 26 ∷ no_room dataLent (total w) ∷ [])

abbrev pub closed_state : State → State
closed_state w =
    record {
      data_length = total w;
      structure = w.structure;
      strings_length = w.strings_length;
      phandle_count = w.phandle_count;
      depth = w.depth;
      ended = w.ended;
      finished = true;
      boot_cpu = w.boot_cpu;
    }

unfoldable pub finish : State → (dataLent strings_lent : ℕ) → Answer
finish w dataLent strings_lent = answer (finish_judged w dataLent strings_lent) w (closed_state w)

abbrev pub header_of : State → Bytes
header_of w = header_bytes (total w) w.structure (w.data_length + 4) w.boot_cpu w.strings_length (w.data_length + 4 - w.structure)

-- END and the strings behind the data, and the header in front
unfoldable pub finish_data : State → Bytes → Bytes → Bytes
finish_data w d strings =
    settled (finish_judged w (length d) (length strings)) d
    (put (put d w.data_length (be32 9 ++ strings_of w strings)) 0 (header_of w))
