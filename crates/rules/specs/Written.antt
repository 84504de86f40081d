-- 01, "The writer": what calls leave one after the other. First the bytes that given nodes and properties become; then a run of
-- calls, each with the state and the buffers as the last one left them.
use Rattle.std.specs.Prelude.{Bool, false, List, [], ◌∷◌, ◌++◌, ℕ, suc, ◌+◌, ◌-◌, length, take}
use Rattle.rules.specs.Octets.{Bytes, be32, be64, words32, words64, closed}
use Rattle.rules.specs.Outcome.{Outcome, gives, refuses, ◌then◌}
use Rattle.rules.specs.Reservations.{Entry, block}
use Rattle.rules.specs.Writer.{State, begin_bytes, end_bytes, property_bytes, header_bytes, name_offset, name_growth, start_bytes, start, start_data, set_boot_cpu, begin_node, begin_node_data, end_node, end_node_data, property, property_data, property_strings, bad_string, bad_list, phandle_name, phandle, phandle_data, phandle_strings, phandle_table, finish, finish_data}
use Rattle.rules.specs.Events.{Event, opens, has, closes}

-- ---- nodes and properties, whatever room they take

pub record Blocks : Type 0 where
  pub structure : Bytes
  pub strings : Bytes

unfoldable pub write_event : Blocks → Event → Blocks
write_event w (opens place name) = record { structure = w.structure ++ begin_bytes name; strings = w.strings }
write_event w (has p) =
    record { structure = w.structure ++ property_bytes (name_offset p.name w.strings) p.value; strings = w.strings ++ name_growth p.name w.strings }
write_event w (closes place) = record { structure = w.structure ++ end_bytes; strings = w.strings }

unfoldable pub write_events : Blocks → List Event → Blocks
write_events w [] = w
write_events w (e ∷ es) = write_events (write_event w e) es

-- a blob of two blocks: header, reservations, structure with its END, strings
unfoldable pub blob_with : List Entry → (boot_cpu : ℕ) → Blocks → Bytes
blob_with rs boot_cpu w =
    let s : ℕ = length (start_bytes rs) in
    let n : ℕ = length w.structure + 4 in
    header_bytes (s + n + length w.strings) s (s + n) boot_cpu (length w.strings) n
    ++ (block rs ++ (w.structure ++ (be32 9 ++ w.strings)))

-- "what the writer leaves when started with ... reservations and boot CPU ..., given these nodes and properties in this order, and
-- finished"
unfoldable pub blob_of : List Entry → (boot_cpu : ℕ) → List Event → Bytes
blob_of rs boot_cpu es = blob_with rs boot_cpu (write_events (record { structure = []; strings = [] }) es)

-- ---- calls

pub data Call : Type 0 where
  boot_cpu : ℕ → Call
  begin : (name : Bytes) → Call
  end : (depth : ℕ) → Call
  bytes : (name value : Bytes) → Call
  null : (name : Bytes) → Call
  string : (name value : Bytes) → Call
  string_list : (name value : Bytes) → Call
  number32 : (name : Bytes) (value : ℕ) → Call
  number64 : (name : Bytes) (value : ℕ) → Call
  array32 : (name : Bytes) (values : List ℕ) → Call
  array64 : (name : Bytes) (values : List ℕ) → Call
  phandle_call : (value : ℕ) → Call

-- the state and what is lent
pub record Desk : Type 0 where
  pub state : State
  pub «data» : Bytes
  pub strings : Bytes
  pub phandles : List ℕ

-- a property, by whether its value breaks the helper's own rule
unfoldable pub property_call : Desk → (own : Bool) → (name value : Bytes) → Outcome Desk
property_call d own name value =
    (property d.state (length d.«data») d.strings own name value).verdict
    then gives
    (record {
      state = (property d.state (length d.«data») d.strings own name value).state;
      «data» = property_data d.state d.«data» d.strings own name value;
      strings = property_strings d.state (length d.«data») d.strings own name value;
      phandles = d.phandles;
    })

-- what one call leaves, or its refusal
unfoldable pub call : Desk → Call → Outcome Desk
call d (boot_cpu n) = gives (record { state = set_boot_cpu d.state n; «data» = d.«data»; strings = d.strings; phandles = d.phandles })
call d (begin name) =
    (begin_node d.state (length d.«data») name).verdict
    then gives
    (record {
      state = (begin_node d.state (length d.«data») name).state;
      «data» = begin_node_data d.state d.«data» name;
      strings = d.strings;
      phandles = d.phandles;
    })
call d (end depth) =
    (end_node d.state (length d.«data») depth).verdict
    then gives
    (record {
      state = (end_node d.state (length d.«data») depth).state;
      «data» = end_node_data d.state d.«data» depth;
      strings = d.strings;
      phandles = d.phandles;
    })
call d (bytes name value) = property_call d false name value
call d (null name) = property_call d false name []
call d (string name value) = property_call d (bad_string value) name (closed value)
call d (string_list name value) = property_call d (bad_list value) name value
call d (number32 name value) = property_call d false name (be32 value)
call d (number64 name value) = property_call d false name (be64 value)
call d (array32 name values) = property_call d false name (words32 values)
call d (array64 name values) = property_call d false name (words64 values)
call d (phandle_call value) =
    (phandle d.state (length d.«data») d.strings d.phandles value).verdict
    then gives
    (record {
      state = (phandle d.state (length d.«data») d.strings d.phandles value).state;
      «data» = phandle_data d.state d.«data» d.strings d.phandles value;
      strings = phandle_strings d.state (length d.«data») d.strings d.phandles value;
      phandles = phandle_table d.state (length d.«data») d.strings d.phandles value;
    })

-- calls one after the other, up to the first that is refused
unfoldable pub run : List Call → Desk → Outcome Desk
run [] d = gives d
run (c ∷ cs) d = elim (call d c) [ gives e ↦ run cs e | refuses number place ↦ refuses number place ]

-- started, called and finished: the blob that is left
unfoldable pub finished : Desk → Outcome Bytes
finished d =
    (finish d.state (length d.«data») (length d.strings)).verdict
    then gives
    (take (finish d.state (length d.«data») (length d.strings)).state.data_length (finish_data d.state d.«data» d.strings))

abbrev pub started : List Entry → (lent strings : Bytes) (phandles : List ℕ) → Desk
started rs lent strings phandles =
    record { state = (start (length lent) rs (length rs)).state; «data» = start_data lent rs (length rs); strings = strings; phandles = phandles }

unfoldable pub written : List Entry → (lent strings : Bytes) (phandles : List ℕ) → List Call → Outcome Bytes
written rs lent strings phandles cs =
    (start (length lent) rs (length rs)).verdict
    then elim (run cs (started rs lent strings phandles)) [ gives d ↦ finished d | refuses number place ↦ refuses number place ]

-- ---- the events that calls say; an event that is written has no place yet

abbrev pub has_said : (name value : Bytes) → Event
has_said name value = has (record { place = 0; name = name; value = value })

unfoldable pub said : List Call → List Event
said [] = []
said (boot_cpu n ∷ cs) = said cs
said (begin name ∷ cs) = opens 0 name ∷ said cs
said (end depth ∷ cs) = closes 0 ∷ said cs
said (bytes name value ∷ cs) = has_said name value ∷ said cs
said (null name ∷ cs) = has_said name [] ∷ said cs
said (string name value ∷ cs) = has_said name (closed value) ∷ said cs
said (string_list name value ∷ cs) = has_said name value ∷ said cs
said (number32 name value ∷ cs) = has_said name (be32 value) ∷ said cs
said (number64 name value ∷ cs) = has_said name (be64 value) ∷ said cs
said (array32 name values ∷ cs) = has_said name (words32 values) ∷ said cs
said (array64 name values ∷ cs) = has_said name (words64 values) ∷ said cs
said (phandle_call value ∷ cs) = has_said phandle_name (be32 value) ∷ said cs

-- the boot CPU that is set last, 0 where none is
unfoldable pub boot_said : ℕ → List Call → ℕ
boot_said n [] = n
boot_said n (boot_cpu m ∷ cs) = boot_said m cs
boot_said n (begin name ∷ cs) = boot_said n cs
boot_said n (end depth ∷ cs) = boot_said n cs
boot_said n (bytes name value ∷ cs) = boot_said n cs
boot_said n (null name ∷ cs) = boot_said n cs
boot_said n (string name value ∷ cs) = boot_said n cs
boot_said n (string_list name value ∷ cs) = boot_said n cs
boot_said n (number32 name value ∷ cs) = boot_said n cs
boot_said n (number64 name value ∷ cs) = boot_said n cs
boot_said n (array32 name values ∷ cs) = boot_said n cs
boot_said n (array64 name values ∷ cs) = boot_said n cs
boot_said n (phandle_call value ∷ cs) = boot_said n cs

-- the calls that events spell: `depth` nodes are open
unfoldable pub spelled : (depth : ℕ) → List Event → List Call
spelled depth [] = []
spelled depth (opens place name ∷ es) = begin name ∷ spelled (suc depth) es
spelled depth (has p ∷ es) = bytes p.name p.value ∷ spelled depth es
spelled depth (closes place ∷ es) = end depth ∷ spelled (depth - 1) es

-- events without their places
unfoldable pub unplaced : List Event → List Event
unplaced [] = []
unplaced (opens place name ∷ es) = opens 0 name ∷ unplaced es
unplaced (has p ∷ es) = has_said p.name p.value ∷ unplaced es
unplaced (closes place ∷ es) = closes 0 ∷ unplaced es
