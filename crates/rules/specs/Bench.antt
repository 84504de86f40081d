-- 01, "Trees on the bench": the starred cases in one table under a single statement; the names of the rule table, and near misses,
-- in another; and for tree T the whole answer. That each case holds is proved in proofs/Bench.antt, by computation from the definitions.
use Rattle.std.specs.Prelude.{Bool, true, false, List, [], ◌∷◌, ◌++◌, map, ℕ, ◌-◌, ◌^◌, length, replicate}
use Rattle.std.proofs.Math.Option.{Option, none, some}
use Prim.Native.String.{String}
use Rattle.rules.specs.Octets.{Bytes, word_at, words32, zeros, ascii, closed, same}
use Rattle.rules.specs.Outcome.{Outcome, gives, refuses}
use Rattle.rules.specs.Names.{node_name_valid, property_name_valid}
use Rattle.rules.specs.Reservations.{Entry, made}
use Rattle.rules.specs.Writer.{start}
use Rattle.rules.specs.Written.{Call, begin, bytes, end, written, has_said, blob_of}
use Rattle.rules.specs.Events.{Event, opens, closes}
use Rattle.rules.specs.Reader.{tree_read}
use Rattle.rules.specs.References.{edition1, is_reference, cells_in, cell_rows, lookup, cell_count, scan, target}
use Rattle.rules.specs.Listing.{paths_bytes}
use Rattle.rules.specs.Derivation.{Request, list_of}
use Rattle.rules.specs.Program.{program}

-- a case: what the definitions give, and what the paper says
pub record Case : Type 0 where
  pub gets : List ℕ
  pub wants : List ℕ

-- every case gives what it should: a test, so that a wrong case costs no more than a right one
unfoldable pub hold_all : List Case → Bool
hold_all [] = true
hold_all (c ∷ cs) = elim (same c.gets c.wants) [ true ↦ hold_all cs | false ↦ false ]

-- ---- tree T: `/clk` (phandle 1, #clock-cells 1), `/pd` (phandle 2), `/soc`, `/soc/uart@100` (clocks 1 5, power-domains 2),
-- `/soc/dma@200` (phandle 3)

abbrev pub node : String → Event
node name = opens 0 (ascii name)

abbrev pub cells : String → List ℕ → Event
cells name values = has_said (ascii name) (words32 values)

unfoldable pub events_t : List Event
events_t =
    node ""
    ∷ node "clk" ∷ cells "phandle" (1 ∷ []) ∷ cells "#clock-cells" (1 ∷ []) ∷ closes 0
    ∷ node "pd" ∷ cells "phandle" (2 ∷ []) ∷ closes 0
    ∷ node "soc"
    ∷ node "uart@100" ∷ cells "clocks" (1 ∷ 5 ∷ []) ∷ cells "power-domains" (2 ∷ []) ∷ closes 0
    ∷ node "dma@200" ∷ cells "phandle" (3 ∷ []) ∷ closes 0
    ∷ closes 0
    ∷ closes 0
    ∷ []

unfoldable pub host_t : Bytes
host_t = blob_of [] 0 events_t

-- "Configured `/soc/uart@100`, no ids."
abbrev pub request_t : (excluded : Bytes) → Request
request_t excluded = record { configured = closed (ascii "/soc/uart@100"); excluded = excluded; ids = [] }

-- a line of text
abbrev pub line : String → Bytes
line text = ascii text ++ (10 ∷ [])

-- ---- the starred cases

-- the size of a finished blob and of its structure, or the refusal's number
abbrev sizes : Outcome Bytes → List ℕ
sizes (gives b) = length b ∷ word_at b 36 ∷ []
sizes (refuses number place) = number ∷ []

abbrev finished_after : List Call → List ℕ
finished_after cs = sizes (written [] (zeros 128) (zeros 16) [] cs)

-- a refusal's number, or 0
abbrev pub number_of : {A : Type 0} → Outcome A → List ℕ
number_of (gives a) = 0 ∷ []
number_of (refuses number place) = number ∷ []

abbrev entry : ℕ → ℕ → Entry
entry address size = record { address = address; size = size }

abbrev started_with : List Entry → List ℕ
started_with es = number_of (start 128 es (length es)).verdict

abbrev pub bit : Bool → List ℕ
bit true = 1 ∷ []
bit false = 0 ∷ []

-- the targets that a property of tree T with these words has
abbrev referenced : String → List ℕ → List ℕ
referenced name ws = map target (scan (lookup (tree_read host_t)) (cell_count edition1 (tree_read host_t) (ascii name)) (words32 ws))

abbrev pub starred_cases : List Case
starred_cases =
    -- "Empty writer finished: 60 bytes. Root with property `a`, one byte: 90 bytes, structure size 32."
    record { gets = finished_after []; wants = 60 ∷ 4 ∷ [] }
    ∷ record { gets = finished_after (begin [] ∷ bytes (ascii "a") (7 ∷ []) ∷ end 1 ∷ []); wants = 90 ∷ 32 ∷ [] }
    -- "Reservations (0, 4096), (4096, 1) pass; (0, 4097), (4096, 1) give 28; (2^64-1, 1) gives 27; (2^64-2, 1) passes."
    ∷ record { gets = started_with (entry 0 4096 ∷ entry 4096 1 ∷ []); wants = 0 ∷ [] }
    ∷ record { gets = started_with (entry 0 4097 ∷ entry 4096 1 ∷ []); wants = 28 ∷ [] }
    ∷ record { gets = number_of (made (2 ^ 64 - 1) 1); wants = 27 ∷ [] }
    ∷ record { gets = number_of (made (2 ^ 64 - 2) 1); wants = 0 ∷ [] }
    -- "Names: `a@` passes, `@1` and `a@b@c` fail; 31 bytes pass, 32 fail."
    ∷ record { gets = bit (node_name_valid (ascii "a@")); wants = 1 ∷ [] }
    ∷ record { gets = bit (node_name_valid (ascii "@1")); wants = 0 ∷ [] }
    ∷ record { gets = bit (node_name_valid (ascii "a@b@c")); wants = 0 ∷ [] }
    ∷ record { gets = bit (node_name_valid (replicate 31 97)); wants = 1 ∷ [] }
    ∷ record { gets = bit (node_name_valid (replicate 32 97)); wants = 0 ∷ [] }
    ∷ record { gets = bit (property_name_valid (replicate 31 97)); wants = 1 ∷ [] }
    ∷ record { gets = bit (property_name_valid (replicate 32 97)); wants = 0 ∷ [] }
    -- "In T, clocks `1`: none; `1 5`: clk; `1 2 2`: clk, pd; `9 1 5`: clk. power-domains `1`: clk." Node 1 is clk, node 2 is pd.
    ∷ record { gets = referenced "clocks" (1 ∷ []); wants = [] }
    ∷ record { gets = referenced "clocks" (1 ∷ 5 ∷ []); wants = 1 ∷ [] }
    ∷ record { gets = referenced "clocks" (1 ∷ 2 ∷ 2 ∷ []); wants = 1 ∷ 2 ∷ [] }
    ∷ record { gets = referenced "clocks" (9 ∷ 1 ∷ 5 ∷ []); wants = 1 ∷ [] }
    ∷ record { gets = referenced "power-domains" (1 ∷ []); wants = 1 ∷ [] }
    -- "T, excluding `/clk`: list is `/soc/uart@100`, `/pd`."
    ∷ record { gets = list_of edition1 host_t (request_t (closed (ascii "/clk"))); wants = paths_bytes (ascii "/soc/uart@100" ∷ ascii "/pd" ∷ []) }
    ∷ []

-- ---- tree T, whole

-- the guest, byte for byte
abbrev guest_t : Bytes
guest_t =
    -- magic
    208 ∷ 13 ∷ 254 ∷ 237 ∷
    -- total size
    0 ∷ 0 ∷ 0 ∷ 254 ∷
    -- structure
    0 ∷ 0 ∷ 0 ∷ 56 ∷
    -- strings
    0 ∷ 0 ∷ 0 ∷ 212 ∷
    -- reservations
    0 ∷ 0 ∷ 0 ∷ 40 ∷
    -- version
    0 ∷ 0 ∷ 0 ∷ 17 ∷
    -- last compatible version
    0 ∷ 0 ∷ 0 ∷ 16 ∷
    -- boot CPU
    0 ∷ 0 ∷ 0 ∷ 0 ∷
    -- size of strings
    0 ∷ 0 ∷ 0 ∷ 42 ∷
    -- size of structure
    0 ∷ 0 ∷ 0 ∷ 156 ∷
    -- no reservations
    0 ∷ 0 ∷ 0 ∷ 0 ∷ 0 ∷ 0 ∷ 0 ∷ 0 ∷ 0 ∷ 0 ∷ 0 ∷ 0 ∷ 0 ∷ 0 ∷ 0 ∷ 0 ∷
    -- BEGIN ""
    0 ∷ 0 ∷ 0 ∷ 1 ∷ 0 ∷ 0 ∷ 0 ∷ 0 ∷
    -- BEGIN "clk"
    0 ∷ 0 ∷ 0 ∷ 1 ∷ 99 ∷ 108 ∷ 107 ∷ 0 ∷
    -- PROP phandle = <1>
    0 ∷ 0 ∷ 0 ∷ 3 ∷ 0 ∷ 0 ∷ 0 ∷ 4 ∷ 0 ∷ 0 ∷ 0 ∷ 0 ∷ 0 ∷ 0 ∷ 0 ∷ 1 ∷
    -- PROP #clock-cells = <1>
    0 ∷ 0 ∷ 0 ∷ 3 ∷ 0 ∷ 0 ∷ 0 ∷ 4 ∷ 0 ∷ 0 ∷ 0 ∷ 8 ∷ 0 ∷ 0 ∷ 0 ∷ 1 ∷
    -- END_NODE
    0 ∷ 0 ∷ 0 ∷ 2 ∷
    -- BEGIN "pd"
    0 ∷ 0 ∷ 0 ∷ 1 ∷ 112 ∷ 100 ∷ 0 ∷ 0 ∷
    -- PROP phandle = <2>
    0 ∷ 0 ∷ 0 ∷ 3 ∷ 0 ∷ 0 ∷ 0 ∷ 4 ∷ 0 ∷ 0 ∷ 0 ∷ 0 ∷ 0 ∷ 0 ∷ 0 ∷ 2 ∷
    -- END_NODE
    0 ∷ 0 ∷ 0 ∷ 2 ∷
    -- BEGIN "soc"
    0 ∷ 0 ∷ 0 ∷ 1 ∷ 115 ∷ 111 ∷ 99 ∷ 0 ∷
    -- BEGIN "uart@100"
    0 ∷ 0 ∷ 0 ∷ 1 ∷ 117 ∷ 97 ∷ 114 ∷ 116 ∷ 64 ∷ 49 ∷ 48 ∷ 48 ∷ 0 ∷ 0 ∷ 0 ∷ 0 ∷
    -- PROP clocks = <1 5>
    0 ∷ 0 ∷ 0 ∷ 3 ∷ 0 ∷ 0 ∷ 0 ∷ 8 ∷ 0 ∷ 0 ∷ 0 ∷ 21 ∷ 0 ∷ 0 ∷ 0 ∷ 1 ∷ 0 ∷ 0 ∷ 0 ∷ 5 ∷
    -- PROP power-domains = <2>
    0 ∷ 0 ∷ 0 ∷ 3 ∷ 0 ∷ 0 ∷ 0 ∷ 4 ∷ 0 ∷ 0 ∷ 0 ∷ 28 ∷ 0 ∷ 0 ∷ 0 ∷ 2 ∷
    -- END_NODE
    0 ∷ 0 ∷ 0 ∷ 2 ∷
    -- END_NODE
    0 ∷ 0 ∷ 0 ∷ 2 ∷
    -- END_NODE
    0 ∷ 0 ∷ 0 ∷ 2 ∷
    -- END
    0 ∷ 0 ∷ 0 ∷ 9 ∷
    -- phandle
    112 ∷ 104 ∷ 97 ∷ 110 ∷ 100 ∷ 108 ∷ 101 ∷ 0 ∷
    -- #clock-cells
    35 ∷ 99 ∷ 108 ∷ 111 ∷ 99 ∷ 107 ∷ 45 ∷ 99 ∷ 101 ∷ 108 ∷ 108 ∷ 115 ∷ 0 ∷
    -- clocks
    99 ∷ 108 ∷ 111 ∷ 99 ∷ 107 ∷ 115 ∷ 0 ∷
    -- power-domains
    112 ∷ 111 ∷ 119 ∷ 101 ∷ 114 ∷ 45 ∷ 100 ∷ 111 ∷ 109 ∷ 97 ∷ 105 ∷ 110 ∷ 115 ∷ 0 ∷
    []

-- the five lines
abbrev text_t : Bytes
text_t =
    line "paths 3" ++ (line "/soc/uart@100" ++ (line "/clk" ++ (line "/pd" ++ line "guest 254")))

abbrev guest_bytes_of : Option Bytes → Bytes
guest_bytes_of none = []
guest_bytes_of (some b) = b

abbrev pub answers_t : List Case
answers_t =
    record { gets = (program edition1 host_t (line "c /soc/uart@100")).text; wants = text_t }
    ∷ record { gets = guest_bytes_of (program edition1 host_t (line "c /soc/uart@100")).guest; wants = guest_t }
    ∷ []

-- ---- the rule table

-- a name: is it a reference property, and which cells property does it use, if any
abbrev name_says : Bool → Option String → List ℕ
name_says refers none = bit refers
name_says refers (some c) = bit refers ++ ascii c

abbrev named : String → Bool → Option String → Case
named n refers c = record { gets = name_says (is_reference (ascii n)) (cells_in cell_rows (ascii n)); wants = name_says refers c }

abbrev pub name_cases : List Case
name_cases =
    -- the 23 names, and the cells property that a row gives them
    named "clocks" true (some "#clock-cells")
    ∷ named "power-domains" true (some "#power-domain-cells")
    ∷ named "phys" true (some "#phy-cells")
    ∷ named "resets" true (some "#reset-cells")
    ∷ named "dmas" true (some "#dma-cells")
    ∷ named "thermal-sensors" true (some "#thermal-sensor-cells")
    ∷ named "mboxes" true (some "#mbox-cells")
    ∷ named "assigned-clocks" true (some "#clock-cells")
    ∷ named "interrupt-parent" true none
    ∷ named "phy-handle" true none
    ∷ named "msi-parent" true none
    ∷ named "memory-region" true none
    ∷ named "syscon" true none
    ∷ named "regmap" true none
    ∷ named "iommus" true none
    ∷ named "interconnects" true none
    ∷ named "nvmem-cells" true none
    ∷ named "sound-dai" true (some "#sound-dai-cells")
    ∷ named "pinctrl-0" true none
    ∷ named "pinctrl-1" true none
    ∷ named "pinctrl-2" true none
    ∷ named "pinctrl-3" true none
    ∷ named "pinctrl-4" true none
    -- the endings and the part
    ∷ named "vcc-supply" true none
    ∷ named "-supply" true none
    ∷ named "gpios" true (some "#gpio-cells")
    ∷ named "reset-gpios" true (some "#gpio-cells")
    ∷ named "reset-gpio" true (some "#gpio-cells")
    ∷ named "-gpio" true (some "#gpio-cells")
    ∷ named "cells" true none
    ∷ named "mac-cells-x" true none
    -- rows of names that are never scanned
    ∷ named "interrupts" false (some "#interrupt-cells")
    ∷ named "interrupts-extended" false (some "#interrupt-cells")
    ∷ named "pwms" false (some "#pwm-cells")
    -- near misses
    ∷ named "" false none
    ∷ named "clock" false none
    ∷ named "clocks2" false none
    ∷ named "Clocks" false none
    ∷ named "pinctrl-5" false none
    ∷ named "pinctrl-00" false none
    ∷ named "supply" false none
    ∷ named "vcc-supplyx" false none
    ∷ named "gpio" false none
    ∷ named "xgpios" false none
    ∷ named "reset-gpios2" false none
    ∷ named "#clock-cells" false none
    ∷ named "#cells" false none
    ∷ named "cell" false none
    ∷ named "interrupt-map" false none
    ∷ named "reg" false none
    ∷ []
