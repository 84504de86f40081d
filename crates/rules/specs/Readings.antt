-- How 01 is read where it leaves room, and both sides of its limits: cases of each section in one table. The readings are told in
-- docs/DECISIONS.md; that each case holds is proved in proofs/Readings.antt, by computation.
use Rattle.std.specs.Prelude.{true, false, List, [], ◌∷◌, ◌++◌, map, ℕ, zero, suc, ◌+◌, ◌-◌, length, replicate, if◌then◌else◌}
use Prim.Native.String.{String}
use Rattle.rules.specs.Octets.{Bytes, be32, be64, words32, zeros, put, ascii, closed}
use Rattle.rules.specs.Outcome.{Outcome, gives, refuses, Verdict}
use Rattle.rules.specs.Reservations.{Entry, overlapping}
use Rattle.rules.specs.Writer.{State, begin_bytes, end_bytes, property_bytes, header_bytes, name_offset, start, begin_node, finish}
use Rattle.rules.specs.Written.{Call, begin, end, bytes, null, string, string_list, phandle_call, written, has_said, blob_of}
use Rattle.rules.specs.Events.{Property, Event, has, closes, Step, stop, done, go, opening}
use Rattle.rules.specs.Tree.{Node, Tree, nodes_of}
use Rattle.rules.specs.Tree
use Rattle.rules.specs.Reader.{read, tree_read, rows_of}
use Rattle.rules.specs.References.{edition1}
use Rattle.rules.specs.Derivation.{Request, Derived, request_judged, derive, list_of, guest_of, room_judged}
use Rattle.rules.specs.Device.{Found, find, find_list, find_work}
use Rattle.rules.specs.Listing.{paths_bytes}
use Rattle.rules.specs.Program.{program}
use Rattle.rules.specs.Copy.{Asked}
use Rattle.rules.specs.Withheld.{hidden, withheld}
use Rattle.rules.specs.Grammar.{Forest, empty, node as branch}
use Rattle.rules.specs.Lists.{keep}
use Rattle.rules.specs.Demands.{Plain, strings_after}
use Rattle.rules.specs.Exactly.{unexamined, preorder, names_used, first_uses}
use Rattle.rules.specs.Bench.{Case, bit, number_of, node, cells, line, host_t}

abbrev says : List ℕ → List ℕ → Case
says gets wants = record { gets = gets; wants = wants }

-- ---- the writer: the number that a run of calls is refused with, or 0

abbrev runs : (lent strings : ℕ) → (phandles : List ℕ) → List Call → List ℕ
runs lent strings phandles cs = number_of (written [] (zeros lent) (zeros strings) phandles cs)

-- n nodes in each other, the root included
unfoldable pub nest : ℕ → List Call
nest zero = []
nest (suc n) = begin [] ∷ nest n

abbrev plain_state : State
plain_state =
    record { data_length = 56; structure = 56; strings_length = 0; phandle_count = 0; depth = 0; ended = false; finished = false; boot_cpu = 0 }

abbrev entry : ℕ → ℕ → Entry
entry address size = record { address = address; size = size }

unfoldable pub writer_cases : List Case
writer_cases =
    -- closed before opened, unclosed at the end, a property outside, a property after a child
    says (runs 256 16 [] (end 1 ∷ [])) (25 ∷ [])
    ∷ says (runs 256 16 [] (begin [] ∷ [])) (26 ∷ [])
    ∷ says (runs 256 16 [] (bytes (ascii "a") [] ∷ [])) (20 ∷ [])
    ∷ says (runs 256 16 [] (begin [] ∷ begin (ascii "a") ∷ end 2 ∷ bytes (ascii "a") [] ∷ [])) (21 ∷ [])
    ∷ says (runs 256 16 [] (begin [] ∷ end 1 ∷ bytes (ascii "a") [] ∷ [])) (21 ∷ [])
    -- the depth that closing takes
    ∷ says (runs 256 16 [] (begin [] ∷ end 0 ∷ [])) (25 ∷ [])
    ∷ says (runs 256 16 [] (begin [] ∷ end 2 ∷ [])) (25 ∷ [])
    -- NUL before the name's rule; in the value before all else; a string list's last string unclosed
    ∷ says (runs 256 16 [] (begin (0 ∷ ascii "@") ∷ [])) (24 ∷ [])
    ∷ says (runs 256 16 [] (begin (ascii "@") ∷ [])) (29 ∷ [])
    ∷ says (runs 256 16 [] (begin [] ∷ bytes (0 ∷ ascii "!") [] ∷ [])) (24 ∷ [])
    ∷ says (runs 256 16 [] (begin [] ∷ bytes (ascii "!") [] ∷ [])) (30 ∷ [])
    ∷ says (runs 256 16 [] (string (ascii "a") (0 ∷ []) ∷ [])) (24 ∷ [])
    ∷ says (runs 256 16 [] (string (ascii "a") (1 ∷ []) ∷ [])) (20 ∷ [])
    ∷ says (runs 256 16 [] (string_list (ascii "a") (0 ∷ 1 ∷ []) ∷ [])) (24 ∷ [])
    ∷ says (runs 256 16 [] (string_list (ascii "a") (1 ∷ 0 ∷ []) ∷ [])) (20 ∷ [])
    -- a duplicate phandle before all else; a failed one leaves its number free
    ∷ says (runs 256 16 (0 ∷ 0 ∷ []) (begin [] ∷ phandle_call 7 ∷ phandle_call 7 ∷ [])) (32 ∷ [])
    ∷ says (runs 256 16 (0 ∷ []) (begin [] ∷ phandle_call 7 ∷ phandle_call 8 ∷ [])) (33 ∷ [])
    -- 64 open nodes and a 65th; an empty name at any depth
    ∷ says (runs 1024 16 [] (nest 64)) (26 ∷ [])
    ∷ says (runs 1024 16 [] (nest 65)) (31 ∷ [])
    -- room: 8 bytes for a root's BEGIN, 16 for a property with one byte and 2 for its name, 4 for END_NODE, 4 for END
    ∷ says (runs 63 16 [] (begin [] ∷ [])) (33 ∷ [])
    ∷ says (runs 64 16 [] (begin [] ∷ [])) (26 ∷ [])
    ∷ says (runs 90 2 [] (begin [] ∷ bytes (ascii "a") (7 ∷ []) ∷ end 1 ∷ [])) (0 ∷ [])
    ∷ says (runs 89 2 [] (begin [] ∷ bytes (ascii "a") (7 ∷ []) ∷ end 1 ∷ [])) (33 ∷ [])
    ∷ says (runs 90 1 [] (begin [] ∷ bytes (ascii "a") (7 ∷ []) ∷ end 1 ∷ [])) (33 ∷ [])
    -- a name that is there already needs no room
    ∷ says (runs 256 2 [] (begin [] ∷ null (ascii "a") ∷ null (ascii "a") ∷ end 1 ∷ [])) (0 ∷ [])
    -- a string is another's ending, and is not found in it; an unclosed last piece is no string
    ∷ says (name_offset (ascii "phandle") (closed (ascii "linux,phandle")) ∷ []) (14 ∷ [])
    ∷ says (name_offset (ascii "b") (closed (ascii "a") ++ closed (ascii "b")) ∷ []) (2 ∷ [])
    ∷ says (name_offset (ascii "b") (closed (ascii "a") ++ ascii "b") ∷ []) (3 ∷ [])
    -- states that can't be so
    ∷ says (number_of (begin_node (record { data_length = 52; structure = 52; strings_length = 0; phandle_count = 0; depth = 0; ended = false; finished = false; boot_cpu = 0 }) 64 []).verdict) (34 ∷ [])
    ∷ says (number_of (begin_node (record { data_length = 58; structure = 56; strings_length = 0; phandle_count = 0; depth = 0; ended = false; finished = false; boot_cpu = 0 }) 80 []).verdict) (34 ∷ [])
    ∷ says (number_of (begin_node (record { data_length = 56; structure = 60; strings_length = 0; phandle_count = 0; depth = 0; ended = false; finished = false; boot_cpu = 0 }) 80 []).verdict) (34 ∷ [])
    ∷ says (number_of (begin_node (record { data_length = 56; structure = 56; strings_length = 0; phandle_count = 0; depth = 65; ended = false; finished = false; boot_cpu = 0 }) 80 []).verdict) (34 ∷ [])
    ∷ says (number_of (begin_node (record { data_length = 56; structure = 56; strings_length = 0; phandle_count = 0; depth = 64; ended = false; finished = false; boot_cpu = 0 }) 80 []).verdict) (31 ∷ [])
    ∷ says (number_of (begin_node (record { data_length = 56; structure = 56; strings_length = 0; phandle_count = 0; depth = 0; ended = false; finished = true; boot_cpu = 0 }) 80 []).verdict) (34 ∷ [])
    ∷ says (number_of (begin_node plain_state 55 []).verdict) (34 ∷ [])
    ∷ says (number_of (finish plain_state 60 0).verdict) (0 ∷ [])
    ∷ says (number_of (finish plain_state 59 0).verdict) (33 ∷ [])
    -- 33 reservations before an invalid one; the later of two that touch may come first; equal addresses overlap
    ∷ says (number_of (start 1024 (replicate 33 (entry 0 0)) 33).verdict) (33 ∷ [])
    ∷ says (number_of (start 1024 (replicate 32 (entry 0 0)) 32).verdict) (27 ∷ [])
    ∷ says (bit (overlapping (entry 4096 1 ∷ entry 0 4096 ∷ []))) (0 ∷ [])
    ∷ says (bit (overlapping (entry 4096 1 ∷ entry 0 1 ∷ entry 4096 2 ∷ []))) (1 ∷ [])
    ∷ says (bit (overlapping (entry 0 10 ∷ entry 2 1 ∷ entry 20 1 ∷ []))) (1 ∷ [])
    ∷ []

-- ---- the reader: 0 and the node count, or the refusal's number and place

abbrev answered : Outcome ℕ → List ℕ
answered (gives n) = 0 ∷ n ∷ []
answered (refuses number place) = number ∷ place ∷ []

abbrev reads : Bytes → List ℕ
reads b = answered (read b 16384)

-- tree T's blob with other bytes at a place
abbrev damaged : ℕ → Bytes → List ℕ
damaged at bs = reads (put host_t at bs)

-- a blob of these tokens and this strings block; the structure stands at 56
abbrev made : Bytes → Bytes → Bytes
made structure strings =
    header_bytes (56 + length structure + length strings) 56 (56 + length structure) 0 (length strings) (length structure)
    ++ (zeros 16 ++ (structure ++ strings))

abbrev root : Bytes
root = begin_bytes []

abbrev child : String → Bytes
child name = begin_bytes (ascii name)

abbrev prop : (offset : ℕ) → List ℕ → Bytes
prop offset values = property_bytes offset (words32 values)

abbrev nop : Bytes
nop = be32 4

abbrev finis : Bytes
finis = be32 9

-- what the walk does with a BEGIN when so many nodes have been opened
abbrev counted : Step → List ℕ
counted (stop number) = number ∷ []
counted done = 0 ∷ []
counted (go w) = 1 ∷ []

abbrev ab : Bytes
ab = closed (ascii "p") ++ closed (ascii "#clock-cells")

unfoldable pub header_cases : List Case
header_cases =
    says (reads host_t) (0 ∷ 6 ∷ [])
    ∷ says (answered (read host_t 16383)) (40 ∷ 0 ∷ [])
    -- 1 to 5
    ∷ says (reads []) (1 ∷ 0 ∷ [])
    ∷ says (reads (zeros 39)) (1 ∷ 0 ∷ [])
    ∷ says (reads (zeros 40)) (2 ∷ 0 ∷ [])
    ∷ says (damaged 3 (236 ∷ [])) (2 ∷ 0 ∷ [])
    ∷ says (damaged 4 (be32 39)) (3 ∷ 0 ∷ [])
    ∷ says (damaged 4 (be32 287)) (3 ∷ 0 ∷ [])
    ∷ says (damaged 4 (be32 285)) (5 ∷ 0 ∷ [])
    ∷ says (reads (host_t ++ zeros 100)) (0 ∷ 6 ∷ [])
    ∷ says (damaged 20 (be32 16)) (4 ∷ 0 ∷ [])
    ∷ says (damaged 24 (be32 17)) (4 ∷ 0 ∷ [])
    ∷ says (damaged 16 (be32 32)) (5 ∷ 0 ∷ [])
    ∷ says (damaged 16 (be32 44)) (5 ∷ 0 ∷ [])
    ∷ says (damaged 16 (be32 48)) (5 ∷ 0 ∷ [])
    ∷ says (damaged 8 (be32 58)) (5 ∷ 0 ∷ [])
    ∷ says (damaged 36 (be32 186)) (5 ∷ 0 ∷ [])
    ∷ says (damaged 12 (be32 243)) (5 ∷ 0 ∷ [])
    ∷ says (damaged 40 (be64 1)) (5 ∷ 0 ∷ [])
    ∷ says (damaged 48 (be64 1)) (5 ∷ 0 ∷ [])
    ∷ says (damaged 32 (be32 0xffffffff)) (5 ∷ 0 ∷ [])
    ∷ says (damaged 36 (be32 0xfffffffc)) (5 ∷ 0 ∷ [])
    ∷ []

unfoldable pub shape_cases : List Case
shape_cases =
    -- 6: no token at all; no END; END too early, twice, or with something behind; a second root; no root; an unknown token
    says (reads (made [] [])) (6 ∷ 56 ∷ [])
    ∷ says (reads (made (root ++ (end_bytes ++ nop)) [])) (6 ∷ 72 ∷ [])
    ∷ says (reads (made (root ++ finis) [])) (6 ∷ 64 ∷ [])
    ∷ says (reads (made finis [])) (6 ∷ 56 ∷ [])
    ∷ says (reads (made (root ++ (end_bytes ++ (finis ++ finis))) [])) (6 ∷ 68 ∷ [])
    ∷ says (reads (made (root ++ (end_bytes ++ (finis ++ nop))) [])) (6 ∷ 68 ∷ [])
    ∷ says (reads (made (root ++ (end_bytes ++ (root ++ (end_bytes ++ finis)))) [])) (6 ∷ 68 ∷ [])
    ∷ says (reads (made (root ++ (end_bytes ++ (end_bytes ++ finis))) [])) (6 ∷ 68 ∷ [])
    ∷ says (reads (made (root ++ (be32 5 ++ (end_bytes ++ finis))) [])) (6 ∷ 64 ∷ [])
    -- NOPs wherever a token may stand
    ∷ says (reads (made (nop ++ (root ++ (nop ++ (prop 0 [] ++ (nop ++ (child "a" ++ (end_bytes ++ (nop ++ (end_bytes ++ (nop ++ finis)))))))))) ab)) (0 ∷ 2 ∷ [])
    -- PROP before the root, after it, after a child; cut; with a length near 2^32
    ∷ says (reads (made (prop 0 [] ++ (root ++ (end_bytes ++ finis))) ab)) (6 ∷ 56 ∷ [])
    ∷ says (reads (made (root ++ (end_bytes ++ (prop 99 [] ++ finis))) ab)) (6 ∷ 68 ∷ [])
    ∷ says (reads (made (root ++ (child "a" ++ (end_bytes ++ (prop 0 [] ++ (end_bytes ++ finis))))) ab)) (6 ∷ 76 ∷ [])
    ∷ says (reads (made (root ++ (be32 3 ++ (be32 5 ++ (be32 0 ++ be32 0)))) ab)) (6 ∷ 64 ∷ [])
    ∷ says (reads (made (root ++ (be32 3 ++ (be32 0xfffffffd ++ (be32 99 ++ (end_bytes ++ finis))))) ab)) (6 ∷ 64 ∷ [])
    ∷ says (reads (made (root ++ be32 3) ab)) (6 ∷ 64 ∷ [])
    -- a node name without NUL is 6, and a second root with one is 6 too
    ∷ says (reads (made (root ++ (be32 1 ++ ascii "abcd")) ab)) (6 ∷ 64 ∷ [])
    ∷ []

unfoldable pub name_cases : List Case
name_cases =
    -- 7: a root with a name, a child with none or a bad one, a property whose name is outside, empty, unclosed or bad
    says (reads (made (child "a" ++ (end_bytes ++ finis)) ab)) (7 ∷ 56 ∷ [])
    ∷ says (reads (made (root ++ (root ++ (end_bytes ++ (end_bytes ++ finis)))) ab)) (7 ∷ 64 ∷ [])
    ∷ says (reads (made (root ++ (child "a/b" ++ (end_bytes ++ (end_bytes ++ finis)))) ab)) (7 ∷ 64 ∷ [])
    ∷ says (reads (made (root ++ (begin_bytes (replicate 31 97) ++ (end_bytes ++ (end_bytes ++ finis)))) ab)) (0 ∷ 2 ∷ [])
    ∷ says (reads (made (root ++ (begin_bytes (replicate 32 97) ++ (end_bytes ++ (end_bytes ++ finis)))) ab)) (7 ∷ 64 ∷ [])
    ∷ says (reads (made (root ++ (prop (length ab) [] ++ (end_bytes ++ finis))) ab)) (7 ∷ 64 ∷ [])
    ∷ says (reads (made (root ++ (prop (length ab - 1) [] ++ (end_bytes ++ finis))) ab)) (7 ∷ 64 ∷ [])
    ∷ says (reads (made (root ++ (prop (length ab - 2) [] ++ (end_bytes ++ finis))) ab)) (0 ∷ 1 ∷ [])
    ∷ says (reads (made (root ++ (prop 0 [] ++ (end_bytes ++ finis))) (ascii "p"))) (7 ∷ 64 ∷ [])
    ∷ says (reads (made (root ++ (prop 0 [] ++ (end_bytes ++ finis))) (closed (replicate 31 97)))) (0 ∷ 1 ∷ [])
    ∷ says (reads (made (root ++ (prop 0 [] ++ (end_bytes ++ finis))) (closed (replicate 32 97)))) (7 ∷ 64 ∷ [])
    ∷ []

unfoldable pub limit_cases : List Case
limit_cases =
    -- 8: a 64th open node, and a 65th; 9: a 2,048th node, and one more; 7 before 8 before 9
    says (counted (opening (record { stack = replicate 63 0; count = 63; ended = false }) (ascii "a"))) (1 ∷ [])
    ∷ says (counted (opening (record { stack = replicate 64 0; count = 64; ended = false }) (ascii "a"))) (8 ∷ [])
    ∷ says (counted (opening (record { stack = 0 ∷ []; count = 2047; ended = false }) (ascii "a"))) (1 ∷ [])
    ∷ says (counted (opening (record { stack = 0 ∷ []; count = 2048; ended = false }) (ascii "a"))) (9 ∷ [])
    ∷ says (counted (opening (record { stack = replicate 64 0; count = 2048; ended = false }) (ascii "a"))) (8 ∷ [])
    ∷ says (counted (opening (record { stack = replicate 64 0; count = 2048; ended = false }) [])) (7 ∷ [])
    ∷ []

unfoldable pub double_cases : List Case
double_cases =
    -- 10: siblings; properties of a node; whole names; the earliest token of either kind
    says (reads (blob_of [] 0 (node "" ∷ node "a" ∷ closes 0 ∷ node "a" ∷ closes 0 ∷ closes 0 ∷ []))) (10 ∷ 76 ∷ [])
    ∷ says (reads (blob_of [] 0 (node "" ∷ node "a" ∷ closes 0 ∷ node "a@" ∷ closes 0 ∷ closes 0 ∷ []))) (0 ∷ 3 ∷ [])
    ∷ says (reads (blob_of [] 0 (node "" ∷ node "a" ∷ node "a" ∷ closes 0 ∷ closes 0 ∷ closes 0 ∷ []))) (0 ∷ 3 ∷ [])
    ∷ says (reads (blob_of [] 0 (node "" ∷ cells "p" [] ∷ cells "q" [] ∷ cells "p" [] ∷ closes 0 ∷ []))) (10 ∷ 88 ∷ [])
    ∷ says (reads (blob_of [] 0 (node "" ∷ node "a" ∷ closes 0 ∷ node "b" ∷ cells "p" [] ∷ cells "p" [] ∷ closes 0 ∷ node "a" ∷ closes 0 ∷ closes 0 ∷ []))) (10 ∷ 96 ∷ [])
    ∷ []

unfoldable pub word_cases : List Case
word_cases =
    -- 11: lengths in every node, and a disagreement at the later token; other cells names are free
    says (reads (blob_of [] 0 (node "" ∷ cells "#clock-cells" [] ∷ closes 0 ∷ []))) (11 ∷ 64 ∷ [])
    ∷ says (reads (blob_of [] 0 (node "" ∷ cells "#foo-cells" [] ∷ closes 0 ∷ []))) (0 ∷ 1 ∷ [])
    ∷ says (reads (blob_of [] 0 (node "" ∷ cells "phandle" (1 ∷ []) ∷ cells "linux,phandle" (2 ∷ []) ∷ closes 0 ∷ []))) (11 ∷ 80 ∷ [])
    ∷ says (reads (blob_of [] 0 (node "" ∷ cells "phandle" (1 ∷ []) ∷ cells "linux,phandle" (1 ∷ []) ∷ closes 0 ∷ []))) (0 ∷ 1 ∷ [])
    ∷ says (reads (blob_of [] 0 (node "" ∷ cells "phandle" (1 ∷ 2 ∷ []) ∷ closes 0 ∷ []))) (11 ∷ 64 ∷ [])
    -- 12: at the later node's first phandle token; 10 before 11 before 12
    ∷ says (reads (blob_of [] 0 (node "" ∷ cells "phandle" (0 ∷ []) ∷ node "a" ∷ cells "linux,phandle" (0 ∷ []) ∷ cells "phandle" (0 ∷ []) ∷ closes 0 ∷ closes 0 ∷ []))) (12 ∷ 88 ∷ [])
    ∷ says (reads (blob_of [] 0 (node "" ∷ cells "phandle" (1 ∷ []) ∷ node "a" ∷ cells "phandle" (1 ∷ []) ∷ closes 0 ∷ node "a" ∷ cells "phandle" [] ∷ closes 0 ∷ closes 0 ∷ []))) (10 ∷ 108 ∷ [])
    ∷ says (reads (blob_of [] 0 (node "" ∷ cells "phandle" (1 ∷ []) ∷ node "a" ∷ cells "phandle" (1 ∷ []) ∷ closes 0 ∷ node "b" ∷ cells "phandle" [] ∷ closes 0 ∷ closes 0 ∷ []))) (11 ∷ 116 ∷ [])
    -- the node table of tree T
    ∷ says (rows_of (tree_read host_t))
    (56 ∷ 0 ∷ 0 ∷ 0 ∷ 64 ∷ 0 ∷ 1 ∷ 1 ∷ 108 ∷ 0 ∷ 1 ∷ 2 ∷ 136 ∷ 0 ∷ 0 ∷ 0 ∷ 144 ∷ 3 ∷ 0 ∷ 0 ∷ 200 ∷ 3 ∷ 1 ∷ 3 ∷ [])
    ∷ []

-- ---- the derivation: 0, the count of paths and the lengths of list and guest, or the refusal's number and place

abbrev derived : Outcome Derived → List ℕ
derived (gives d) = 0 ∷ d.paths ∷ d.list_length ∷ d.guest_length ∷ []
derived (refuses number place) = number ∷ place ∷ []

abbrev paths : List String → Bytes
paths ss = paths_bytes (map ascii ss)

abbrev asks : List String → List String → List ℕ → Request
asks conf excl ids = record { configured = paths conf; excluded = paths excl; ids = ids }

abbrev derives : Bytes → Request → List ℕ
derives host q = derived (derive edition1 host q 16384 65536 65536)

-- 41 to 44 alone: 0, or the refusal's number and place
abbrev judged : Verdict → List ℕ
judged (gives u) = 0 ∷ []
judged (refuses number place) = number ∷ place ∷ []

abbrev granted : Bytes → Request → List ℕ
granted host q = judged (request_judged (tree_read host) q)

-- tree T with a configured list of raw bytes
abbrev lists : Bytes → List ℕ
lists configured = granted host_t (record { configured = configured; excluded = []; ids = [] })

unfoldable pub cpu_events : List Event
cpu_events =
    node ""
    ∷ node "cpus"
    ∷ node "cpu@0" ∷ cells "reg" (0 ∷ []) ∷ node "l2" ∷ closes 0 ∷ closes 0
    ∷ node "cpu@1" ∷ cells "reg" (0 ∷ 1 ∷ []) ∷ closes 0
    ∷ node "cpu-map" ∷ closes 0
    ∷ closes 0
    ∷ node "cpusets" ∷ closes 0
    ∷ closes 0
    ∷ []

abbrev cpu_host : Bytes
cpu_host = blob_of [] 0 cpu_events

-- the names of the guest's nodes, each closed by NUL
abbrev guest_names : Bytes → Request → Bytes
guest_names host q = paths_bytes (map (λ (n : Node). n.name) (tree_read (guest_of edition1 host q)))

unfoldable pub request_cases : List Case
request_cases =
    -- 40; both rooms, the list's first
    says (derived (derive edition1 host_t (asks ("/soc/uart@100" ∷ []) [] []) 16383 23 254)) (40 ∷ 0 ∷ [])
    ∷ says (derived (derive edition1 host_t (asks ("/soc/uart@100" ∷ []) [] []) 16384 23 254)) (0 ∷ 3 ∷ 23 ∷ 254 ∷ [])
    ∷ says (derived (derive edition1 host_t (asks ("/soc/uart@100" ∷ []) [] []) 16384 22 253)) (45 ∷ 23 ∷ [])
    ∷ says (derived (derive edition1 host_t (asks ("/soc/uart@100" ∷ []) [] []) 16384 23 253)) (46 ∷ 254 ∷ [])
    -- guest room past the ceiling does not count
    ∷ says (judged (room_judged 0 1048576 0 2000000)) (0 ∷ [])
    ∷ says (judged (room_judged 0 1048577 0 2000000)) (46 ∷ 1048577 ∷ [])
    -- nothing asked: the root alone
    ∷ says (derives host_t (asks [] [] [])) (0 ∷ 0 ∷ 0 ∷ 72 ∷ [])
    -- 41: an empty path, no NUL, no slash, too long, a 65th; all of it before 42
    ∷ says (lists (0 ∷ [])) (41 ∷ 0 ∷ [])
    ∷ says (lists (ascii "/clk")) (41 ∷ 0 ∷ [])
    ∷ says (lists (paths ("/clk" ∷ []) ++ ascii "/pd")) (41 ∷ 5 ∷ [])
    ∷ says (lists (paths ("/no" ∷ "clk" ∷ []))) (41 ∷ 4 ∷ [])
    ∷ says (lists (closed (47 ∷ replicate 1024 97))) (41 ∷ 0 ∷ [])
    ∷ says (lists (closed (47 ∷ replicate 1023 97))) (42 ∷ 0 ∷ [])
    ∷ says (lists (paths_bytes (replicate 65 (ascii "/")))) (41 ∷ 128 ∷ [])
    ∷ says (lists (paths_bytes (replicate 64 (ascii "/")))) (42 ∷ 2 ∷ [])
    ∷ says (lists (paths_bytes (replicate 64 (ascii "/")) ++ ascii "x")) (41 ∷ 128 ∷ [])
    ∷ says (lists (paths_bytes (ascii "x" ∷ replicate 64 (ascii "/")))) (41 ∷ 0 ∷ [])
    ∷ says (granted host_t (asks ("/no" ∷ []) ("/clk" ∷ "x" ∷ []) [])) (41 ∷ 5 ∷ [])
    ∷ says (granted host_t (asks ("/no" ∷ []) [] (replicate 65 0))) (41 ∷ 64 ∷ [])
    ∷ says (granted host_t (asks ("/no" ∷ []) [] (replicate 64 0))) (42 ∷ 0 ∷ [])
    -- 42: no such node, a shortened path, a slash too many, a repeat at the later
    ∷ says (granted host_t (asks ("/clk" ∷ "/soc/uart" ∷ []) [] [])) (42 ∷ 5 ∷ [])
    ∷ says (granted host_t (asks ("/soc/" ∷ []) [] [])) (42 ∷ 0 ∷ [])
    ∷ says (granted host_t (asks ("/clk" ∷ "/pd" ∷ "/clk" ∷ []) [] [])) (42 ∷ 9 ∷ [])
    -- an exclusion that names no node has no effect
    ∷ says (derives host_t (asks ("/soc/uart@100" ∷ []) ("/no" ∷ []) [])) (0 ∷ 3 ∷ 23 ∷ 254 ∷ [])
    -- 43 at the BEGIN, whether an id meets it or not, and only where ids are given; 44 at the id's index
    ∷ says (granted cpu_host (asks [] [] (1 ∷ 2 ∷ []))) (44 ∷ 1 ∷ [])
    ∷ says (granted host_t (asks [] [] (0 ∷ []))) (44 ∷ 0 ∷ [])
    ∷ says (granted (blob_of [] 0 (node "" ∷ node "cpus" ∷ node "cpu@0" ∷ closes 0 ∷ node "cpu" ∷ cells "reg" (1 ∷ []) ∷ closes 0 ∷ closes 0 ∷ closes 0 ∷ [])) (asks [] [] (1 ∷ []))) (43 ∷ 76 ∷ [])
    ∷ says (granted (blob_of [] 0 (node "" ∷ node "cpus" ∷ node "cpu@0" ∷ closes 0 ∷ closes 0 ∷ closes 0 ∷ [])) (asks [] [] [])) (0 ∷ [])
    ∷ says (granted (blob_of [] 0 (node "" ∷ node "cpus" ∷ node "cpu@0" ∷ cells "reg" (0 ∷ 0 ∷ 0 ∷ []) ∷ closes 0 ∷ closes 0 ∷ closes 0 ∷ [])) (asks [] [] (9 ∷ []))) (43 ∷ 76 ∷ [])
    ∷ []

-- ---- the list asked for alone: 0, the count of paths and the length of the list, or the refusal's number and place

abbrev found : Outcome Found → List ℕ
found (gives d) = 0 ∷ d.paths ∷ d.list_length ∷ []
found (refuses number place) = number ∷ place ∷ []

abbrev finds : (conf excl : List String) → (words listRoom : ℕ) → List ℕ
finds conf excl words listRoom = found (find edition1 host_t (paths conf) (paths excl) words listRoom)

-- what is left of a list's buffer of so many sevens
abbrev leaves : (conf : List String) → (listRoom : ℕ) → Bytes
leaves conf listRoom = find_list edition1 host_t (paths conf) [] 16384 (replicate listRoom 7)

unfoldable pub find_cases : List Case
find_cases =
    -- tree T, and excluding `/clk`; 45
    says (finds ("/soc/uart@100" ∷ []) [] 16384 23) (0 ∷ 3 ∷ 23 ∷ [])
    ∷ says (finds ("/soc/uart@100" ∷ []) ("/clk" ∷ []) 16384 18) (0 ∷ 2 ∷ 18 ∷ [])
    ∷ says (finds ("/soc/uart@100" ∷ []) [] 16384 22) (45 ∷ 23 ∷ [])
    -- 40 before 1 before 41 before 42 before 45, and in 41 configured before excluded
    ∷ says (found (find edition1 [] (0 ∷ []) [] 16383 0)) (40 ∷ 0 ∷ [])
    ∷ says (found (find edition1 [] (0 ∷ []) [] 16384 0)) (1 ∷ 0 ∷ [])
    ∷ says (finds ("/clk" ∷ "x" ∷ []) ("x" ∷ []) 16384 0) (41 ∷ 5 ∷ [])
    ∷ says (finds ("/no" ∷ []) ("/soc" ∷ "x" ∷ []) 16384 0) (41 ∷ 5 ∷ [])
    ∷ says (finds ("/clk" ∷ "/no" ∷ []) [] 16384 0) (42 ∷ 5 ∷ [])
    ∷ says (finds ("/clk" ∷ "/pd" ∷ []) [] 16384 8) (45 ∷ 9 ∷ [])
    -- nothing asked; a CPU child without `reg` is no fault
    ∷ says (finds [] [] 16384 0) (0 ∷ 0 ∷ 0 ∷ [])
    ∷ says (found (find edition1 (blob_of [] 0 (node "" ∷ node "cpus" ∷ node "cpu@0" ∷ closes 0 ∷ closes 0 ∷ closes 0 ∷ [])) (paths ("/cpus" ∷ [])) [] 16384 65536)) (0 ∷ 2 ∷ 18 ∷ [])
    -- the list in its buffer, and a buffer that is too short; 40 touches no word
    ∷ says (leaves ("/clk" ∷ "/pd" ∷ []) 11) (paths ("/clk" ∷ "/pd" ∷ []) ++ (7 ∷ 7 ∷ []))
    ∷ says (leaves ("/clk" ∷ "/pd" ∷ []) 8) (replicate 8 7)
    ∷ says (find_work (7 ∷ 0 ∷ 7 ∷ [])) (7 ∷ 0 ∷ 7 ∷ [])
    ∷ []

-- ---- the list and the copy

-- names around the slash
unfoldable pub slash_events : List Event
slash_events =
    node ""
    ∷ node "a0" ∷ closes 0
    ∷ node "a" ∷ node "b" ∷ closes 0 ∷ closes 0
    ∷ node "a.b" ∷ closes 0
    ∷ node "a-b" ∷ closes 0
    ∷ node "a,b" ∷ closes 0
    ∷ node "a+b" ∷ closes 0
    ∷ closes 0
    ∷ []

-- u1 refers to c1, u2 to c2, c2 to e and to itself, and e to the root
unfoldable pub chain_events : List Event
chain_events =
    node "" ∷ cells "phandle" (9 ∷ [])
    ∷ node "u1" ∷ cells "vcc-supply" (1 ∷ []) ∷ closes 0
    ∷ node "u2" ∷ cells "vcc-supply" (2 ∷ []) ∷ node "x" ∷ closes 0 ∷ closes 0
    ∷ node "c1" ∷ cells "phandle" (1 ∷ []) ∷ node "y" ∷ closes 0 ∷ closes 0
    ∷ node "c2" ∷ cells "phandle" (2 ∷ []) ∷ cells "vcc-supply" (3 ∷ 2 ∷ []) ∷ closes 0
    ∷ node "e" ∷ cells "phandle" (3 ∷ []) ∷ cells "vcc-supply" (9 ∷ []) ∷ closes 0
    ∷ closes 0
    ∷ []

abbrev slash_host : Bytes
slash_host = blob_of [] 0 slash_events

abbrev chain_host : Bytes
chain_host = blob_of [] 0 chain_events

unfoldable pub list_cases : List Case
list_cases =
    -- byte order of the whole path: + , - . before the slash, digits after it; the root is not listed
    says (list_of edition1 slash_host (asks ("/" ∷ []) [] [])) (paths ("/a" ∷ "/a+b" ∷ "/a,b" ∷ "/a-b" ∷ "/a.b" ∷ "/a/b" ∷ "/a0" ∷ []))
    -- all configured first, then what is below each
    ∷ says (list_of edition1 slash_host (asks ("/a0" ∷ "/a" ∷ []) [] [])) (paths ("/a0" ∷ "/a" ∷ "/a/b" ∷ []))
    -- the last start path is taken first, and a new target before the next start path; the root is walked and not listed
    ∷ says (list_of edition1 chain_host (asks ("/u1" ∷ "/u2" ∷ []) [] [])) (paths ("/u1" ∷ "/u2" ∷ "/u2/x" ∷ "/c2" ∷ "/e" ∷ "/c1" ∷ []))
    -- an excluded node is walked through; what is below an exclusion is left out
    ∷ says (list_of edition1 chain_host (asks ("/u2" ∷ []) ("/u2" ∷ []) [])) (paths ("/c2" ∷ "/e" ∷ []))
    ∷ says (list_of edition1 chain_host (asks ("/u2" ∷ []) ("/" ∷ []) [])) []
    -- `/a0` is not below `/a`, nor `/a-b`
    ∷ says (list_of edition1 slash_host (asks ("/" ∷ []) ("/a" ∷ []) [])) (paths ("/a+b" ∷ "/a,b" ∷ "/a-b" ∷ "/a.b" ∷ "/a0" ∷ []))
    -- a node below a dependency is copied and not listed; ancestors are copied; excluded nodes below a listed one are not
    ∷ says (list_of edition1 chain_host (asks ("/u1" ∷ []) [] [])) (paths ("/u1" ∷ "/c1" ∷ []))
    ∷ says (guest_names chain_host (asks ("/u1" ∷ []) [] [])) (paths ("" ∷ "u1" ∷ "c1" ∷ "y" ∷ []))
    ∷ says (guest_names chain_host (asks ("/u1" ∷ []) ("/c1/y" ∷ []) [])) (paths ("" ∷ "u1" ∷ "c1" ∷ []))
    ∷ says (guest_names slash_host (asks ("/a/b" ∷ []) [] [])) (paths ("" ∷ "a" ∷ "b" ∷ []))
    -- `/cpus` by the CPU rule only: without ids nothing, with ids all but the strangers, whatever is listed or excluded
    ∷ says (guest_names cpu_host (asks ("/cpus/cpu@0" ∷ "/cpusets" ∷ []) [] [])) (paths ("" ∷ "cpusets" ∷ []))
    ∷ says (guest_names cpu_host (asks [] ("/cpus" ∷ []) (1 ∷ []))) (paths ("" ∷ "cpus" ∷ "cpu@1" ∷ "cpu-map" ∷ []))
    ∷ says (guest_names cpu_host (asks [] ("/" ∷ []) (0 ∷ 0 ∷ []))) (paths ("" ∷ "cpus" ∷ "cpu@0" ∷ "l2" ∷ "cpu-map" ∷ []))
    ∷ []

-- ---- what is withheld: how many bytes

-- a property of one word, with a place to tell it by
abbrev told : ℕ → String → ℕ → Event
told place name value = has (record { place = place; name = ascii name; value = words32 (value ∷ []) })

unfoldable pub secret_tree : Tree
secret_tree =
    nodes_of
    (node "" ∷ told 1 "model" 1
    ∷ node "a" ∷ told 2 "phandle" 1 ∷ told 3 "serial" 7 ∷ closes 0
    ∷ node "b" ∷ told 4 "status" 1 ∷ told 5 "reg" 5 ∷ told 6 "vcc-supply" 1 ∷ closes 0
    ∷ node "cpus" ∷ node "cpu@0" ∷ told 7 "reg" 0 ∷ told 8 "key" 9 ∷ closes 0 ∷ closes 0
    ∷ closes 0
    ∷ [])

-- the places of the properties whose values are withheld; node 1 is a, node 2 is b
unfoldable pub hidden_among : Asked → (i : ℕ) → List Property → List ℕ
hidden_among q i [] = []
hidden_among q i (p ∷ ps) = if hidden edition1 q secret_tree i p.name then p.place ∷ hidden_among q i ps else hidden_among q i ps

unfoldable pub hidden_from : Asked → List ℕ → List ℕ
hidden_from q [] = []
hidden_from q (i ∷ is) = hidden_among q i (Tree.node secret_tree i).props ++ hidden_from q is

abbrev hidden_by : (conf excl ids : List ℕ) → List ℕ
hidden_by conf excl ids = hidden_from (record { conf = conf; excl = excl; ids = ids }) (0 ∷ 1 ∷ 2 ∷ 3 ∷ 4 ∷ [])

-- a root with one child with one property, whose value is the bytes 84 to 87
abbrev small_host : Bytes
small_host = blob_of [] 0 (node "" ∷ node "a" ∷ cells "key" (9 ∷ []) ∷ closes 0 ∷ closes 0 ∷ [])

abbrev is_hidden : ℕ → List ℕ
is_hidden x = bit (withheld edition1 small_host (asks [] [] []) x)

unfoldable pub secret_cases : List Case
secret_cases =
    -- b is not reached, so that its reference is withheld too; a CPU child's `reg` never is
    says (hidden_by (1 ∷ []) [] []) (4 ∷ 5 ∷ 6 ∷ 8 ∷ [])
    -- b excluded is still reached: its reference is read, and a is listed by it
    ∷ says (hidden_by (2 ∷ []) (2 ∷ []) []) (4 ∷ 5 ∷ 8 ∷ [])
    ∷ says (hidden_by (2 ∷ []) [] (0 ∷ [])) []
    -- value bytes, and neither what stands before them nor behind
    ∷ says (is_hidden 83 ++ (is_hidden 84 ++ (is_hidden 87 ++ is_hidden 88))) (0 ∷ 1 ∷ 1 ∷ 0 ∷ [])
    ∷ []

-- ---- what is not examined, the grammar's nodes, and the names of the strings block

-- the bench's blob of 90 bytes, and two bytes behind it
abbrev spare_host : Bytes
spare_host = blob_of [] 0 (node "" ∷ has_said (ascii "a") (7 ∷ []) ∷ closes 0 ∷ []) ++ zeros 2

abbrev named : String → (below beside : Forest) → Forest
named name below beside = branch (ascii name) [] below beside

abbrev parents : Forest → List ℕ
parents f = map (λ (x : ℕ × Plain). x.0) (preorder 0 0 f)

-- a name in two nodes, and another between
abbrev twice : List Event
twice = node "" ∷ has_said (ascii "a") (7 ∷ []) ∷ has_said (ascii "b") [] ∷ node "n" ∷ has_said (ascii "a") [] ∷ closes 0 ∷ closes 0 ∷ []

unfoldable pub exact_cases : List Case
exact_cases =
    -- padding behind the root's name and behind the value, and what is behind totalsize; 40 to 55 is the closing pair
    says (keep (unexamined spare_host) (Tree.numbers_from 0 92)) (61 ∷ 62 ∷ 63 ∷ 77 ∷ 78 ∷ 79 ∷ 90 ∷ 91 ∷ [])
    -- a root, with a node that has one below it, and a node beside that
    ∷ says (parents (named "" (named "a" (named "b" empty empty) (named "c" empty empty)) empty)) (0 ∷ 0 ∷ 1 ∷ 0 ∷ [])
    ∷ says (paths_bytes (first_uses [] (names_used twice))) (97 ∷ 0 ∷ 98 ∷ 0 ∷ [])
    ∷ says (strings_after twice) (97 ∷ 0 ∷ 98 ∷ 0 ∷ [])
    ∷ []

-- ---- the program's text

abbrev prints : Bytes → Bytes → Bytes
prints host input = (program edition1 host input).text

unfoldable pub program_cases : List Case
program_cases =
    -- a line fault is before all else, a list's fault behind the reader's refusals, at its offset in the list
    says (prints [] (ascii "c")) (line "refused 41 at 0")
    ∷ says (prints [] (line "c ")) (line "refused 1 at 0")
    ∷ says (prints host_t (line "c /soc" ++ line "c ")) (line "refused 41 at 5")
    -- empty lines, one fault or another, the first line that has one
    ∷ says (prints host_t (10 ∷ [])) (line "refused 41 at 0")
    ∷ says (prints host_t (line "c /clk" ++ (10 ∷ []))) (line "refused 41 at 7")
    ∷ says (prints host_t (line "c /clk" ++ (line "i 18446744073709551616" ++ ascii "z"))) (line "refused 41 at 7")
    ∷ says (prints host_t (line "c /clk" ++ (99 ∷ 32 ∷ 0 ∷ 10 ∷ []))) (line "refused 41 at 7")
    ∷ says (prints host_t (line "i ")) (line "refused 41 at 0")
    ∷ says (prints host_t (ascii "i 1" ++ (13 ∷ 10 ∷ []))) (line "refused 41 at 0")
    -- leading zeros; the largest id; the last line without its newline; nothing asked
    ∷ says (prints host_t (line "i 000000000000000000000000000000")) (line "refused 44 at 0")
    ∷ says (prints host_t (ascii "i 18446744073709551615")) (line "refused 44 at 0")
    ∷ says (prints host_t []) (line "paths 0" ++ line "guest 72")
    ∷ []
