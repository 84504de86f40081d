-- The three demands as statements about the definitions. What stands here is a claim and not a proof: docs/PROMISES.md says which
-- theorem proves each. Code meets them through its contracts, which are equations with these definitions.
use Rattle.std.specs.Prelude.{◌≡◌, ◌↔◌, Bool, true, false, List, [], ◌∷◌, map, ℕ, zero, suc, ◌^◌, ◌≤◌, ◌<◌, length, get_or, take, drop}
use Rattle.std.proofs.Math.Option.{some}
use Prim.Native.String.{String}
use Rattle.rules.specs.Ceilings.{blob_ceiling, work_words, reservation_ceiling}
use Rattle.rules.specs.Octets.{Bytes, AreBytes, zeros, ascii, same}
use Rattle.rules.specs.Outcome.{gives, refuses, passes}
use Rattle.rules.specs.Reservations.{Entry, any_invalid, overlapping}
use Rattle.rules.specs.Writer.{room}
use Rattle.rules.specs.Written.{write_events, blob_of, Call, boot_cpu, written, said, boot_said, spelled, unplaced}
use Rattle.rules.specs.Blob.{header_in, entries_in, header_judged}
use Rattle.rules.specs.Events.{Property, Event, events_judged}
use Rattle.rules.specs.Tree.{Node, node, path, frame, numbers, nodes_of, doubled_judged, words_judged, shared_judged, read_name}
use Rattle.rules.specs.Reader.{events_read, tree_read, blob_judged, read_work}
use Rattle.rules.specs.References.{Rules}
use Rattle.rules.specs.Listing.{◌∈◌, Reached, Listed}
use Rattle.rules.specs.Lists.{keep}
use Rattle.rules.specs.Copy.{cpu_child, copied, guest_events}
use Rattle.rules.specs.Derivation.{Request, Derived, asked, request_judged, lists_judged, configured_judged, listed_paths, guest_of, derive, derive_list, derive_guest, derive_work}
use Rattle.rules.specs.Withheld.{hidden, Agree}

-- ---- 1. Always an answer. That every entry point returns is what the checker shows of each function. Of a refusal:

-- "outputs keep their old bytes"
abbrev pub OutputsKept : Type 0
OutputsKept =
    (r : Rules) (host : Bytes) (q : Request) (words : ℕ) (list guest : Bytes) (number place : ℕ)
    → derive r host q words (length list) (length guest) ≡ refuses number place
    → (derive_list r host q words (length guest) list ≡ list) × (derive_guest r host q words (length list) guest ≡ guest)

-- "work space ends as 01 says": untouched by 40, else its first words are zero, and the rest is as it was
abbrev pub SpaceCleared : Type 0
SpaceCleared =
    (work : List ℕ)
    → (length work < work_words → derive_work work ≡ work)
    × (work_words ≤ length work → (take work_words (derive_work work) ≡ zeros work_words) × (drop work_words (derive_work work) ≡ drop work_words work))

-- after a refusal 40 or 1 to 12 the reader leaves the same
abbrev pub TableCleared : Type 0
TableCleared =
    (blob : Bytes) (work : List ℕ)
    → (length work < work_words → read_work blob work ≡ work)
    × ((number place : ℕ) → work_words ≤ length work → blob_judged blob ≡ refuses number place
    → (take work_words (read_work blob work) ≡ zeros work_words) × (drop work_words (read_work blob work) ≡ drop work_words work))

-- ---- 2. The right answer.

-- "the tree has one empty-named root and passes 6 to 12"
pub record Fits (es : List Event) : Type 0 where
  pub shape : events_judged es ≡ passes
  pub doubled : doubled_judged (nodes_of es) ≡ passes
  pub words : words_judged (nodes_of es) ≡ passes
  pub shared : shared_judged (nodes_of es) ≡ passes

-- a blob that passes 1 to 5 and has these reservations, this boot CPU and the tokens of these events, wherever they stand
pub record Carries (blob : Bytes) (rs : List Entry) (cpu : ℕ) (es : List Event) : Type 0 where
  pub header : header_judged blob ≡ passes
  pub reservations : entries_in blob ≡ some rs
  pub boot : (header_in blob).boot_cpu ≡ cpu
  pub events : unplaced (events_read blob) ≡ unplaced es

-- and that the reader accepts
pub record ReadsAs (blob : Bytes) (rs : List Entry) (cpu : ℕ) (es : List Event) : Type 0 where
  pub accepted : blob_judged blob ≡ passes
  pub carried : Carries blob rs cpu es

-- "Reading gives back what was written if the tree has one empty-named root and passes 6 to 12": whatever was written stands in the
-- blob, and the reader accepts it if the tree is so, and only then
abbrev pub WriteThenRead : Type 0
WriteThenRead =
    (rs : List Entry) (lent strings : Bytes) (phandles : List ℕ) (cs : List Call) (blob : Bytes)
    → written rs lent strings phandles cs ≡ gives blob → boot_said 0 cs < 2 ^ 32
    → Carries blob rs (boot_said 0 cs) (said cs) × ((blob_judged blob ≡ passes) ↔ Fits (said cs))

-- and to the byte: what was written, its events read and written again into buffers no shorter is the same blob
abbrev pub WriteReadWrite : Type 0
WriteReadWrite =
    (rs : List Entry) (lent strings : Bytes) (phandles : List ℕ) (cs : List Call) (blob : Bytes)
    → written rs lent strings phandles cs ≡ gives blob → boot_said 0 cs < 2 ^ 32
    → (lent' strings' : Bytes) (phandles' : List ℕ) → length lent ≤ length lent' → length strings ≤ length strings'
    → written rs lent' strings' phandles' (boot_cpu (header_in blob).boot_cpu ∷ spelled 0 (events_read blob)) ≡ gives blob

-- the strings block that events leave
abbrev pub strings_after : List Event → Bytes
strings_after es = (write_events (record { structure = []; strings = [] }) es).strings

-- "Writing what was read, given room and reservations that pass 27, 28 and 33, yields the same reservations, boot CPU, names,
-- properties, values and order": it yields the blob of the events read, byte for byte, and that reads as they do
abbrev pub ReadThenWrite : Type 0
ReadThenWrite =
    (blob : Bytes) (rs : List Entry) (lent strings : Bytes) (phandles : List ℕ)
    → AreBytes blob → blob_judged blob ≡ passes → entries_in blob ≡ some rs
    → any_invalid rs ≡ false → overlapping rs ≡ false → length rs ≤ reservation_ceiling
    → length (blob_of rs (header_in blob).boot_cpu (events_read blob)) ≤ room (length lent)
    → length (strings_after (events_read blob)) ≤ room (length strings)
    → (written rs lent strings phandles (boot_cpu (header_in blob).boot_cpu ∷ spelled 0 (events_read blob))
    ≡ gives (blob_of rs (header_in blob).boot_cpu (events_read blob)))
    × ReadsAs (blob_of rs (header_in blob).boot_cpu (events_read blob)) rs (header_in blob).boot_cpu (events_read blob)

-- an accepted host, and a request that passes 41 to 44
pub record Granted (host : Bytes) (q : Request) : Type 0 where
  pub read : blob_judged host ≡ passes
  pub request : request_judged (tree_read host) q ≡ passes

-- what is answered was granted: the statements below speak of every answer
abbrev pub AnswerGranted : Type 0
AnswerGranted =
    (r : Rules) (host : Bytes) (q : Request) (words listRoom guestRoom : ℕ) (d : Derived)
    → derive r host q words listRoom guestRoom ≡ gives d
    → Granted host q × (length (guest_of r host q) ≤ blob_ceiling)

-- "a path is listed exactly if 01's rule says so"
abbrev pub ListedExactly : Type 0
ListedExactly =
    (r : Rules) (host : Bytes) (q : Request) → Granted host q → (p : Bytes)
    → (p ∈ listed_paths r (tree_read host) q)
    ↔ ((x : ℕ)
    × (path (tree_read host) x ≡ p)
    × Listed r (tree_read host) (asked (frame (tree_read host)) q).conf (asked (frame (tree_read host)) q).excl x)

-- and once
abbrev pub ListedOnce : Type 0
ListedOnce =
    (r : Rules) (host : Bytes) (q : Request) → Granted host q → (i j : ℕ) → i < j → j < length (listed_paths r (tree_read host) q)
    → get_or (listed_paths r (tree_read host) q) i [] ≡ get_or (listed_paths r (tree_read host) q) j [] → ⊥

-- a node as it is copied: its name, and the names and values of its properties
pub record Plain : Type 0 where
  pub name : Bytes
  pub props : List (Bytes × Bytes)

abbrev pub plain : Node → Plain
plain n = record { name = n.name; props = map (λ (p : Property). (p.name, p.value)) n.props }

-- the number of a node's copy: how many nodes before it are copied
unfoldable pub rank : (ℕ → Bool) → ℕ → ℕ
rank k zero = 0
rank k (suc n) = elim (k n) [ true ↦ suc (rank k n) | false ↦ rank k n ]

-- "the guest tree is 01's filtered copy": read, it has the copied nodes' names, properties, values and order, and below each copy the
-- copies of what is below its node
abbrev pub GuestIsCopy : Type 0
GuestIsCopy =
    (r : Rules) (host : Bytes) (q : Request) → Granted host q
    → length (guest_of r host q) ≤ blob_ceiling
    → ReadsAs (guest_of r host q) [] 0 (guest_events r (asked (frame (tree_read host)) q) (tree_read host) (events_read host))
    × (map plain (tree_read (guest_of r host q))
    ≡ map (λ (i : ℕ). plain (node (tree_read host) i))
    (keep (copied r (asked (frame (tree_read host)) q) (tree_read host)) (numbers (frame (tree_read host)))))
    × (map (λ (n : Node). n.parent) (tree_read (guest_of r host q))
    ≡ map (λ (i : ℕ). rank (copied r (asked (frame (tree_read host)) q) (tree_read host)) (node (tree_read host) i).parent)
    (keep (copied r (asked (frame (tree_read host)) q) (tree_read host)) (numbers (frame (tree_read host)))))

-- "byte for byte, what the writer leaves when started with no reservations and boot CPU 0, given these nodes and properties in this
-- order, and finished"
abbrev pub GuestIsWritten : Type 0
GuestIsWritten =
    (r : Rules) (host : Bytes) (q : Request) (lent strings : Bytes) → Granted host q
    → length (guest_of r host q) ≤ room (length lent)
    → length (strings_after (guest_events r (asked (frame (tree_read host)) q) (tree_read host) (events_read host))) ≤ room (length strings)
    → written [] lent strings [] (spelled 0 (guest_events r (asked (frame (tree_read host)) q) (tree_read host) (events_read host)))
    ≡ gives (guest_of r host q)

-- ---- 3. Nothing leaks.

-- "Withheld: value bytes of a property of an uncopied node, unless the name is one that refusal 11 reads, or a reference property of a
-- reached node, or `reg` of a CPU child": what is hidden, by the rule of what is reached and not by the list of it
abbrev pub HiddenExactly : Type 0
HiddenExactly =
    (r : Rules) (host : Bytes) (q : Request) → blob_judged host ≡ passes → configured_judged (frame (tree_read host)) q ≡ passes
    → (i : ℕ) (n : Bytes)
    → (hidden r (asked (frame (tree_read host)) q) (tree_read host) i n ≡ true)
    ↔ ((copied r (asked (frame (tree_read host)) q) (tree_read host) i ≡ false)
    × (read_name n ≡ false)
    × (r.refers n ≡ true → Reached r (tree_read host) (asked (frame (tree_read host)) q).conf i → ⊥)
    × (cpu_child (frame (tree_read host)) i ≡ true → same n (ascii "reg") ≡ false))

-- an edition whose cells names are among those that refusal 11 reads
abbrev pub CellsRead : Rules → Type 0
CellsRead r = (n : Bytes) (c : String) → r.cells_name n ≡ some c → read_name (ascii c) ≡ true

-- "Take a host that the reader accepts and a request whose lists and CPU ids pass their checks." The lists pass 41 and 42; of the ids
-- nothing is asked, so that the answer may be any of 43 to 46. "Change the withheld value bytes at will: answer, list, guest, refusal
-- and place stay identical." Nothing is asked of the other blob but that it agrees: where the host is accepted and the request passes 41
-- to 44, so it is with the other.
abbrev pub NothingLeaks : Rules → Type 0
NothingLeaks r =
    (host other : Bytes) (q : Request) (words : ℕ) (list guest : Bytes)
    → blob_judged host ≡ passes → lists_judged q ≡ passes → configured_judged (frame (tree_read host)) q ≡ passes
    → Agree r q host other
    → (derive r host q words (length list) (length guest) ≡ derive r other q words (length list) (length guest))
    × (derive_list r host q words (length guest) list ≡ derive_list r other q words (length guest) list)
    × (derive_guest r host q words (length list) guest ≡ derive_guest r other q words (length list) guest)
    × (Granted host q → Granted other q)

-- for every such edition
abbrev pub NothingLeaksAnywhere : Type 0
NothingLeaksAnywhere = (r : Rules) → CellsRead r → NothingLeaks r
