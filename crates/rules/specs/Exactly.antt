-- 01's sentences about reader and writer in the words of trees, places and bytes, beside the definitions that compute: what the reader
-- refuses and where, what it does not examine, what it reads, and what the writer leaves. In the paper's order. What stands here is a
-- claim and not a proof: docs/PROMISES.md says which theorem proves each.
use Rattle.std.specs.Prelude.{◌≡◌, ◌↔◌, Bool, true, false, ◌&&◌, ◌||◌, List, [], ◌∷◌, ◌++◌, map, ℕ, suc, ◌+◌, ◌-◌, ◌*◌, ◌≤◌, ◌<◌, leb, ltb, length, get_or, take}
use Rattle.std.proofs.Math.Option.{Option, none, some}
use Prim.Native.String.{String}
use Rattle.rules.specs.Octets.{Bytes, word_at, has_nul, ascii, same}
use Rattle.rules.specs.Outcome.{gives, refuses, passes}
use Rattle.rules.specs.Reservations.{Entry, any_invalid, overlapping}
use Rattle.rules.specs.Written.{Call, written, said, unplaced}
use Rattle.rules.specs.Blob.{header_in, entries_in, header_judged, Block, block_of, block_in}
use Rattle.rules.specs.Tokens.{Placed, token_at, tokens}
use Rattle.rules.specs.declared.Token.{Token}
use Rattle.rules.specs.declared.Token.TheVariants.{Item, End, Cut}
use Rattle.rules.specs.declared.Kind.TheVariants.{Begin, EndNode, Prop, Nop}
use Rattle.rules.specs.Events.{Property, Event, opens, has, closes, shape_judged, events_in}
use Rattle.rules.specs.Tree.{Node, Tree, node, doubled_judged, words_judged, shared_judged, phandle_names, cells_names, is_phandle, read_name}
use Rattle.rules.specs.Reader.{events_read, tree_read, blob_judged, read, read_work}
use Rattle.rules.specs.Grammar.{Forest, empty, node as branch, Structure, Limits, size, tell}
use Rattle.rules.specs.Listing.{◌∈◌, paths_bytes}
use Rattle.rules.specs.Demands.{Plain, plain, strings_after}

-- ---- The blob, as read

-- "A structure is one root of empty name, then END as its last four bytes. A node is BEGIN, name with NUL padded to 4, properties,
-- children, END_NODE. NOPs may stand wherever a token may before END": bytes say one tree at most, whatever its names, depth and size.
abbrev pub OneTree : Type 0
OneTree = (strings structure : Bytes) (f g : Forest) → Structure strings structure f → Structure strings structure g → f ≡ g

-- it is the tree that the reader reads, and the walk accepts it exactly if it is within 01's limits
abbrev pub TreeRead : Type 0
TreeRead =
    (b : Block) (f : Forest) → Structure b.strings b.structure f
    → (unplaced (events_in b) ≡ tell f []) × ((shape_judged b ≡ passes) ↔ Limits f)

-- ---- "Padding isn't examined."

-- from a place on, up to another
abbrev pub spans : (from to x : ℕ) → Bool
spans from to x = leb from x && ltb x to

-- padding: of the token at a place of the structure block, behind a name and its NUL, and behind a value
abbrev pub padding_of : (at : ℕ) → Token → (x : ℕ) → Bool
padding_of at (Item (Begin len) next) x = spans (at + 4 + len + 1) next x
padding_of at (Item EndNode next) x = false
padding_of at (Item (Prop len name value) next) x = spans (value + len) next x
padding_of at (Item Nop next) x = false
padding_of at End x = false
padding_of at Cut x = false

unfoldable pub padding_in : List Placed → (x : ℕ) → Bool
padding_in [] x = false
padding_in (t ∷ ts) x = padding_of t.at t.token x || padding_in ts x

-- where the reservations from `at` on end, with the pair that closes them; where none does, at the structure block
abbrev pub end_of : (at limit : ℕ) → Option (List Entry) → ℕ
end_of at limit none = limit
end_of at limit (some es) = at + 16 * (length es + 1)

-- between header, reservations, structure and strings, behind the strings, and from totalsize on
unfoldable pub gap : Bytes → (x : ℕ) → Bool
gap b x =
    spans 40 (header_in b).reservations x
    || spans (end_of (header_in b).reservations (header_in b).structure (entries_in b)) (header_in b).structure x
    || spans ((header_in b).structure + (header_in b).structure_size) (header_in b).strings x
    || leb ((header_in b).strings + (header_in b).strings_size) x
    || leb (header_in b).total x

-- whether the byte at place x of the blob is padding or in a gap; a byte of the header never is
unfoldable pub unexamined : Bytes → (x : ℕ) → Bool
unexamined b x =
    leb 40 x && (gap b x || leb (header_in b).structure x && padding_in (tokens (block_in b).structure) (x - (header_in b).structure))

-- two blobs of one length that agree elsewhere
pub record Examined (blob other : Bytes) : Type 0 where
  pub size : length blob ≡ length other
  pub bytes : (x : ℕ) → unexamined blob x ≡ false → get_or blob x 0 ≡ get_or other x 0

-- are judged and read the same, with the same node table; and, where the header passes, say the same
abbrev pub PaddingNotExamined : Type 0
PaddingNotExamined =
    (blob other : Bytes) → Examined blob other
    → (blob_judged blob ≡ blob_judged other)
    × ((words : ℕ) → read blob words ≡ read other words)
    × ((work : List ℕ) → read_work blob work ≡ read_work other work)
    × (header_in blob ≡ header_in other)
    × (header_judged blob ≡ passes
    → (entries_in blob ≡ entries_in other) × (events_read blob ≡ events_read other) × (tree_read blob ≡ tree_read other))

-- ---- "Reader refuses exactly when": 10, 11 and 12, by the numbers of nodes and of their properties

-- property j of node n, and that there is one
abbrev pub prop : Tree → (n j : ℕ) → Property
prop t n j = get_or (node t n).props j (record { place = 0; name = []; value = [] })

abbrev pub HasProp : Tree → (n j : ℕ) → Type 0
HasProp t n j = (n < length t) × (j < length (node t n).props)

-- the least place at which there is a fault, and so the first in token order
abbrev pub First : (ℕ → Type 0) → ℕ → Type 0
First Fault place = Fault place × ((p : ℕ) → p < place → Fault p → ⊥)

-- 10: "two siblings, or two properties of a node, share a name": the nodes i and k, neither the root; the properties i and k of node n
abbrev pub SiblingsShare : Tree → (i k : ℕ) → Type 0
SiblingsShare t i k = (0 < i) × (i < k) × (k < length t) × ((node t i).parent ≡ (node t k).parent) × ((node t i).name ≡ (node t k).name)

abbrev pub PropertiesShare : Tree → (n i k : ℕ) → Type 0
PropertiesShare t n i k = (i < k) × HasProp t n k × ((prop t n i).name ≡ (prop t n k).name)

-- "The place is the blob offset of the first offending token; for pairs, the later one's"
pub data DoubledAt (t : Tree) (place : ℕ) : Type 0 where
  sibling_at : (i k : ℕ) → SiblingsShare t i k → (node t k).place ≡ place → DoubledAt t place
  property_shared_at : (n i k : ℕ) → PropertiesShare t n i k → (prop t n k).place ≡ place → DoubledAt t place

-- no two do
abbrev pub NamesApart : Tree → Type 0
NamesApart t = ((i k : ℕ) → SiblingsShare t i k → ⊥) × ((n i k : ℕ) → PropertiesShare t n i k → ⊥)

abbrev pub DoubledExactly : Type 0
DoubledExactly =
    (blob : Bytes) → shape_judged (block_in blob) ≡ passes
    → ((doubled_judged (tree_read blob) ≡ passes) ↔ NamesApart (tree_read blob))
    × ((number place : ℕ)
    → (doubled_judged (tree_read blob) ≡ refuses number place) ↔ ((number ≡ 10) × First (DoubledAt (tree_read blob)) place))

-- the names that 11 reads: those of the two lists, and no other
abbrev pub NamesRead : Type 0
NamesRead = (n : Bytes) → (read_name n ≡ true) ↔ ((s : String) × (s ∈ (phandle_names ++ cells_names)) × (n ≡ ascii s))

-- 11: "`phandle`, `linux,phandle` or one of the 14 `#...-cells` names in `build_phandle_map` isn't 4 bytes, or a node's two phandle
-- names disagree": property j of node n; the properties i and k of node n
abbrev pub WrongSize : Tree → (n j : ℕ) → Type 0
WrongSize t n j = HasProp t n j × (read_name (prop t n j).name ≡ true) × (length (prop t n j).value ≡ 4 → ⊥)

abbrev pub Disagree : Tree → (n i k : ℕ) → Type 0
Disagree t n i k =
    (i < k)
    × HasProp t n k
    × (is_phandle (prop t n i).name ≡ true)
    × (is_phandle (prop t n k).name ≡ true)
    × (word_at (prop t n i).value 0 ≡ word_at (prop t n k).value 0 → ⊥)

pub data WordsAt (t : Tree) (place : ℕ) : Type 0 where
  wrong_size_at : (n j : ℕ) → WrongSize t n j → (prop t n j).place ≡ place → WordsAt t place
  disagree_at : (n i k : ℕ) → Disagree t n i k → (prop t n k).place ≡ place → WordsAt t place

abbrev pub WordsRight : Tree → Type 0
WordsRight t = ((n j : ℕ) → WrongSize t n j → ⊥) × ((n i k : ℕ) → Disagree t n i k → ⊥)

abbrev pub WordsExactly : Type 0
WordsExactly =
    (blob : Bytes)
    → ((words_judged (tree_read blob) ≡ passes) ↔ WordsRight (tree_read blob))
    × ((number place : ℕ) → (words_judged (tree_read blob) ≡ refuses number place) ↔ ((number ≡ 11) × First (WordsAt (tree_read blob)) place))

-- 12: "two nodes have one phandle": property j is the first of node n that gives a phandle; those of the nodes i and k are the same
abbrev pub FirstPhandle : Tree → (n j : ℕ) → Type 0
FirstPhandle t n j = HasProp t n j × (is_phandle (prop t n j).name ≡ true) × ((i : ℕ) → i < j → is_phandle (prop t n i).name ≡ false)

abbrev pub OnePhandle : Tree → (i k l m : ℕ) → Type 0
OnePhandle t i k l m =
    (i < k) × FirstPhandle t i l × FirstPhandle t k m × (word_at (prop t i l).value 0 ≡ word_at (prop t k m).value 0)

-- "in 12, the later node's first phandle token"
pub data SharedAt (t : Tree) (place : ℕ) : Type 0 where
  shared_at : (i k l m : ℕ) → OnePhandle t i k l m → (prop t k m).place ≡ place → SharedAt t place

abbrev pub PhandlesApart : Tree → Type 0
PhandlesApart t = (i k l m : ℕ) → OnePhandle t i k l m → ⊥

abbrev pub SharedExactly : Type 0
SharedExactly =
    (blob : Bytes)
    → ((shared_judged (tree_read blob) ≡ passes) ↔ PhandlesApart (tree_read blob))
    × ((number place : ℕ) → (shared_judged (tree_read blob) ≡ refuses number place) ↔ ((number ≡ 12) × First (SharedAt (tree_read blob)) place))

-- "Then 10, 11 and 12 each take a pass of their own": what the reader refuses by each, and where
abbrev pub Shaped : Bytes → Type 0
Shaped blob = (header_judged blob ≡ passes) × (shape_judged (block_in blob) ≡ passes)

abbrev pub RefusedExactly : Type 0
RefusedExactly =
    (blob : Bytes) (place : ℕ)
    → ((blob_judged blob ≡ refuses 10 place) ↔ (Shaped blob × First (DoubledAt (tree_read blob)) place))
    × ((blob_judged blob ≡ refuses 11 place) ↔ (Shaped blob × NamesApart (tree_read blob) × First (WordsAt (tree_read blob)) place))
    × ((blob_judged blob ≡ refuses 12 place)
    ↔ (Shaped blob × NamesApart (tree_read blob) × WordsRight (tree_read blob) × First (SharedAt (tree_read blob)) place))

-- and what it accepts: a header that passes 1 to 5, a structure of the grammar within 01's limits, and nothing that 10 to 12 refuse
abbrev pub AcceptedExactly : Type 0
AcceptedExactly =
    (blob : Bytes)
    → (blob_judged blob ≡ passes)
    ↔ ((header_judged blob ≡ passes)
    × ((f : Forest) × Structure (block_in blob).strings (block_in blob).structure f × Limits f)
    × NamesApart (tree_read blob)
    × WordsRight (tree_read blob)
    × PhandlesApart (tree_read blob))

-- ---- "The place is the blob offset of the first offending token; for pairs, the later one's (in 12, the later node's first phandle
-- token); where a token is missing, the offset where it should begin."

-- from 6 on the place lies in the structure block or at its end
abbrev pub RefusedInStructure : Type 0
RefusedInStructure =
    (blob : Bytes) (number place : ℕ) → blob_judged blob ≡ refuses number place → 6 ≤ number
    → ((header_in blob).structure ≤ place) × (place ≤ (header_in blob).structure + (header_in blob).structure_size)

-- another structure block has the same token at a place, and the same bytes before it: an item with its bytes; an END, in a block of the
-- same length; a cut one
abbrev pub KeepsToken : (structure other : Bytes) (at : ℕ) → Token → Type 0
KeepsToken s c at (Item kind next) = take next c ≡ take next s
KeepsToken s c at End = (take (at + 4) c ≡ take (at + 4) s) × (length c ≡ length s)
KeepsToken s c at Cut = (take at c ≡ take at s) × (token_at c at ≡ Cut)

-- nothing before the token is at fault: something can follow there so that the walk accepts; and the token is: with it nothing can
pub record Offends (b : Block) (number at : ℕ) : Type 0 where
  pub inside : at ≤ length b.structure
  pub more : Bytes
  pub before : shape_judged (block_of b.place (take at b.structure ++ more) b.strings) ≡ passes
  pub token : (other : Bytes) → KeepsToken b.structure other at (token_at b.structure at)
      → shape_judged (block_of b.place other b.strings) ≡ refuses number (b.place + at)

-- so of every refusal 6 to 9
abbrev pub FirstOffending : Type 0
FirstOffending =
    (blob : Bytes) (number place : ℕ) → blob_judged blob ≡ refuses number place → 6 ≤ number → number ≤ 9
    → (at : ℕ) × (place ≡ (header_in blob).structure + at) × Offends (block_in blob) number at

-- places go up in token order, so that the least is the first: node by node, each with its BEGIN and then its properties
pub record Rising (t : Tree) : Type 0 where
  pub begins : (i k : ℕ) → i < k → k < length t → (node t i).place < (node t k).place
  pub inside : (n j : ℕ) → HasProp t n j → (node t n).place < (prop t n j).place
  pub props : (n i k : ℕ) → i < k → HasProp t n k → (prop t n i).place < (prop t n k).place
  pub behind : (i j k : ℕ) → i < k → k < length t → HasProp t i j → (prop t i j).place < (node t k).place

-- whatever the bytes
abbrev pub PlacesRise : Type 0
PlacesRise = (blob : Bytes) → Rising (tree_read blob)

-- ---- "It answers the node count and leaves four words a node, in blob order: BEGIN offset, parent's number (root: 0), ..."

-- the nodes of the grammar's tree as they follow each other in the blob, each with the number of the node that holds it: nodes side by
-- side, held by `parent`, of which the first has the number `next`
unfoldable pub preorder : (parent next : ℕ) → Forest → List (ℕ × Plain)
preorder parent next empty = []
preorder parent next (branch name props below beside) =
    (parent, record { name = name; props = props })
    ∷ (preorder next (suc next) below ++ preorder parent (suc next + size below) beside)

-- the nodes that are read are those of the tree that the grammar derives, in its order, each below the one that holds it there, and as
-- many
abbrev pub NodesOfGrammar : Type 0
NodesOfGrammar =
    (blob : Bytes) (f : Forest) → Structure (block_in blob).strings (block_in blob).structure f
    → (map (λ (n : Node). (n.parent, plain n)) (tree_read blob) ≡ preorder 0 0 f) × (length (tree_read blob) ≡ size f)

-- ---- The writer

-- "Overlap (28) is judged in address order": of valid entries, it is found exactly if an address lies in two of them
abbrev pub Covers : Entry → (address : ℕ) → Type 0
Covers e b = (e.address ≤ b) × (b < e.address + e.size)

abbrev pub OverlapExactly : Type 0
OverlapExactly =
    (rs : List Entry) → any_invalid rs ≡ false
    → (overlapping rs ≡ true)
    ↔ ((i : ℕ)
    × (j : ℕ)
    × (b : ℕ)
    × (i < j)
    × (j < length rs)
    × Covers (get_or rs i (record { address = 0; size = 0 })) b
    × Covers (get_or rs j (record { address = 0; size = 0 })) b)

-- "Names are interned whole, first use first (NUL-closed strings, from the block's start)."
-- the names of properties, use by use
unfoldable pub names_used : List Event → List Bytes
names_used [] = []
names_used (opens place name ∷ es) = names_used es
names_used (has p ∷ es) = p.name ∷ names_used es
names_used (closes place ∷ es) = names_used es

unfoldable pub is_among : Bytes → List Bytes → Bool
is_among n [] = false
is_among n (m ∷ ms) = same n m || is_among n ms

-- those that were not seen before, each where it is used first
unfoldable pub first_uses : (seen : List Bytes) → List Bytes → List Bytes
first_uses seen [] = []
first_uses seen (n ∷ ns) = elim (is_among n seen) [ true ↦ first_uses seen ns | false ↦ n ∷ first_uses (n ∷ seen) ns ]

-- the block is the distinct names in order of first use, each closed by NUL
abbrev pub InternedOnce : Type 0
InternedOnce =
    (es : List Event) → ((n : Bytes) → n ∈ names_used es → has_nul n ≡ false)
    → strings_after es ≡ paths_bytes (first_uses [] (names_used es))

-- so of every blob that calls leave: no call with a NUL in a name is accepted (24)
abbrev pub WrittenInterned : Type 0
WrittenInterned =
    (rs : List Entry) (lent strings : Bytes) (phandles : List ℕ) (cs : List Call) (blob : Bytes)
    → written rs lent strings phandles cs ≡ gives blob
    → (block_in blob).strings ≡ paths_bytes (first_uses [] (names_used (said cs)))
