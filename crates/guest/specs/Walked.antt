-- The walk of the copy over the tokens. Instead of the open nodes it keeps how many of them are not copied: where the marks are
-- closed upwards, nothing below a node that is not copied is copied, so that this number says all that the sieve asks of them.
use Rattle.std.specs.Prelude.{◌≡◌, Bool, false, ◌&&◌, List, [], ◌∷◌, ℕ, ◌+◌, ◌-◌, ◌≤◌, eqb, ltb, get_or, if◌then◌else◌}
use Rattle.rules.specs.Ceilings.{blob_ceiling, node_ceiling, work_words}
use Rattle.rules.specs.Space.{marks_at, stack_at}
use Rattle.rules.specs.Octets.{Bytes, part}
use Rattle.rules.specs.Outcome.{passes}
use Rattle.rules.specs.Blob.{Block, block_of}
use Rattle.rules.specs.Events.{Event, opens, has, closes, node_name_at, string_at, shape_judged, events_in}
use Rattle.rules.specs.Tree.{nodes_of}
use Rattle.rules.specs.Copy.{when, sieve}
use Rattle.rules.specs.Written.{Blocks, write_events}
use Rattle.rules.specs.declared.Kind.{Kind}
use Rattle.rules.specs.declared.Kind.TheVariants.{Begin, EndNode, Prop, Nop}
use Rattle.rules.specs.Laws.Sieve.{Upward}
use Rattle.rules.specs.Laws.Kept.{Only}
use Rattle.guest.specs.declared.walk.Walk.{Walk}

-- node i is copied where its word among the marks is 1; there is a word for each node up to the ceiling
unfoldable pub marked : List ℕ → ℕ → Bool
marked ws i = ltb i node_ceiling && eqb (get_or ws (marks_at + i) 0) 1

-- ---- a token's part

-- whether a token is copied; `n` is the number of the next node, and `s` of the open nodes are not copied
abbrev pub copies : (ℕ → Bool) → (n s : ℕ) → Kind → Bool
copies k n s (Begin len) = eqb s 0 && k n
copies k n s EndNode = eqb s 0
copies k n s (Prop len name value) = eqb s 0
copies k n s Nop = false

abbrev pub next_of : ℕ → Kind → ℕ
next_of n (Begin len) = n + 1
next_of n EndNode = n
next_of n (Prop len name value) = n
next_of n Nop = n

abbrev pub skipped_of : (ℕ → Bool) → (n s : ℕ) → Kind → ℕ
skipped_of k n s (Begin len) = if eqb s 0 && k n then s else s + 1
skipped_of k n s EndNode = s - 1
skipped_of k n s (Prop len name value) = s
skipped_of k n s Nop = s

-- the walk behind a token
abbrev pub onward_of : (ℕ → Bool) → Walk → Kind → Walk
onward_of k w kind = record { next = next_of w.next kind; skipped = skipped_of k w.next w.skipped kind }

-- ---- what is copied

-- what a token says; a NOP says nothing, and is never copied
abbrev pub heard : Block → ℕ → Kind → Event
heard b at (Begin len) = opens (b.place + at) (node_name_at b.structure at len)
heard b at EndNode = closes (b.place + at)
heard b at (Prop len name value) = has (record { place = b.place + at; name = string_at b.strings name; value = part b.structure value len })
heard b at Nop = closes (b.place + at)

-- the sieve, with the number of open nodes that are not copied in place of the open nodes
unfoldable pub sift : (ℕ → Bool) → (n s : ℕ) → List Event → List Event
sift k n s [] = []
sift k n s (opens place name ∷ es) = when (eqb s 0 && k n) (opens place name) (sift k (n + 1) (if eqb s 0 && k n then s else s + 1) es)
sift k n s (has p ∷ es) = when (eqb s 0) (has p) (sift k n s es)
sift k n s (closes place ∷ es) = when (eqb s 0) (closes place) (sift k n (s - 1) es)

abbrev pub blank : Blocks
blank = record { structure = []; strings = [] }

-- The blocks of the copy, by the marks of a work space. Where the structure stands in the blob does not matter to bytes.
unfoldable pub copy_of : (structure strings : Bytes) → (ws : List ℕ) → Blocks
copy_of structure strings ws = write_events blank (sift (marked ws) 0 0 (events_in (block_of 0 structure strings)))

-- the events of the copy that 01 says
abbrev pub sieved : (place : ℕ) (structure strings : Bytes) → (ws : List ℕ) → List Event
sieved place structure strings ws = sieve (marked ws) [] 0 (events_in (block_of place structure strings))

-- a structure that passes, and marks that are closed upwards
pub record Ready (place : ℕ) (structure strings : Bytes) (ws : List ℕ) : Type 0 where
  pub shape : shape_judged (block_of place structure strings) ≡ passes
  pub upward : Upward (marked ws) 0 (nodes_of (events_in (block_of place structure strings)))

-- ---- the work space

-- only the words from the stack on, to the end of the work space, may change
abbrev pub Above : (ws vs : List ℕ) → Type 0
Above = Only stack_at work_words

-- a walk that has come no further than the ceiling
pub record Near (w : Walk) : Type 0 where
  pub next : w.next ≤ blob_ceiling
  pub skipped : w.skipped ≤ blob_ceiling
