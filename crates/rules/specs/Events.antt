-- 01, "The blob, as read": the shape of a structure, refusals 6 to 9 "judged token by token, in that order at one token", and
-- the events that the tokens say.
use Rattle.std.specs.Prelude.{Bool, true, false, not, ◌&&◌, List, [], ◌∷◌, ℕ, suc, ◌+◌, eqb, leb, length, take, drop, if◌then◌else◌}
use Rattle.rules.specs.Ceilings.{node_ceiling, open_ceiling}
use Rattle.rules.specs.Octets.{Bytes, part, nul_in, has_nul}
use Rattle.rules.specs.Outcome.{Verdict, refuses, passes}
use Rattle.rules.specs.Names.{node_name_reads, property_name_reads}
use Rattle.rules.specs.Blob.{Block}
use Rattle.rules.specs.Tokens.{Placed, tokens}
use Rattle.rules.specs.declared.Token.{Token}
use Rattle.rules.specs.declared.Token.TheVariants.{Item, End, Cut}
use Rattle.rules.specs.declared.Kind.TheVariants.{Begin, EndNode, Prop, Nop}

-- ---- names

-- the name behind the BEGIN at a place
abbrev pub node_name_at : Bytes → (at len : ℕ) → Bytes
node_name_at s at len = part s (at + 4) len

-- the name at an offset of the strings block, up to its NUL
unfoldable pub string_at : Bytes → ℕ → Bytes
string_at strings offset = take (nul_in (drop offset strings)) (drop offset strings)

-- "A name offset lies in the strings block, with a NUL before its end" (past its end no NUL follows), and the name passes
unfoldable pub property_reads : Bytes → ℕ → Bool
property_reads strings offset = has_nul (drop offset strings) && property_name_reads (string_at strings offset)

-- ---- the shape

-- how far the walk has come
pub record Walk : Type 0 where
  -- the numbers of the open nodes, the innermost first
  pub stack : List ℕ
  -- how many nodes have been opened
  pub count : ℕ
  -- whether the innermost open node has had a child
  pub ended : Bool

abbrev pub at_start : Walk
at_start = record { stack = []; count = 0; ended = false }

-- what one token does
pub data Step : Type 0 where
  stop : (number : ℕ) → Step
  done : Step
  go : Walk → Step

-- the next node is open, and has had no child
abbrev pub opened : Walk → Step
opened w = go (record { stack = w.count ∷ w.stack; count = suc w.count; ended = false })

-- BEGIN: "one root of empty name", then nodes in nodes: their names (7), a 65th open (8), a 2,049th in all (9)
unfoldable pub opening : Walk → (name : Bytes) → Step
opening w name = elim w.stack [
  | [] ↦ if not (eqb w.count 0) then stop 6 else if not (eqb (length name) 0) then stop 7 else opened w
  | i ∷ is ↦
      if not (node_name_reads name) then stop 7
      else if leb open_ceiling (length w.stack) then stop 8
      else if leb node_ceiling w.count then stop 9
      else opened w
]

-- END_NODE closes the innermost open node, and its parent has had a child
unfoldable pub closing : Walk → Step
closing w = elim w.stack [ [] ↦ stop 6 | i ∷ is ↦ go (record { stack = is; count = w.count; ended = true }) ]

-- PROP stands in a node, before its children: "properties, children"
unfoldable pub holding : Walk → (reads : Bool) → Step
holding w reads = elim w.stack [
  | [] ↦ stop 6
  | i ∷ is ↦ if w.ended then stop 6 else if not reads then stop 7 else go w
]

-- END: "one root, then END as its last four bytes"; "an END too early is itself at fault"
unfoldable pub ending : Walk → (last : Bool) → Step
ending w last = elim w.stack [
  | [] ↦ if eqb w.count 0 then stop 6 else if not last then stop 6 else done
  | i ∷ is ↦ stop 6
]

abbrev pub on_token : Block → Walk → ℕ → Token → Step
on_token b w at (Item (Begin len) next) = opening w (node_name_at b.structure at len)
on_token b w at (Item EndNode next) = closing w
on_token b w at (Item (Prop len name value) next) = holding w (property_reads b.strings name)
on_token b w at (Item Nop next) = go w
on_token b w at End = ending w (eqb (at + 4) (length b.structure))
on_token b w at Cut = stop 6

abbrev pub after : (Walk → Verdict) → (place : ℕ) → Step → Verdict
after rest place (stop number) = refuses number place
after rest place done = passes
after rest place (go w) = rest w

-- the walk over tokens; the place is that of the token, in the blob
unfoldable pub judge : Block → Walk → List Placed → Verdict
judge b w [] = refuses 6 b.place
judge b w (t ∷ ts) = after (λ (v : Walk). judge b v ts) (b.place + t.at) (on_token b w t.at t.token)

unfoldable pub shape_judged : Block → Verdict
shape_judged b = judge b at_start (tokens b.structure)

-- ---- events

pub record Property : Type 0 where
  pub place : ℕ
  pub name : Bytes
  pub value : Bytes

-- a node opens, a property, a node closes; each with its place in the blob
pub data Event : Type 0 where
  opens : (place : ℕ) (name : Bytes) → Event
  has : Property → Event
  closes : (place : ℕ) → Event

-- what a token says, in front of the rest
abbrev pub saying : Block → ℕ → Token → List Event → List Event
saying b at (Item (Begin len) next) es = opens (b.place + at) (node_name_at b.structure at len) ∷ es
saying b at (Item EndNode next) es = closes (b.place + at) ∷ es
saying b at (Item (Prop len name value) next) es =
    has (record { place = b.place + at; name = string_at b.strings name; value = part b.structure value len }) ∷ es
saying b at (Item Nop next) es = es
saying b at End es = es
saying b at Cut es = es

unfoldable pub events_of : Block → List Placed → List Event
events_of b [] = []
events_of b (t ∷ ts) = saying b t.at t.token (events_of b ts)

unfoldable pub events_in : Block → List Event
events_in b = events_of b (tokens b.structure)

-- The shape of events, as the tokens that say them are judged; the place is the event's.
abbrev pub place_of : Event → ℕ
place_of (opens place name) = place
place_of (has p) = p.place
place_of (closes place) = place

abbrev pub on_event : Walk → Event → Step
on_event w (opens place name) = opening w name
on_event w (has p) = holding w (property_name_reads p.name)
on_event w (closes place) = closing w

unfoldable pub judge_events : Walk → List Event → Verdict
judge_events w [] = after (λ (v : Walk). passes) 0 (ending w true)
judge_events w (e ∷ es) = after (λ (v : Walk). judge_events v es) (place_of e) (on_event w e)

unfoldable pub events_judged : List Event → Verdict
events_judged es = judge_events at_start es
