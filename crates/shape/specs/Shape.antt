-- What the parts of the walk promise each other: a turn of the code is a step of the definition, whatever nodes are open.
use Rattle.std.specs.Prelude.{◌≡◌, Bool, true, false, List, [], ◌∷◌, ℕ, suc, ◌+◌, ◌-◌, ◌*◌, ◌<◌, length, get_or, set, Result, Ok, Err}
use Rattle.rules.specs.Ceilings.{open_ceiling, node_ceiling}
use Rattle.rules.specs.Outcome.{Verdict, gives, ◌then◌}
use Rattle.rules.specs.Blob.{Block}
use Rattle.rules.specs.Events.{Step, stop, after, ending, on_token, shape_judged, events_in}
use Rattle.rules.specs.Events as events
use Rattle.rules.specs.Tree.{top, rest, nodes_of}
use Rattle.rules.specs.Reader.{space_of}
use Rattle.rules.specs.Laws.Reader.{starts_of}
use Rattle.rules.specs.Laws.Constants.{NODE_WORDS}
use Rattle.rules.specs.declared.Token.{Token}
use Rattle.rules.specs.declared.Token.TheVariants.{Item, End, Cut}
use Rattle.rules.specs.declared.Kind.{Kind}
use Rattle.rules.specs.declared.Kind.TheVariants.{Begin, EndNode, Prop, Nop}
use Rattle.shape.specs.declared.Refusal.{Refusal}
use Rattle.shape.specs.declared.Walk.{Walk}
use Rattle.shape.specs.declared.Turn.{Turn}
use Rattle.shape.specs.declared.Turn.TheVariants.{Opens, Closes, Stays}
use Rattle.shape.specs.Answers.{refused, meaning}

-- the definition's walk stands where the code's does
pub record Stands (w : Walk) (v : events.Walk) : Type 0 where
  pub depth : w.depth ≡ length v.stack
  pub node : w.node ≡ top v.stack
  pub count : w.count ≡ v.count
  pub ended : w.ended ≡ v.ended

-- the state after a node has opened, and after one has closed, whose parent's number is `up`
abbrev pub opened_by : Walk → Walk
opened_by w = record { depth = w.depth + 1; node = w.count; count = w.count + 1; ended = false }

abbrev pub closed_by : Walk → (up : ℕ) → Walk
closed_by w up = record { depth = w.depth - 1; node = up; count = w.count; ended = true }

-- the work space with the first two words of the next node's row, and the parent's number in the innermost node's row
abbrev pub row_begun : (work : List ℕ) → Walk → (place : ℕ) → List ℕ
row_begun work w place = set (set work (NODE_WORDS * w.count) place) (NODE_WORDS * w.count + 1) w.node

abbrev pub parent_in : (work : List ℕ) → Walk → ℕ
parent_in work w = get_or work (NODE_WORDS * w.node + 1) 0

-- what follows a turn
abbrev pub follows : (events.Walk → Verdict) → events.Walk → Result Turn Refusal → Verdict
follows go v (Ok Opens) = go (record { stack = v.count ∷ v.stack; count = suc v.count; ended = false })
follows go v (Ok Closes) = go (record { stack = rest v.stack; count = v.count; ended = true })
follows go v (Ok Stays) = go v
follows go v (Err refusal) = refused refusal

-- a turn that goes on is this one
abbrev pub Only : Turn → Result Turn Refusal → Type 0
Only t (Ok turn) = t ≡ turn
Only t (Err refusal) = Unit

-- a node that opens has room, and one that closes is open
abbrev pub Room : Walk → Result Turn Refusal → Type 0
Room w (Ok Opens) = (w.depth < open_ceiling) × (w.count < node_ceiling)
Room w (Ok Closes) = 0 < w.depth
Room w (Ok Stays) = Unit
Room w (Err refusal) = Unit

-- a turn at a place does what the definition's step does
pub record Does (w : Walk) (place : ℕ) (good : Turn) (step : events.Walk → Step) (turn : Result Turn Refusal) : Type 0 where
  pub same : (v : events.Walk) → Stands w v → (go : events.Walk → Verdict) → after go place (step v) ≡ follows go v turn
  pub only : Only good turn
  pub room : Room w turn

-- what an item does where it is not refused
abbrev pub turn_of : Kind → Turn
turn_of (Begin len) = Opens
turn_of EndNode = Closes
turn_of (Prop len name value) = Stays
turn_of Nop = Stays

-- what the code needs to know of a kind is not where the next token stands
abbrev pub DoesItem : Walk → (place : ℕ) → Block → (at : ℕ) → Kind → Result Turn Refusal → Type 0
DoesItem w place b at kind turn = Does w place (turn_of kind) (λ (v : events.Walk). on_token b v at (Item kind 0)) turn

-- where no item stands
abbrev pub lastly : events.Walk → (last : Bool) → Token → Step
lastly v last (Item kind next) = stop 6
lastly v last End = ending v last
lastly v last Cut = stop 6

abbrev pub Ends : Walk → (place : ℕ) (last : Bool) → Token → Result ℕ Refusal → Type 0
Ends w place last token answer =
    (v : events.Walk) → Stands w v → (go : events.Walk → Verdict) → meaning answer ≡ (after go place (lastly v last token) then gives w.count)

-- What is left in the work space: the words, or nothing that matters. Beyond the work space all stays.
abbrev pub Leaves : Result ℕ Refusal → (words old new : List ℕ) → Type 0
Leaves (Ok count) words old new = new ≡ space_of words old
Leaves (Err refusal) words old new = space_of [] new ≡ space_of [] old

-- the walk's answer, and the table
pub record Shaped (b : Block) (old new : List ℕ) (answer : Result ℕ Refusal) : Type 0 where
  pub judged : meaning answer ≡ (shape_judged b then gives (length (nodes_of (events_in b))))
  pub table : Leaves answer (starts_of (nodes_of (events_in b))) old new
