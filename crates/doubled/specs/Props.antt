-- The properties of one node, as they are read one after the other.
use Rattle.std.specs.Prelude.{◌≡◌, Bool, true, false, List, [], ◌∷◌, ℕ, ◌+◌, ◌-◌, ◌≤◌, ◌<◌, length, take, get_or, Option, Some, None}
use Rattle.rules.specs.Ceilings.{work_words}
use Rattle.rules.specs.Octets.{Bytes}
use Rattle.rules.specs.Outcome.{Verdict, refuses, passes, ◌then◌, first}
use Rattle.rules.specs.Events.{Property}
use Rattle.rules.specs.Tree.{named, doubled_props}
use Rattle.doubled.specs.Passes.{props_at}
use Rattle.doubled.specs.Sorted.{chunk_start, chunk_room, key_below, Ordered}
use Rattle.doubled.specs.declared.props.Built as builts
use Rattle.doubled.specs.declared.props.Built.TheVariants as built
use Rattle.doubled.specs.declared.props.Hit.{Hit}

-- ---- properties whose names pass a test

-- the first of them is at fault
unfoldable pub first_hit : (Bytes → Bool) → List Property → Verdict
first_hit f [] = passes
first_hit f (p ∷ ps) = first (record { fails = f p.name; number = 10; place = p.place } ∷ []) then first_hit f ps

-- those before it
unfoldable pub up_to_hit : (Bytes → Bool) → List Property → List Property
up_to_hit f [] = []
up_to_hit f (p ∷ ps) = elim (f p.name) [ true ↦ [] | false ↦ p ∷ up_to_hit f ps ]

-- among `left` properties from a place on: the first that passes, at its index and its place, or none
pub record Met (f : Bytes → Bool) (s strings : Bytes) (from left index at : ℕ) : Type 0 where
  pub inside : at + 4 ≤ length s
  pub few : index ≤ left
  pub fault : (place : ℕ) → first_hit f (take left (props_at s strings place from)) ≡ refuses 10 (place + at)
  pub rest : (place : ℕ) → up_to_hit f (take left (props_at s strings place from)) ≡ take index (props_at s strings place from)

pub record Unmet (f : Bytes → Bool) (s strings : Bytes) (from left : ℕ) : Type 0 where
  pub fault : (place : ℕ) → first_hit f (take left (props_at s strings place from)) ≡ passes
  pub rest : (place : ℕ) → up_to_hit f (take left (props_at s strings place from)) ≡ take left (props_at s strings place from)

abbrev pub MeetsBy : (Bytes → Bool) → (s strings : Bytes) (from left : ℕ) → Option Hit → Type 0
MeetsBy f s strings from left (Some hit) = Met f s strings from left hit.index hit.at
MeetsBy f s strings from left None = Unmet f s strings from left

-- the search of a chunk: a name that is in it
abbrev pub Meets : (s strings : Bytes) → List ℕ → (from left : ℕ) → Option Hit → Type 0
Meets s strings w from left r = MeetsBy (key_below strings w chunk_room) s strings from left r

-- ---- a chunk of properties

-- the chunk is full: it is in order, and with what is behind it judges as the whole
pub record Full (s strings : Bytes) (from left next : ℕ) (w : List ℕ) : Type 0 where
  pub within : next ≤ length s
  pub few : chunk_room ≤ left
  pub ordered : Ordered strings w chunk_room
  pub seen : ℕ → List Property
  pub holds : (p : ℕ) (x : Bytes) → named x (seen p) ≡ key_below strings w chunk_room x
  pub judged : (p : ℕ) → doubled_props [] (take left (props_at s strings p from)) ≡ doubled_props (seen p) (take (left - chunk_room) (props_at s strings p next))

-- one is at fault
pub record Twin (s strings : Bytes) (from left at : ℕ) : Type 0 where
  pub inside : at + 4 ≤ length s
  pub judged : (p : ℕ) → doubled_props [] (take left (props_at s strings p from)) ≡ refuses 10 (p + at)

abbrev pub Builds : (s strings : Bytes) (from left : ℕ) → List ℕ → builts.Built → Type 0
Builds s strings from left w (built.Twice at) = Twin s strings from left at
Builds s strings from left w built.Done = (p : ℕ) → doubled_props [] (take left (props_at s strings p from)) ≡ passes
Builds s strings from left w (built.Full next) = Full s strings from left next w

-- ---- a work space

-- it is long enough, and the words of the chunk are zero
pub record Clear (w : List ℕ) : Type 0 where
  pub room : work_words ≤ length w
  pub zeros : (i : ℕ) → i < chunk_room → get_or w (chunk_start + i) 0 ≡ 0
