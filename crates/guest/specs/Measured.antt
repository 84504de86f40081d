-- What the copy takes, without writing it. A name adds to the strings where no copied property before had it. The names met so far
-- stand in the work space from the stack on, a word each, the name's offset in the host's strings; where there is no more room, the
-- tokens before are searched.
use Rattle.std.specs.Prelude.{◌≡◌, Bool, true, false, ◌||◌, List, [], ◌∷◌, ◌++◌, ℕ, zero, suc, ◌+◌, ◌-◌, ◌*◌, ◌≤◌, ◌<◌, eqb, ltb, length, get_or, take, Option, Some, None, if◌then◌else◌}
use Rattle.rules.specs.Ceilings.{blob_ceiling, work_words}
use Rattle.rules.specs.Space.{stack_at}
use Rattle.rules.specs.Octets.{Bytes, lay, same}
use Rattle.rules.specs.Blob.{block_of}
use Rattle.rules.specs.Events.{Event, opens, has, closes, string_at, events_in}
use Rattle.rules.specs.Writer.{begin_bytes, end_bytes, property_bytes}
use Rattle.rules.specs.declared.Kind.{Kind}
use Rattle.rules.specs.declared.Kind.TheVariants.{Begin, EndNode, Prop, Nop}
use Rattle.guest.specs.declared.measured.Sum.{Sum}
use Rattle.guest.specs.declared.Size.{Size}
use Rattle.guest.specs.Walked.{marked, sift, copy_of, Above}

-- ---- names

unfoldable pub is_in : Bytes → List Bytes → Bool
is_in x [] = false
is_in x (y ∷ ys) = same x y || is_in x ys

-- the names of properties, in order
unfoldable pub names_of : List Event → List Bytes
names_of [] = []
names_of (opens place name ∷ es) = names_of es
names_of (has p ∷ es) = p.name ∷ names_of es
names_of (closes place ∷ es) = names_of es

-- the names of the properties of the copy
unfoldable pub names_in : (structure strings : Bytes) → (ws : List ℕ) → List Bytes
names_in structure strings ws = names_of (sift (marked ws) 0 0 (events_in (block_of 0 structure strings)))

-- the name's offset, where a token is a property that is copied
abbrev pub prop_of : (s : ℕ) → Kind → Option ℕ
prop_of s (Begin len) = None
prop_of s EndNode = None
prop_of s (Prop len name value) = if eqb s 0 then Some name else None
prop_of s Nop = None

-- its name, if there is one
abbrev pub name_at : Bytes → Option ℕ → List Bytes
name_at strings (Some offset) = string_at strings offset ∷ []
name_at strings None = []

-- whether it is this one
abbrev pub is_named : Bytes → Option ℕ → Bytes → Bool
is_named strings (Some offset) x = same x (string_at strings offset)
is_named strings None x = false

abbrev pub less_one : Option ℕ → ℕ → ℕ
less_one (Some offset) n = n - 1
less_one None n = n

-- ---- the table of names

-- whether one of the first n words of the table is the offset of this name
unfoldable pub in_table : (strings : Bytes) (ws : List ℕ) (n : ℕ) → Bytes → Bool
in_table strings ws zero x = false
in_table strings ws (suc n) x = same x (string_at strings (get_or ws (stack_at + n) 0)) || in_table strings ws n x

-- how many words there are for it
unfoldable pub table_room : ℕ
table_room = work_words - stack_at

-- the first n words are names met before, and all of these, unless the table is full
pub record Tabled (strings : Bytes) (ws : List ℕ) (n : ℕ) (done : List Bytes) : Type 0 where
  pub few : n ≤ table_room
  pub room : work_words ≤ length ws
  pub met : (x : Bytes) → in_table strings ws n x ≡ true → is_in x done ≡ true
  pub all : n < table_room → (x : Bytes) → is_in x done ≡ true → in_table strings ws n x ≡ true

-- the table is of the names of the copied properties so far
abbrev pub Collected : (structure strings : Bytes) → (ws : List ℕ) → Sum → Type 0
Collected structure strings ws sum = Tabled strings ws sum.names (take sum.props (names_in structure strings ws))

-- what entering a name leaves: how many words are in use, and the words
abbrev pub enter_count : (n : ℕ) → ℕ
enter_count n = if ltb n table_room then n + 1 else n

abbrev pub enter_words : (ws : List ℕ) (n offset : ℕ) → List ℕ
enter_words ws n offset = if ltb n table_room then lay ws (stack_at + n) (offset ∷ []) else ws

-- ---- sizes

-- what names add to the strings, where others are there already
unfoldable pub growth_of : (done names : List Bytes) → ℕ
growth_of done [] = 0
growth_of done (x ∷ xs) = (if is_in x done then 0 else length x + 1) + growth_of (done ++ x ∷ []) xs

unfoldable pub structure_size : List Event → ℕ
structure_size [] = 0
structure_size (opens place name ∷ es) = length (begin_bytes name) + structure_size es
structure_size (has p ∷ es) = length (property_bytes 0 p.value) + structure_size es
structure_size (closes place ∷ es) = length end_bytes + structure_size es

-- sums that another token's part cannot make wrap
pub record Low (sum : Sum) : Type 0 where
  pub structure : sum.structure ≤ blob_ceiling
  pub strings : sum.strings ≤ blob_ceiling * (blob_ceiling + 1)
  pub props : sum.props ≤ blob_ceiling

-- what the sums are behind a name, if there is one
pub record Entered (block : Bytes) (ws vs : List ℕ) (done : List Bytes) (sum r : Sum) (name : Option ℕ) : Type 0 where
  pub strings : r.strings ≡ sum.strings + growth_of done (name_at block name)
  pub props : r.props ≡ sum.props + length (name_at block name)
  pub tabled : Tabled block vs r.names (done ++ name_at block name)
  pub kept : Above ws vs

-- the sizes are those of the copy of a structure and its strings
pub record Sized (s t : Bytes) (ws : List ℕ) (size : Size) : Type 0 where
  pub structure : size.structure ≡ length (copy_of s t ws).structure
  pub strings : size.strings ≡ length (copy_of s t ws).strings
