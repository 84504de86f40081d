-- DTSpec 5.4 as a grammar: which bytes are a structure block, and of which nodes. It knows nothing of tokens or of the reader's walk.
-- Behind it 01's limits, and the events that nodes say.
use Rattle.std.specs.Prelude.{◌≡◌, false, true, List, [], ◌∷◌, ◌++◌, ℕ, suc, ◌+◌, ◌≤◌, max, length, drop}
use Rattle.rules.specs.Ceilings.{open_ceiling, node_ceiling}
use Rattle.rules.specs.Octets.{Bytes, word_at, padded, has_nul}
use Rattle.rules.specs.Names.{node_name_reads, property_name_reads}
use Rattle.rules.specs.Events.{Event, opens, closes}
use Rattle.rules.specs.Written.{has_said}

-- ---- trees

-- nodes side by side: a first one, with its name, properties (name and value) and children, and those behind it
pub data Forest : Type 0 where
  empty : Forest
  node : (name : Bytes) (props : List (Bytes × Bytes)) (below beside : Forest) → Forest

-- ---- bytes

-- four bytes that are the number v
pub record Word (v : ℕ) (w : Bytes) : Type 0 where
  pub four : length w ≡ 4
  pub reads : word_at w 0 ≡ v

-- bytes of any content behind n others, up to a multiple of 4
pub record Pads (n : ℕ) (pad : Bytes) : Type 0 where
  pub whole : n + length pad ≡ padded n

-- a name stands at an offset of the strings block, with a NUL behind it
pub record Stands (strings : Bytes) (offset : ℕ) (name : Bytes) : Type 0 where
  pub behind : Bytes
  pub here : drop offset strings ≡ name ++ 0 ∷ behind
  pub plain : has_nul name ≡ false

-- properties: each PROP, its value's length, its name's offset, its value and padding; NOPs (4) in between
pub data Props (strings : Bytes) : Bytes → List (Bytes × Bytes) → Type 0 where
  no_props : Props strings [] []
  nop_props : {w r : Bytes} {ps : List (Bytes × Bytes)} → Word 4 w → Props strings r ps → Props strings (w ++ r) ps
  prop : {tag len off pad r name value : Bytes} {offset : ℕ} {ps : List (Bytes × Bytes)} → Word 3 tag → Word (length value) len → Word offset off
      → Stands strings offset name → Pads (length value) pad → Props strings r ps
      → Props strings (tag ++ (len ++ (off ++ (value ++ (pad ++ r))))) ((name, value) ∷ ps)

-- nodes: each BEGIN, its name with NUL and padding, its properties, its children, END_NODE; NOPs in between
pub data Nodes (strings : Bytes) : Bytes → Forest → Type 0 where
  no_nodes : Nodes strings [] empty
  nop_nodes : {w r : Bytes} {f : Forest} → Word 4 w → Nodes strings r f → Nodes strings (w ++ r) f
  a_node : {tag pad a b end r name : Bytes} {props : List (Bytes × Bytes)} {below beside : Forest} → Word 1 tag → has_nul name ≡ false
      → Pads (length name + 1) pad → Props strings a props → Nodes strings b below → Word 2 end → Nodes strings r beside
      → Nodes strings (tag ++ (name ++ (0 ∷ (pad ++ (a ++ (b ++ (end ++ r))))))) (node name props below beside)

-- a structure: one root, then END
pub data Structure (strings : Bytes) : Bytes → Forest → Type 0 where
  a_root : {s end name : Bytes} {props : List (Bytes × Bytes)} {below : Forest} → Nodes strings s (node name props below empty) → Word 9 end
      → Structure strings (s ++ end) (node name props below empty)

-- ---- 01's limits

unfoldable pub size : Forest → ℕ
size empty = 0
size (node name props below beside) = suc (size below + size beside)

-- how many are open at once
unfoldable pub height : Forest → ℕ
height empty = 0
height (node name props below beside) = max (suc (height below)) (height beside)

abbrev pub PropsNamed : List (Bytes × Bytes) → Type 0
PropsNamed [] = Unit {0}
PropsNamed (p ∷ ps) = (property_name_reads p.0 ≡ true) × PropsNamed ps

abbrev pub Named : Forest → Type 0
Named empty = Unit {0}
Named (node name props below beside) = (node_name_reads name ≡ true) × PropsNamed props × Named below × Named beside

-- "one root of empty name"
abbrev pub Rooted : Forest → Type 0
Rooted empty = ⊥
Rooted (node name props below beside) = (length name ≡ 0) × PropsNamed props × Named below

pub record Limits (f : Forest) : Type 0 where
  pub names : Rooted f
  pub deep : height f ≤ open_ceiling
  pub many : size f ≤ node_ceiling

-- ---- what nodes say, and then es

unfoldable pub tell_props : List (Bytes × Bytes) → List Event → List Event
tell_props [] es = es
tell_props (p ∷ ps) es = has_said p.0 p.1 ∷ tell_props ps es

unfoldable pub tell : Forest → List Event → List Event
tell empty es = es
tell (node name props below beside) es = opens 0 name ∷ tell_props props (tell below (closes 0 ∷ tell beside es))
