-- Siblings of one name, by the rows of the node table.
use Rattle.std.specs.Prelude.{◌≡◌, Bool, false, ◌&&◌, ◌||◌, List, [], ◌∷◌, ℕ, zero, suc, ◌+◌, ◌-◌, ◌*◌, ◌≤◌, ◌<◌, eqb, leb, length, get_or, drop, if◌then◌else◌}
use Rattle.rules.specs.Ceilings.{node_words, node_ceiling, work_words}
use Rattle.rules.specs.Octets.{Bytes, byte_at, begins}
use Rattle.rules.specs.Tree.{Tree, node, doubled_props}
use Rattle.rules.specs.Outcome.{Verdict, ◌then◌, first}
use Rattle.rules.specs.Events.{node_name_at}
use Rattle.doubled.specs.Passes.{has_row, props_at}

-- a name stands at the start of `tail` and ends there
unfoldable pub named_at : (name tail : Bytes) → Bool
named_at name tail = begins name tail && eqb (byte_at tail (length name)) 0

unfoldable pub row_named : Bytes → (place : ℕ) → List ℕ → (j parent : ℕ) → Bytes → Bool
row_named s place w j parent name =
    has_row w j
    && (eqb (get_or w (node_words * j + 1) 0) parent
    && (leb place (get_or w (node_words * j) 0)
    && named_at name (drop (get_or w (node_words * j) 0 - place + 4) s)))

-- a node before i has this parent and this name; none does whose row stands before the parent's
unfoldable pub sibling_below : Bytes → (place : ℕ) → List ℕ → (i parent : ℕ) → Bytes → Bool
sibling_below s place w zero parent name = false
sibling_below s place w (suc i) parent name = leb parent i && row_named s place w i parent name || sibling_below s place w i parent name

abbrev pub row_parent : List ℕ → ℕ → ℕ
row_parent w i = if has_row w i then get_or w (node_words * i + 1) 0 else 0

-- node i, whose BEGIN stands at a place: its name, then its properties
abbrev pub node_judged : (s strings : Bytes) (place : ℕ) → List ℕ → (i at len next p : ℕ) → Verdict
node_judged s strings place w i at len next p =
    first (record { fails = sibling_below s place w i (row_parent w i) (node_name_at s at len); number = 10; place = p + at } ∷ [])
    then doubled_props [] (props_at s strings p next)

-- the work space holds the table of the nodes: BEGIN offsets and parents, and zeros behind its rows
pub record Table (w : List ℕ) (t : Tree) : Type 0 where
  pub room : work_words ≤ length w
  pub few : length t ≤ node_ceiling
  pub begin : (i : ℕ) → i < length t → get_or w (node_words * i) 0 ≡ (node t i).place
  pub parent : (i : ℕ) → i < length t → get_or w (node_words * i + 1) 0 ≡ (node t i).parent
  pub clear : (i : ℕ) → node_words * node_ceiling ≤ i → i < work_words → get_or w i 0 ≡ 0
