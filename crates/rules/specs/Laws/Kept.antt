-- A work space that keeps the node table of an accepted blob, whatever is written behind it: what the functions over the table may
-- count on. What follows from it stands in proofs/Laws/Kept.antt.
use Rattle.std.specs.Prelude.{◌≡◌, List, length, get_or}
use Prim.Native.Nat.{ℕ, ◌≤◌, ◌<◌}
use Rattle.rules.specs.Ceilings.{blob_ceiling, node_ceiling, work_words}
use Rattle.rules.specs.Blob.{Block}
use Rattle.rules.specs.Tree.{node}
use Rattle.rules.specs.References.{lookup}
use Rattle.rules.specs.Space.{table_words}
use Rattle.rules.specs.Laws.Paths.{Formed}
use Rattle.rules.specs.Laws.Tabled.{tree_in, look_in}

-- ---- what is kept

pub record Kept (b : Block) (ws : List ℕ) (count : ℕ) : Type 0 where
  pub formed : Formed (tree_in b ws count)
  pub look : (w : ℕ) → look_in ws count w ≡ lookup (tree_in b ws count) w
  pub top : (node (tree_in b ws count) 0).parent ≡ 0
  pub few : count ≤ node_ceiling
  pub some : 0 < count
  pub small : length b.structure ≤ blob_ceiling
  pub brief : length b.strings ≤ blob_ceiling
  pub room : work_words ≤ length ws

-- the same table
abbrev pub Alike : (ws vs : List ℕ) → Type 0
Alike ws vs = (i : ℕ) → i < table_words → get_or vs i 0 ≡ get_or ws i 0

-- ---- only the words from lo up to hi may differ

pub record Only (lo hi : ℕ) (ws vs : List ℕ) : Type 0 where
  pub size : length vs ≡ length ws
  pub before : (i : ℕ) → i < lo → get_or vs i 0 ≡ get_or ws i 0
  pub behind : (i : ℕ) → hi ≤ i → get_or vs i 0 ≡ get_or ws i 0
