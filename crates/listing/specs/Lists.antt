-- What is answered: the list stands in the work space, the node table is kept, and what is behind the work space's words stays.
use Rattle.std.specs.Prelude.{◌≡◌, List, ℕ, ◌≤◌, length, take, drop}
use Rattle.rules.specs.Ceilings.{node_ceiling}
use Rattle.rules.specs.Blob.{Block}
use Rattle.rules.specs.References.{edition1}
use Rattle.rules.specs.Listing.{reached_list, listed}
use Rattle.rules.specs.Space.{list_at}
use Rattle.rules.specs.Laws.Tabled.{tree_in}
use Rattle.listing.specs.State.{Apart}

-- m nodes l, and they stand in the list
pub record Stands (ws l vs : List ℕ) (m : ℕ) : Type 0 where
  pub apart : Apart ws vs
  pub short : m ≤ node_ceiling
  pub many : m ≡ length l
  pub list : take m (drop list_at vs) ≡ l

abbrev pub Reaches : Block → List ℕ → (count : ℕ) (conf vs : List ℕ) → ℕ → Type 0
Reaches b ws count conf vs m = Stands ws (reached_list edition1 (tree_in b ws count) conf) vs m

abbrev pub Lists : Block → List ℕ → (count : ℕ) (conf excl vs : List ℕ) → ℕ → Type 0
Lists b ws count conf excl vs m = Stands ws (listed edition1 (tree_in b ws count) conf excl) vs m
