-- What the list and the marks are, in the work space.
use Rattle.std.specs.Prelude.{◌≡◌, List, ℕ, ◌+◌, ◌≤◌, ◌<◌, length, get_or, take, drop, if◌then◌else◌}
use Rattle.rules.specs.Ceilings.{node_ceiling, work_words}
use Rattle.rules.specs.Blob.{Block}
use Rattle.rules.specs.References.{edition1}
use Rattle.rules.specs.Listing.{listed}
use Rattle.rules.specs.Copy.{copied}
use Rattle.rules.specs.Space.{marks_at, list_at}
use Rattle.rules.specs.Laws.Kept.{Alike}
use Rattle.rules.specs.Laws.Tabled.{tree_in}

pub record Marks (b : Block) (count : ℕ) (conf excl ids : List ℕ) (ws vs : List ℕ) (n : ℕ) : Type 0 where
  pub alike : Alike ws vs
  pub size : length vs ≡ length ws
  pub rest : drop work_words vs ≡ drop work_words ws
  pub short : n ≤ node_ceiling
  pub list : take n (drop list_at vs) ≡ listed edition1 (tree_in b ws count) conf excl
  pub many : n ≡ length (listed edition1 (tree_in b ws count) conf excl)
  pub marks : (i : ℕ) → i < count → get_or vs (marks_at + i) 0 ≡ (if copied edition1 (record { conf = conf; excl = excl; ids = ids }) (tree_in b ws count) i then 1 else 0)
