-- The list, of a tree and what is asked of it as nodes.
use Rattle.std.specs.Prelude.{◌≡◌, List, map, ℕ, length, drop, Result}
use Rattle.rules.specs.Ceilings.{work_words}
use Rattle.rules.specs.Octets.{Bytes, put}
use Rattle.rules.specs.Outcome.{Outcome, gives, settled, ◌then◌}
use Rattle.rules.specs.Blob.{Block}
use Rattle.rules.specs.Tree.{Tree, path}
use Rattle.rules.specs.References.{edition1}
use Rattle.rules.specs.Listing.{listed, paths_bytes}
use Rattle.rules.specs.Device.{Found, list_room_judged}
use Rattle.rules.specs.Laws.Tabled.{tree_in}
use Rattle.device.specs.declared.Refusal.{Refusal}
use Rattle.device.specs.declared.Listed.{Listed}
use Rattle.device.specs.Answers.{meaning}

abbrev pub paths_of : Tree → (conf excl : List ℕ) → List Bytes
paths_of t conf excl = map (path t) (listed edition1 t conf excl)

-- 45, or the answer
abbrev pub roomy : List Bytes → (listRoom : ℕ) → Outcome Found
roomy paths listRoom =
    list_room_judged (length (paths_bytes paths)) listRoom then gives (record { paths = length paths; list_length = length (paths_bytes paths) })

pub record Writes (b : Block) (count : ℕ) (conf excl : List ℕ) (ws vs : List ℕ) (list list' : Bytes) (r : Result Listed Refusal) : Type 0 where
  pub answer : meaning r ≡ roomy (paths_of (tree_in b ws count) conf excl) (length list)
  pub listed : list' ≡ settled (roomy (paths_of (tree_in b ws count) conf excl) (length list)) list (put list 0 (paths_bytes (paths_of (tree_in b ws count) conf excl)))
  pub size : length vs ≡ length ws
  pub rest : drop work_words vs ≡ drop work_words ws
