-- Both outputs, of a tree and what is asked of it as nodes.
use Rattle.std.specs.Prelude.{◌≡◌, List, map, ℕ, length, drop, Result}
use Rattle.rules.specs.Ceilings.{work_words}
use Rattle.rules.specs.Octets.{Bytes, put}
use Rattle.rules.specs.Outcome.{Outcome, passes, gives, settled, ◌then◌}
use Rattle.rules.specs.Blob.{Block}
use Rattle.rules.specs.Events.{Event, shape_judged, events_in}
use Rattle.rules.specs.Tree.{Tree, path, nodes_of}
use Rattle.rules.specs.References.{edition1}
use Rattle.rules.specs.Listing.{listed, paths_bytes}
use Rattle.rules.specs.Copy.{Asked, guest_bytes}
use Rattle.rules.specs.Derivation.{Derived, room_judged}
use Rattle.rules.specs.Laws.Tabled.{tree_in}
use Rattle.derive.specs.declared.Refusal.{Refusal}
use Rattle.derive.specs.declared.Derived as lent
use Rattle.derive.specs.Answers.{meaning}

-- the table is that of a structure that passes
pub record Whole (b : Block) (ws : List ℕ) (count : ℕ) : Type 0 where
  pub shape : shape_judged b ≡ passes
  pub tree : tree_in b ws count ≡ nodes_of (events_in b)

abbrev pub paths_of : Tree → Asked → List Bytes
paths_of t q = map (path t) (listed edition1 t q.conf q.excl)

abbrev pub list_bytes : Tree → Asked → Bytes
list_bytes t q = paths_bytes (paths_of t q)

abbrev pub copy_bytes : Tree → List Event → Asked → Bytes
copy_bytes t es q = guest_bytes edition1 q t es

-- 45, 46, or the answer
abbrev pub roomy : Tree → List Event → Asked → (listRoom guestRoom : ℕ) → Outcome Derived
roomy t es q listRoom guestRoom =
    room_judged (length (list_bytes t q)) (length (copy_bytes t es q)) listRoom guestRoom
    then gives (record { paths = length (paths_of t q); list_length = length (list_bytes t q); guest_length = length (copy_bytes t es q) })

pub record Writes (b : Block) (count : ℕ) (q : Asked) (ws vs : List ℕ) (list list' guest guest' : Bytes) (r : Result lent.Derived Refusal) : Type 0 where
  pub answer : meaning r ≡ roomy (tree_in b ws count) (events_in b) q (length list) (length guest)
  pub listed : list' ≡ settled (roomy (tree_in b ws count) (events_in b) q (length list) (length guest)) list (put list 0 (list_bytes (tree_in b ws count) q))
  pub copied : guest' ≡ settled (roomy (tree_in b ws count) (events_in b) q (length list) (length guest)) guest (put guest 0 (copy_bytes (tree_in b ws count) (events_in b) q))
  pub size : length vs ≡ length ws
  pub rest : drop work_words vs ≡ drop work_words ws
