-- 01, "References and the list", asked for alone: the list without a guest, its refusals 40, 1 to 12, 41, 42 and 45 in their order
-- with their places, the list's buffer and the work space at return. Every part is the derivation's.
use Rattle.std.specs.Prelude.{List, [], ℕ, length}
use Rattle.rules.specs.Octets.{Bytes, put}
use Rattle.rules.specs.Outcome.{Outcome, Verdict, gives, settled, ◌then◌}
use Rattle.rules.specs.Tree.{frame}
use Rattle.rules.specs.Reader.{tree_read, blob_judged, space_judged}
use Rattle.rules.specs.References.{Rules}
use Rattle.rules.specs.Derivation.{Request, lists_judged, configured_judged, listed_paths, list_of, room_judged, derive_work}

-- what is lent: the two path lists. No ids are given, so that neither 43 nor 44 is asked.
abbrev pub wanted : (configured excluded : Bytes) → Request
wanted configured excluded = record { configured = configured; excluded = excluded; ids = [] }

-- how many paths are listed, and the bytes of the list
pub record Found : Type 0 where
  pub paths : ℕ
  pub list_length : ℕ

-- 45 alone: a guest of no bytes has room wherever it is put
abbrev pub list_room_judged : (needed room : ℕ) → Verdict
list_room_judged needed room = room_judged needed 0 room 0

-- "Order as tabled": 40, 1 to 12, 41, 42, 45
unfoldable pub find : Rules → (host configured excluded : Bytes) → (words listRoom : ℕ) → Outcome Found
find r host configured excluded words listRoom =
    space_judged words
    then blob_judged host
    then lists_judged (wanted configured excluded)
    then configured_judged (frame (tree_read host)) (wanted configured excluded)
    then list_room_judged (length (list_of r host (wanted configured excluded))) listRoom
    then gives
    (record {
      paths = length (listed_paths r (tree_read host) (wanted configured excluded));
      list_length = length (list_of r host (wanted configured excluded));
    })

-- the list at the front of its buffer; bytes past its length stay, and a refusal leaves them as they were
unfoldable pub find_list : Rules → (host configured excluded : Bytes) → (words : ℕ) → (list : Bytes) → Bytes
find_list r host configured excluded words list =
    settled (find r host configured excluded words (length list)) list (put list 0 (list_of r host (wanted configured excluded)))

-- the work space, as the derivation leaves it
abbrev pub find_work : (work : List ℕ) → List ℕ
find_work work = derive_work work
