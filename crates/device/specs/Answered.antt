-- The list from a tree on.
use Rattle.std.specs.Prelude.{◌≡◌, List, ℕ, length, drop, Result}
use Rattle.rules.specs.Ceilings.{work_words}
use Rattle.rules.specs.Octets.{Bytes, put}
use Rattle.rules.specs.Outcome.{Outcome, Verdict, gives, settled, ◌then◌}
use Rattle.rules.specs.Tree.{Tree, frame}
use Rattle.rules.specs.Reader.{tree_read}
use Rattle.rules.specs.References.{edition1}
use Rattle.rules.specs.Derivation.{lists_judged, configured_judged, listed_paths, list_of}
use Rattle.rules.specs.Device.{wanted, Found, list_room_judged}
use Rattle.asked.specs.Judged as lists
use Rattle.device.specs.declared.Refusal.{Refusal}
use Rattle.device.specs.declared.Listed.{Listed}
use Rattle.device.specs.Answers.{meaning, checked}

-- 41 and 42, of a tree
unfoldable pub wanted_judged : Tree → (configured excluded : Bytes) → Verdict
wanted_judged t configured excluded = lists_judged (wanted configured excluded) then configured_judged (frame t) (wanted configured excluded)

-- lists judged: the answer, and, where they pass, the nodes configured
abbrev pub Checks : Tree → (configured excluded : Bytes) → (old new : List ℕ) → Result ℕ Refusal → Type 0
Checks t configured excluded old new r = lists.Checks (frame t) (wanted configured excluded) (wanted_judged t configured excluded) old new (checked r)

-- 41, 42, 45, or the answer
abbrev pub answered : (host configured excluded : Bytes) → (listRoom : ℕ) → Outcome Found
answered host configured excluded listRoom =
    wanted_judged (tree_read host) configured excluded
    then list_room_judged (length (list_of edition1 host (wanted configured excluded))) listRoom
    then gives
    (record {
      paths = length (listed_paths edition1 (tree_read host) (wanted configured excluded));
      list_length = length (list_of edition1 host (wanted configured excluded));
    })

pub record Accepts (host configured excluded : Bytes) (ws vs : List ℕ) (list list' : Bytes) (r : Result Listed Refusal) : Type 0 where
  pub answer : meaning r ≡ answered host configured excluded (length list)
  pub listed : list' ≡ settled (answered host configured excluded (length list)) list (put list 0 (list_of edition1 host (wanted configured excluded)))
  pub size : length vs ≡ length ws
  pub rest : drop work_words vs ≡ drop work_words ws
