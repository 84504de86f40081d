-- The derivation from a tree on.
use Rattle.std.specs.Prelude.{◌≡◌, List, ℕ, length, drop, Result}
use Rattle.rules.specs.Ceilings.{work_words}
use Rattle.rules.specs.Octets.{Bytes, put}
use Rattle.rules.specs.Outcome.{Outcome, gives, settled, ◌then◌}
use Rattle.rules.specs.Tree.{Tree, frame}
use Rattle.rules.specs.Reader.{tree_read}
use Rattle.rules.specs.References.{edition1}
use Rattle.rules.specs.Derivation.{Request, Derived, request_judged, room_judged, listed_paths, list_of, guest_of}
use Rattle.asked.specs.Judged as lists
use Rattle.derive.specs.declared.Refusal.{Refusal}
use Rattle.derive.specs.declared.Derived as lent
use Rattle.derive.specs.Answers.{meaning, checked}

-- a request judged: the answer, and, where it passes, the nodes configured
abbrev pub Checks : Tree → Request → (old new : List ℕ) → Result ℕ Refusal → Type 0
Checks t q old new r = lists.Checks (frame t) q (request_judged t q) old new (checked r)

-- 41 to 46, or the answer
abbrev pub answered : (host : Bytes) → Request → (listRoom guestRoom : ℕ) → Outcome Derived
answered host q listRoom guestRoom =
    request_judged (tree_read host) q
    then room_judged (length (list_of edition1 host q)) (length (guest_of edition1 host q)) listRoom guestRoom
    then gives
    (record {
      paths = length (listed_paths edition1 (tree_read host) q);
      list_length = length (list_of edition1 host q);
      guest_length = length (guest_of edition1 host q);
    })

pub record Accepts (host : Bytes) (q : Request) (ws vs : List ℕ) (list list' guest guest' : Bytes) (r : Result lent.Derived Refusal) : Type 0 where
  pub answer : meaning r ≡ answered host q (length list) (length guest)
  pub listed : list' ≡ settled (answered host q (length list) (length guest)) list (put list 0 (list_of edition1 host q))
  pub copied : guest' ≡ settled (answered host q (length list) (length guest)) guest (put guest 0 (guest_of edition1 host q))
  pub size : length vs ≡ length ws
  pub rest : drop work_words vs ≡ drop work_words ws
