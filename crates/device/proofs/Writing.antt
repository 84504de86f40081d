-- The list, measured and written.
use Rattle.std.specs.Prelude.{Result}
use mathlib.Core.Path.{◌≡◌, sym, ap, ap₂, ◌∙◌}
use mathlib.Core.List.{List, map}
use Prim.Native.Nat.{ℕ, ◌≤◌, ◌<◌}
use native.Mathlib.Omega.{arith}
use lib.ListN.{length, length-map}
use Rattle.rules.specs.Ceilings.{work_words}
use Rattle.rules.specs.Octets.{Bytes, lay}
use Rattle.rules.specs.Outcome.{gives, refuses, passes}
use Rattle.rules.specs.Blob.{Block}
use Rattle.rules.specs.Tree.{Tree, path}
use Rattle.rules.specs.References.{edition1}
use Rattle.rules.specs.Listing.{listed, paths_bytes}
use Rattle.rules.specs.Device.{list_room_judged}
use Rattle.rules.proofs.Laws.Octets.{lay_put}
use Rattle.rules.proofs.Laws.Kept.{tree_alike, only_drop}
use Rattle.rules.specs.Laws.Tabled.{tree_in}
use Rattle.rules.proofs.Laws.Device.{list_short, list_fits}
use Rattle.order.specs.Starts.{Asked}
use Rattle.listing.specs.Lists.{Lists}
use Rattle.spelled.specs.Lists.{list_bytes}
use Rattle.device.specs.declared.Refusal.{Refusal}
use Rattle.device.specs.declared.Listed.{Listed}
use Rattle.device.specs.Answers.{meaning}
use Rattle.device.specs.Written.{paths_of, Writes}

module _ (b : Block) (count : ℕ) (conf excl ws : List ℕ) (a : Asked b ws count conf) (vs : List ℕ) (n : ℕ) (l : Lists b ws count conf excl vs n) where
  abbrev t : Tree
  t = tree_in b ws count

  abbrev ps : List Bytes
  ps = paths_of t conf excl

  bytes_are : list_bytes (tree_in b vs count) vs n ≡ paths_bytes ps
  bytes_are = ap₂ (λ (s : Tree) (z : List ℕ). paths_bytes (map (path s) z)) (tree_alike b ws vs count a.kept.few l.apart.before) l.list

  length_paths : n ≡ length ps
  length_paths = l.many ∙ sym (length-map (listed edition1 t conf excl) (path t))

  module _ (needed : ℕ) (m : needed ≡ length (list_bytes (tree_in b vs count) vs n)) (list : Bytes) where
    length_list : needed ≡ length (paths_bytes ps)
    length_list = m ∙ ap length bytes_are

    pub writes_45 : length list < needed → (r : Result Listed Refusal) → meaning r ≡ refuses 45 needed → Writes b count conf excl ws vs list list r
    writes_45 h r f =
        let e : list_room_judged (length (paths_bytes ps)) (length list) ≡ refuses 45 needed = rw (← length_list) (list_short needed (length list) h) in
        record {
          answer = f ∙ rw e;
          listed = rw e;
          size = l.apart.size;
          rest = only_drop work_words (omega arith) l.apart;
        }

    pub writes_list : needed ≤ length list → (list' : Bytes) → list' ≡ lay list 0 (list_bytes (tree_in b vs count) vs n) → (r : Result Listed Refusal) → meaning r ≡ gives (record { paths = n; list_length = needed }) → Writes b count conf excl ws vs list list' r
    writes_list h list' p r f =
        let e : list_room_judged (length (paths_bytes ps)) (length list) ≡ passes = rw (← length_list) (list_fits needed (length list) h) in
        record {
          answer = f ∙ rw (e, ← length_list, ← length_paths);
          listed = p ∙ ap (lay list 0) bytes_are ∙ lay_put list 0 (paths_bytes ps) (omega (arith, length_list)) ∙ rw e;
          size = l.apart.size;
          rest = only_drop work_words (omega arith) l.apart;
        }
