-- The parts joined: what the reader says, what is judged, and what is written.
use Rattle.std.specs.Prelude.{Result}
use mathlib.Core.Path.{◌≡◌, refl, sym, ap, ap₂, ◌∙◌}
use mathlib.Core.List.{List}
use Prim.Native.Nat.{ℕ, ◌≤◌}
use native.Mathlib.Omega.{arith}
use lib.ListN.{length, take, length-take}
use Rattle.rules.specs.Ceilings.{entry_ceiling}
use Rattle.rules.specs.Octets.{Bytes, put, lay}
use Rattle.rules.specs.Outcome.{Outcome, passes, gives, settled, ◌then◌}
use Rattle.rules.specs.Blob.{Block, block_in}
use Rattle.rules.specs.Tree.{Tree, frame}
use Rattle.rules.specs.Listing.{paths_bytes}
use Rattle.rules.specs.Reader.{tree_read, blob_judged, space_judged, read, read_work}
use Rattle.rules.specs.References.{edition1}
use Rattle.rules.specs.Derivation.{Request, given, nodes_named, asked, lists_judged, configured_judged, listed_paths, list_of}
use Rattle.rules.specs.Device.{wanted, Found, find, find_list, find_work}
use Rattle.rules.proofs.Laws.Verdicts.{passes_then, then_then, then_gives}
use Rattle.rules.specs.Laws.Host.{HostRead}
use Rattle.rules.proofs.Laws.Host.{kept_in, tree_in_lem, read_refuses, read_passes, space_left}
use Rattle.rules.specs.Laws.Tabled.{tree_in}
use Rattle.order.specs.Starts as start
use Rattle.order.specs.Starts.{asked_by}
use Rattle.asked.proofs.Judged as lists
use Rattle.asked.proofs.Judged.{granted, refused_so}
use Rattle.reader.specs.declared.Refusal.{Refusal as ReaderRefusal}
use Rattle.reader.specs.Answers.{number_of as readerNumber, place_of as readerPlace, refused as read_refused}
use Rattle.device.specs.declared.Refusal.{Refusal}
use Rattle.device.specs.declared.Listed.{Listed}
use Rattle.device.specs.Answers.{number_of, place_of, refused, meaning, checked}
use Rattle.device.specs.Answered.{wanted_judged, Checks, answered, Accepts}
use Rattle.device.specs.Written.{paths_of, roomy, Writes}
use Rattle.device.proofs.Checks.{wanted_so}

-- ---- lists that are judged, of a host that is read

module _ (host : Bytes) (ws : List ℕ) (count : ℕ) (read : HostRead host ws count) (b : Block) (same : b ≡ block_in host) (configured excluded : Bytes) where
  abbrev q : Request
  q = wanted configured excluded

  abbrev t : Tree
  t = tree_in b ws count

  tree_is : t ≡ tree_read host
  tree_is = tree_in_lem host ws count read b same

  judged_is : wanted_judged (tree_read host) configured excluded ≡ wanted_judged t configured excluded
  judged_is = ap (λ (u : Tree). wanted_judged u configured excluded) (sym tree_is)

  module _ (old new : List ℕ) (r : Result ℕ Refusal) (c : Checks t configured excluded old new r) where
    -- refused
    pub accepts_not : (refusal : Refusal) → checked r ≡ refused refusal → (a : Result Listed Refusal) → meaning a ≡ refused refusal → (list : Bytes) → Accepts host configured excluded ws ws list list a
    accepts_not refusal e a f list =
        let v : wanted_judged t configured excluded ≡ refused refusal = refused_so (wanted_so t configured excluded) old new (checked r) c (number_of refusal) (place_of refusal) e in
        let w : wanted_judged (tree_read host) configured excluded ≡ refused refusal = judged_is ∙ v in
        record {
          answer = f ∙ rw w;
          listed = rw w;
          size = refl;
          rest = refl;
        }

    -- passed
    module _ (n : ℕ) (e : checked r ≡ gives n) (room : entry_ceiling ≤ length old) where
      conf-is : take n new ≡ (asked (frame t) q).conf
      conf-is = lists.conf-is (wanted_so t configured excluded) old new (checked r) c n e room

      -- and are no more than the array has
      pub conf-fits : n ≤ length new
      conf-fits = omega (arith, (then_gives (wanted_judged t configured excluded) n _ (sym e ∙ c.answer)).1, ap length conf-is, length-take n new)

      passed : wanted_judged t configured excluded ≡ passes
      passed = lists.passed (wanted_so t configured excluded) old new (checked r) c n e

      pub start-asked : start.Asked b ws count (take n new)
      start-asked = asked_by b ws count q (take n new) (kept_in host ws count read b same) conf-is (granted (wanted_so t configured excluded) passed).1

      module _ (zeroed excl : List ℕ) (m : ℕ) (wide : entry_ceiling ≤ length zeroed) (f : m ≡ length (nodes_named (frame t) (given excluded))) (g : excl ≡ lay zeroed 0 (nodes_named (frame t) (given excluded))) where
        excl-is : take m excl ≡ (asked (frame t) q).excl
        excl-is = lists.excl-is (wanted_so t configured excluded) old new (checked r) c n e zeroed excl m wide f g

        pub excl-fits : m ≤ length excl
        unfolding asked
        excl-fits = omega (arith, f, ap length excl-is, length-take m excl)

        -- what is written is what the host and the lists say
        paths-are : paths_of t (take n new) (take m excl) ≡ listed_paths edition1 (tree_read host) q
        unfolding listed_paths
        paths-are = ap₂ (paths_of t) conf-is excl-is ∙ ap (λ (u : Tree). paths_of u (asked (frame u) q).conf (asked (frame u) q).excl) tree_is

        answered-is : (lr : ℕ) → roomy (paths_of t (take n new) (take m excl)) lr ≡ answered host configured excluded lr
        unfolding list_of
        answered-is lr =
            ap (λ (ps : List Bytes). roomy ps lr) paths-are
            ∙ sym (passes_then (wanted_judged (tree_read host) configured excluded) (roomy (listed_paths edition1 (tree_read host) q) lr) (judged_is ∙ passed))

        pub accepts : (vs : List ℕ) (list list' : Bytes) (a : Result Listed Refusal) → Writes b count (take n new) (take m excl) ws vs list list' a → Accepts host configured excluded ws vs list list' a
        unfolding list_of
        accepts vs list list' a w = record {
          answer = w.answer ∙ answered-is (length list);
          listed = w.listed ∙ ap₂ (λ (o : Outcome Found) (ps : List Bytes). settled o list (put list 0 (paths_bytes ps))) (answered-is (length list)) paths-are;
          size = w.size;
          rest = w.rest;
        }

-- ---- from the reader on

module _ (host configured excluded : Bytes) (work : List ℕ) where
  -- the list is the reader's judgement, and then the rest
  find_is : (lr : ℕ) → find edition1 host configured excluded (length work) lr ≡ (space_judged (length work) then (blob_judged host then answered host configured excluded lr))
  unfolding find wanted_judged
  find_is lr =
      ap (λ (o : Outcome Found). space_judged (length work) then (blob_judged host then o))
      (sym (then_then (lists_judged (wanted configured excluded)) (configured_judged (frame (tree_read host)) (wanted configured excluded)) _))

  -- accepted
  module _ (count : ℕ) (e : gives count ≡ read host (length work)) where
    pub found_is : (lr : ℕ) → find edition1 host configured excluded (length work) lr ≡ answered host configured excluded lr
    found_is lr = find_is lr ∙ read_passes host work count e (answered host configured excluded lr)

    pub found_list : (list list' : Bytes) → list' ≡ settled (answered host configured excluded (length list)) list (put list 0 (list_of edition1 host (wanted configured excluded))) → list' ≡ find_list edition1 host configured excluded (length work) list
    unfolding find_list
    found_list list list' f = f ∙ ap (λ (o : Outcome Found). settled o list (put list 0 (list_of edition1 host (wanted configured excluded)))) (sym (found_is (length list)))

  -- refused, the list stays
  module _ (refusal : ReaderRefusal) (e : read_refused refusal ≡ read host (length work)) where
    not_read : (lr : ℕ) → find edition1 host configured excluded (length work) lr ≡ read_refused refusal
    not_read lr = find_is lr ∙ read_refuses host work (readerNumber refusal) (readerPlace refusal) e (answered host configured excluded lr)

    pub refused_answer : (lr : ℕ) → read_refused {A = Found} refusal ≡ find edition1 host configured excluded (length work) lr
    refused_answer lr = sym (not_read lr)

    pub refused_list : (list : Bytes) → list ≡ find_list edition1 host configured excluded (length work) list
    unfolding find_list
    refused_list list = rw (not_read (length list))

    pub refused_space : read_work host work ≡ find_work work
    refused_space = space_left host work (readerNumber refusal) (readerPlace refusal) e
