-- The parts joined: what the reader says, what is judged, and what is written.
use Rattle.std.specs.Prelude.{Result}
use mathlib.Core.Path.{◌≡◌, refl, sym, ap, ap₂, ◌∙◌}
use mathlib.Core.List.{List}
use Prim.Native.Nat.{ℕ, ◌≤◌}
use native.Mathlib.Omega.{arith}
use lib.ListN.{length, take, length-take}
use Rattle.rules.specs.Ceilings.{entry_ceiling}
use Rattle.rules.specs.Octets.{Bytes, put, lay}
use Rattle.rules.specs.Outcome.{Outcome, passes, gives, settled, ◌then◌}
use Rattle.rules.specs.Blob.{Block, block_in}
use Rattle.rules.specs.Events.{shape_judged, events_in}
use Rattle.rules.specs.Tree.{Tree, frame, nodes_of}
use Rattle.rules.specs.Copy.{Asked as AskedFor}
use Rattle.rules.specs.Reader.{events_read, tree_read, blob_judged, space_judged, read, read_work}
use Rattle.rules.specs.References.{edition1}
use Rattle.rules.specs.Derivation.{Request, Derived, given, nodes_named, asked, request_judged, listed_paths, list_of, guest_of, derive, derive_list, derive_guest, derive_work}
use Rattle.rules.proofs.Laws.Verdicts.{passes_then, then_gives}
use Rattle.rules.proofs.Laws.Formed.{accepted}
use Rattle.rules.specs.Laws.Host.{HostRead}
use Rattle.rules.proofs.Laws.Host.{kept_in, tree_in_lem, read_refuses, read_passes, space_left}
use Rattle.rules.specs.Laws.Tabled.{tree_in}
use Rattle.order.specs.Starts as start
use Rattle.order.specs.Starts.{asked_by}
use Rattle.asked.proofs.Judged as lists
use Rattle.asked.proofs.Judged.{granted, refused_so}
use Rattle.reader.specs.declared.Refusal.{Refusal as ReaderRefusal}
use Rattle.reader.specs.Answers.{number_of as readerNumber, place_of as readerPlace, refused as read_refused}
use Rattle.derive.specs.declared.Refusal.{Refusal}
use Rattle.derive.specs.declared.Derived as lent
use Rattle.derive.specs.Answers.{number_of, place_of, refused, meaning, checked}
use Rattle.derive.specs.Answered.{Checks, answered, Accepts}
use Rattle.derive.proofs.Checks.{request_so}
use Rattle.derive.specs.Written.{Whole, list_bytes, copy_bytes, roomy, Writes}

-- ---- a request that is judged, of a host that is read

module _ (host : Bytes) (ws : List ℕ) (count : ℕ) (read : HostRead host ws count) (b : Block) (same : b ≡ block_in host) (q : Request) where
  tree_is : tree_in b ws count ≡ tree_read host
  tree_is = tree_in_lem host ws count read b same

  pub whole : Whole b ws count
  unfolding tree_read events_read
  whole = record {
    shape = ap shape_judged same ∙ (accepted host read.accepted).shape;
    tree = tree_is ∙ ap (λ (c : Block). nodes_of (events_in c)) (sym same);
  }

  abbrev t : Tree
  t = tree_in b ws count

  module _ (old new : List ℕ) (r : Result ℕ Refusal) (c : Checks t q old new r) where
    -- refused
    pub accepts_not : (refusal : Refusal) → checked r ≡ refused refusal → (a : Result lent.Derived Refusal) → meaning a ≡ refused refusal → (list guest : Bytes) → Accepts host q ws ws list list guest guest a
    accepts_not refusal e a f list guest =
        let v : request_judged t q ≡ refused refusal = refused_so (request_so t q) old new (checked r) c (number_of refusal) (place_of refusal) e in
        let w : request_judged (tree_read host) q ≡ refused refusal = ap (λ (u : Tree). request_judged u q) (sym tree_is) ∙ v in
        record {
          answer = f ∙ rw w;
          listed = rw w;
          copied = rw w;
          size = refl;
          rest = refl;
        }

    -- passed
    module _ (n : ℕ) (e : checked r ≡ gives n) (room : entry_ceiling ≤ length old) where
      conf-is : take n new ≡ (asked (frame t) q).conf
      conf-is = lists.conf-is (request_so t q) old new (checked r) c n e room

      -- and are no more than the array has
      pub conf-fits : n ≤ length new
      conf-fits = omega (arith, (then_gives (request_judged t q) n _ (sym e ∙ c.answer)).1, ap length conf-is, length-take n new)

      passed : request_judged t q ≡ passes
      passed = lists.passed (request_so t q) old new (checked r) c n e

      pub start-asked : start.Asked b ws count (take n new)
      start-asked = asked_by b ws count q (take n new) (kept_in host ws count read b same) conf-is (granted (request_so t q) passed).1

      module _ (zeroed excl : List ℕ) (m : ℕ) (wide : entry_ceiling ≤ length zeroed) (f : m ≡ length (nodes_named (frame t) (given q.excluded))) (g : excl ≡ lay zeroed 0 (nodes_named (frame t) (given q.excluded))) where
        excl-is : take m excl ≡ (asked (frame t) q).excl
        excl-is = lists.excl-is (request_so t q) old new (checked r) c n e zeroed excl m wide f g

        pub excl-fits : m ≤ length excl
        unfolding asked
        excl-fits = omega (arith, f, ap length excl-is, length-take m excl)

        asked_is : record { conf = take n new; excl = take m excl; ids = q.ids } ≡ asked (frame t) q
        unfolding asked
        asked_is = rw (conf-is, excl-is)

        -- what is written is what the host and the request say
        roomy-is : (lr gr : ℕ) → roomy t (events_in b) (record { conf = take n new; excl = take m excl; ids = q.ids }) lr gr ≡ answered host q lr gr
        unfolding list_of guest_of listed_paths events_read
        roomy-is lr gr =
            ap (λ (z : AskedFor). roomy t (events_in b) z lr gr) asked_is
            ∙ sym (passes_then (request_judged t q) (roomy t (events_in b) (asked (frame t) q) lr gr) passed)
            ∙ ap₂ (λ (u : Tree) (c : Block). request_judged u q then roomy u (events_in c) (asked (frame u) q) lr gr) tree_is same

        list-bytes : list_bytes t (record { conf = take n new; excl = take m excl; ids = q.ids }) ≡ list_of edition1 host q
        unfolding list_of listed_paths
        list-bytes = ap (list_bytes t) asked_is ∙ ap (λ (u : Tree). list_bytes u (asked (frame u) q)) tree_is

        copy-bytes : copy_bytes t (events_in b) (record { conf = take n new; excl = take m excl; ids = q.ids }) ≡ guest_of edition1 host q
        unfolding guest_of events_read
        copy-bytes = ap (copy_bytes t (events_in b)) asked_is ∙ ap₂ (λ (u : Tree) (c : Block). copy_bytes u (events_in c) (asked (frame u) q)) tree_is same

        pub accepts : (vs : List ℕ) (list list' guest guest' : Bytes) (a : Result lent.Derived Refusal) → Writes b count (record { conf = take n new; excl = take m excl; ids = q.ids }) ws vs list list' guest guest' a → Accepts host q ws vs list list' guest guest' a
        accepts vs list list' guest guest' a w = record {
          answer = w.answer ∙ roomy-is (length list) (length guest);
          listed = w.listed ∙ ap₂ (λ (o : Outcome Derived) (l : Bytes). settled o list (put list 0 l)) (roomy-is (length list) (length guest)) list-bytes;
          copied = w.copied ∙ ap₂ (λ (o : Outcome Derived) (g : Bytes). settled o guest (put guest 0 g)) (roomy-is (length list) (length guest)) copy-bytes;
          size = w.size;
          rest = w.rest;
        }

-- ---- from the reader on

module _ (host : Bytes) (q : Request) (work : List ℕ) where
  -- the derivation is the reader's judgement, and then the rest
  derive_is : (lr gr : ℕ) → derive edition1 host q (length work) lr gr ≡ (space_judged (length work) then (blob_judged host then answered host q lr gr))
  unfolding derive
  derive_is lr gr = refl

  -- accepted
  module _ (count : ℕ) (e : gives count ≡ read host (length work)) where
    pub derived_is : (lr gr : ℕ) → derive edition1 host q (length work) lr gr ≡ answered host q lr gr
    derived_is lr gr = derive_is lr gr ∙ read_passes host work count e (answered host q lr gr)

    pub derived_list : (list guest list' : Bytes) → list' ≡ settled (answered host q (length list) (length guest)) list (put list 0 (list_of edition1 host q)) → list' ≡ derive_list edition1 host q (length work) (length guest) list
    unfolding derive_list
    derived_list list guest list' f = f ∙ ap (λ (o : Outcome Derived). settled o list (put list 0 (list_of edition1 host q))) (sym (derived_is (length list) (length guest)))

    pub derived_guest : (list guest guest' : Bytes) → guest' ≡ settled (answered host q (length list) (length guest)) guest (put guest 0 (guest_of edition1 host q)) → guest' ≡ derive_guest edition1 host q (length work) (length list) guest
    unfolding derive_guest
    derived_guest list guest guest' f = f ∙ ap (λ (o : Outcome Derived). settled o guest (put guest 0 (guest_of edition1 host q))) (sym (derived_is (length list) (length guest)))

  -- refused, the outputs stay
  module _ (refusal : ReaderRefusal) (e : read_refused refusal ≡ read host (length work)) where
    not_read : (lr gr : ℕ) → derive edition1 host q (length work) lr gr ≡ read_refused refusal
    not_read lr gr = derive_is lr gr ∙ read_refuses host work (readerNumber refusal) (readerPlace refusal) e (answered host q lr gr)

    pub refused_answer : (lr gr : ℕ) → read_refused {A = Derived} refusal ≡ derive edition1 host q (length work) lr gr
    refused_answer lr gr = sym (not_read lr gr)

    pub refused_list : (list : Bytes) (gr : ℕ) → list ≡ derive_list edition1 host q (length work) gr list
    unfolding derive_list
    refused_list list gr = rw (not_read (length list) gr)

    pub refused_guest : (guest : Bytes) (lr : ℕ) → guest ≡ derive_guest edition1 host q (length work) lr guest
    unfolding derive_guest
    refused_guest guest lr = rw (not_read lr (length guest))

    pub refused_space : read_work host work ≡ derive_work work
    refused_space = space_left host work (readerNumber refusal) (readerPlace refusal) e
