-- Demand 3: change the withheld value bytes at will, and answer, list, guest, refusal and place stay identical. Nothing is asked of
-- the other blob but that it agrees; it is accepted too, and the same bytes of it are withheld.
use Rattle.std.specs.Prelude.{◌≡◌, ◌⊎◌, Bool, ◌&&◌, length, get_or}
use Rattle.std.proofs.Math.Path.{refl, ap, ap₂}
use Rattle.std.proofs.Common.{sym, ◌∙◌, subst}
use Rattle.std.proofs.Math.Logic.{inl, inr}
use Rattle.std.proofs.Math.Bool.{true}
use mathlib.Core.List.{List, [], ◌∷◌, map}
use Prim.Native.Nat.{ℕ, zero, suc, ◌+◌}
use native.Mathlib.Omega.{arith}
use Rattle.rules.specs.Ceilings.{program_ceiling, work_words}
use Rattle.rules.specs.Octets.{Bytes}
use Rattle.rules.specs.Lists.{any}
use Rattle.rules.specs.Outcome.{Outcome, gives, refuses, passes}
use Rattle.rules.specs.Events.{Property, Event, opens, has, closes}
use Rattle.rules.specs.Tree.{Tree, node, path, props_of, nodes_from, nodes_of, top, Frame, frame, numbers, numbers_from}
use Rattle.rules.specs.Reader.{events_read, tree_read, blob_judged}
use Rattle.rules.specs.References.{Rules}
use Rattle.rules.specs.Listing.{listed, paths_bytes}
use Rattle.rules.specs.Written.{blob_of}
use Rattle.rules.specs.Copy.{Asked, copied, sieve, guest_events, guest_bytes}
use Rattle.rules.specs.Derivation.{Request, Derived, asked, configured_judged, cpus_judged, ids_from, request_judged, listed_paths, list_of, guest_of, derive, derive_list, derive_guest}
use Rattle.rules.specs.Program.{request_in, host_judged, program_outcome, printed, program}
use Rattle.rules.specs.Withheld.{hidden, in_value, hidden_in, withheld, Agree}
use Rattle.rules.specs.Demands.{CellsRead, NothingLeaksAnywhere, Granted}
use Rattle.rules.proofs.Laws.Tests.{by_test, never, and_true, or_cases}
use Rattle.rules.proofs.Laws.Lists.{any_yes, any_same}
use Rattle.rules.proofs.Laws.Formed.{accepted, accepting, read_formed, conf_distinct, conf_small}
use Rattle.rules.proofs.Laws.Secrecy.Alike.{Alike, ended, paired, AlikeTree, Veiled, veiled_tree, sieve_same, doubled_same, words_judged_same, shared_same}
use Rattle.rules.proofs.Laws.Secrecy.Tokens.{Hidden, Open}
use Rattle.rules.proofs.Laws.Secrecy.Answers.{frame_same, open_read, open_copied, listed_same, copied_same, cpus_judged_same, ids_from_same, hidden_same}
use Rattle.rules.proofs.Laws.Blob.{Inside, header_inside}
use Rattle.rules.proofs.Laws.Secrecy.Blob.{header_judged_same, shape_same, events_same}

-- ---- a withheld byte is a byte of a hidden value

module _ (S : ℕ → Bytes → Bool) (x : ℕ) where
  hidden_props : (es : List Event) (stack : List ℕ) (next : ℕ) → hidden_in (S (top stack)) x (props_of es) ≡ true → Hidden S x stack next es
  unfolding props_of hidden_in
  hidden_props [] stack next h = never true refl (sym h)
  hidden_props (opens place name ∷ es) stack next h = never true refl (sym h)
  hidden_props (closes place ∷ es) stack next h = never true refl (sym h)
  hidden_props (has p ∷ es) stack next h = elim (or_cases (S (top stack) p.name && in_value p x) (hidden_in (S (top stack)) x (props_of es)) h) [
    | inl e ↦ let k = and_true (S (top stack) p.name) (in_value p x) e in inl (k.1, k.0)
    | inr e ↦ inr (hidden_props es stack next e)
  ]

  hidden_nodes : (es : List Event) (stack : List ℕ) (next j i : ℕ) → next + j ≡ i → hidden_in (S i) x (node (nodes_from stack next es) j).props ≡ true
      → Hidden S x stack next es
  unfolding nodes_from hidden_in
  hidden_nodes [] stack next j i e h = never true refl (sym h)
  hidden_nodes (opens place name ∷ es) stack next zero i e h =
      let k : i ≡ next = omega arith in
      hidden_props es (next ∷ stack) (suc next) (subst (λ (z : ℕ). hidden_in (S z) x (props_of es) ≡ true) k h)
  hidden_nodes (opens place name ∷ es) stack next (suc j) i e h = hidden_nodes es (next ∷ stack) (suc next) j i (omega arith) h
  hidden_nodes (has p ∷ es) stack next j i e h = inr (hidden_nodes es stack next j i e h)
  hidden_nodes (closes place ∷ es) stack next j i e h = hidden_nodes es _ next j i e h

hidden_in_same : {O : Bytes → Type 0} (f g : Bytes → Bool) (x : ℕ) → ((n : Bytes) → f n ≡ g n) → {ps qs : List Property} → Alike O ps qs
    → hidden_in f x ps ≡ hidden_in g x qs
unfolding hidden_in in_value
hidden_in_same f g x h ended = refl
hidden_in_same f g x h (paired {p = p} {q = q} a more) = rw (hidden_in_same f g x h more, h p.name, a.name, a.place, a.size)

module _ (r : Rules) (cells : CellsRead r) (host other : Bytes) (q : Request) (read : blob_judged host ≡ passes)
    (conf : configured_judged (frame (tree_read host)) q ≡ passes) (g : Agree r q host other) where
  abbrev t : Tree
  t = tree_read host

  abbrev u : Tree
  u = tree_read other

  abbrev a : Asked
  a = asked (frame t) q

  abbrev S : ℕ → Bytes → Bool
  S = hidden r a t

  agree : (x : ℕ) → (get_or host x 0 ≡ get_or other x 0) ⊎ Hidden S x [] 0 (events_read host)
  unfolding withheld tree_read nodes_of
  agree x = by_test (withheld r host q x)
      (λ e. let k = any_yes (λ (i : ℕ). hidden_in (S i) x (node t i).props) (numbers (frame t)) e in
      inr (hidden_nodes S x (events_read host) [] 0 k.0 k.0 (omega arith) k.2))
      (λ e. inl (g.bytes x e))

  laid : Inside host
  laid = header_inside host (accepted host read).header

  veil : Veiled (Open S) [] 0 (events_read host) (events_read other)
  veil = events_same S host other g.size laid agree

  trees : AlikeTree (Open S) t u
  unfolding tree_read
  trees = veiled_tree (λ i n p. open_read r a t i n p) veil

  -- the other blob is accepted
  pub other_read : blob_judged other ≡ passes
  other_read =
      let k = accepted host read in
      accepting other
      (record {
        header = sym (header_judged_same S host other g.size laid agree) ∙ k.header;
        shape = sym (shape_same S host other g.size laid agree) ∙ k.shape;
        doubled = sym (doubled_same trees.twins) ∙ k.doubled;
        words = sym (words_judged_same trees.twins) ∙ k.words;
        shared = sym (shared_same trees.twins) ∙ k.shared;
      })

  same_frame : frame t ≡ frame u
  same_frame = frame_same (Open S) t u trees

  asked_same : asked (frame t) q ≡ asked (frame u) q
  asked_same = ap (λ (f : Frame). asked f q) same_frame

  pub configured_same : configured_judged (frame u) q ≡ passes
  configured_same = ap (λ (f : Frame). configured_judged f q) (sym same_frame) ∙ conf

  -- 41 to 44 judge alike
  request_same : request_judged t q ≡ request_judged u q
  unfolding request_judged asked
  request_same =
      let c : cpus_judged t q.ids ≡ cpus_judged u q.ids =
      cpus_judged_same r cells a t u (read_formed host read) (conf_distinct (frame t) q conf) (conf_small (frame t) q) trees in
      let i : ids_from t 0 q.ids ≡ ids_from u 0 q.ids =
      ids_from_same r cells a t u (read_formed host read) (conf_distinct (frame t) q conf) (conf_small (frame t) q) trees 0 q.ids in
      let f : configured_judged (frame t) q ≡ configured_judged (frame u) q = ap (λ (f : Frame). configured_judged f q) same_frame in
      rw (f, c, i)

  one_list : listed r t a.conf a.excl ≡ listed r u a.conf a.excl
  one_list = listed_same r cells a t u (read_formed host read) (conf_distinct (frame t) q conf) (conf_small (frame t) q) trees

  one_copy : copied r a t ≡ copied r a u
  one_copy = copied_same r cells a t u (read_formed host read) (conf_distinct (frame t) q conf) (conf_small (frame t) q) trees

  pub paths_same : listed_paths r t q ≡ listed_paths r u q
  unfolding listed_paths
  paths_same =
      ap₂ (λ (f : Frame) (l : List ℕ). map f.path l) same_frame one_list
      ∙ ap (λ (b : Asked). map (path u) (listed r u b.conf b.excl)) asked_same

  pub list_same : list_of r host q ≡ list_of r other q
  unfolding list_of
  list_same = ap paths_bytes paths_same

  guest_events_same : guest_events r a t (events_read host) ≡ guest_events r (asked (frame u) q) u (events_read other)
  unfolding guest_events
  guest_events_same =
      sieve_same (copied r a t) (λ i n e. open_copied r a t i n e) veil
      ∙ ap (λ (k : ℕ → Bool). sieve k [] 0 (events_read other)) (one_copy ∙ ap (λ (b : Asked). copied r b u) asked_same)

  pub guest_same : guest_of r host q ≡ guest_of r other q
  unfolding guest_of guest_bytes
  guest_same = ap (blob_of [] 0) guest_events_same

  -- ONE ANSWER
  pub derive_same : (words listRoom guestRoom : ℕ) → derive r host q words listRoom guestRoom ≡ derive r other q words listRoom guestRoom
  unfolding derive
  derive_same words listRoom guestRoom = rw (read, other_read, request_same, list_same, guest_same, paths_same)

  -- THE SAME BYTES ARE WITHHELD
  hidden_each : (i : ℕ) (n : Bytes) → S i n ≡ hidden r (asked (frame u) q) u i n
  hidden_each i n =
      hidden_same r cells a t u (read_formed host read) (conf_distinct (frame t) q conf) (conf_small (frame t) q) trees i n
      ∙ ap (λ (b : Asked). hidden r b u i n) asked_same

  pub withheld_same : (x : ℕ) → withheld r host q x ≡ withheld r other q x
  unfolding withheld
  withheld_same x =
      any_same (λ (i : ℕ). hidden_in (S i) x (node t i).props) (λ (i : ℕ). hidden_in (hidden r (asked (frame u) q) u i) x (node u i).props)
      (numbers_from 0 (length t)) (λ i m. hidden_in_same (S i) (hidden r (asked (frame u) q) u i) x (hidden_each i) (trees.each i).props)
      ∙ ap (λ (n : ℕ). any (λ (i : ℕ). hidden_in (hidden r (asked (frame u) q) u i) x (node u i).props) (numbers_from 0 n)) trees.size

  -- AND THE OTHER IS GRANTED
  pub other_granted : Granted host q → Granted other q
  other_granted h = record { read = other_read; request = sym request_same ∙ h.request }

  -- so that host and other may change places
  pub agree_back : Agree r q other host
  agree_back = record { size = sym g.size; bytes = λ x e. sym (g.bytes x (withheld_same x ∙ e)) }

printed_same : (r : Rules) (host other input : Bytes) → listed_paths r (tree_read host) (request_in input) ≡ listed_paths r (tree_read other) (request_in input)
    → guest_of r host (request_in input) ≡ guest_of r other (request_in input) → (o : Outcome Derived) → printed r host input o ≡ printed r other input o
printed_same r host other input e f (gives d) = rw (e, f)
printed_same r host other input e f (refuses number place) = refl

pub nothing_leaks : NothingLeaksAnywhere
unfolding derive_list derive_guest
nothing_leaks r cells host other q words list guest read lists conf g = (
  derive_same r cells host other q read conf g words (length list) (length guest),
  rw (derive_same r cells host other q read conf g words (length list) (length guest), list_same r cells host other q read conf g),
  rw (derive_same r cells host other q read conf g words (length list) (length guest), guest_same r cells host other q read conf g),
  other_granted r cells host other q read conf g,
)

-- nor does the program print or write anything else
pub program_same : (r : Rules) → CellsRead r → (host other input : Bytes) → blob_judged host ≡ passes
    → configured_judged (frame (tree_read host)) (request_in input) ≡ passes → Agree r (request_in input) host other
    → program r host input ≡ program r other input
unfolding program program_outcome host_judged
program_same r cells host other input read conf g =
    let q : Request = request_in input in
    let o : program_outcome r host input ≡ program_outcome r other input =
    rw (g.size, derive_same r cells host other q read conf g work_words program_ceiling program_ceiling) in
    printed_same r host other input (paths_same r cells host other q read conf g) (guest_same r cells host other q read conf g) (program_outcome r host input)
    ∙ ap (printed r other input) o
