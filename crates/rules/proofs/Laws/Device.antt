-- The list asked for alone is the derivation's: the two refuse alike but for 46, and where the derivation of a request without ids
-- answers, the list is the same. And nothing leaks by it.
use Rattle.std.specs.Prelude.{◌≡◌, ℕ, min, ◌≤◌, ◌<◌, length}
use Rattle.std.proofs.Common.{sym, ap, ◌∙◌, arith, lt-ltb, le-ltb}
use Rattle.rules.specs.Ceilings.{blob_ceiling}
use Rattle.rules.specs.Octets.{Bytes}
use Rattle.rules.specs.Outcome.{Outcome, Verdict, gives, refuses, passes, ◌then◌}
use Rattle.rules.specs.Tree.{Tree, frame}
use Rattle.rules.specs.Reader.{tree_read, blob_judged, space_judged}
use Rattle.rules.specs.References.{Rules}
use Rattle.rules.specs.Derivation.{Request, Derived, lists_judged, configured_judged, cpus_judged, ids_from, request_judged, list_of, guest_of, room_judged, derive, derive_list}
use Rattle.rules.specs.Device.{wanted, Found, list_room_judged, find, find_list}
use Rattle.rules.specs.Withheld.{Agree}
use Rattle.rules.specs.Demands.{CellsRead}
use Rattle.rules.proofs.Laws.Tests.{by_le}
use Rattle.rules.proofs.Laws.Verdicts.{gives_refuses, then_passes, then_end}
use Rattle.rules.proofs.Laws.Listed.{lists_granted, configured_granted}
use Rattle.rules.proofs.Laws.Secrecy.Leaks.{other_read, configured_same, paths_same, list_same}

-- ---- 45

pub list_short : (needed room : ℕ) → room < needed → list_room_judged needed room ≡ refuses 45 needed
unfolding room_judged
list_short needed room h = rw (lt-ltb room needed h)

pub list_fits : (needed room : ℕ) → needed ≤ room → list_room_judged needed room ≡ passes
unfolding room_judged
list_fits needed room h = rw (le-ltb room needed h, le-ltb (min 0 blob_ceiling) 0 (omega arith))

both_short : (L G lr gr : ℕ) → lr < L → room_judged L G lr gr ≡ refuses 45 L
unfolding room_judged
both_short L G lr gr h = rw (lt-ltb lr L h)

both_fit : (L G lr gr : ℕ) → room_judged L G lr gr ≡ passes → list_room_judged L lr ≡ passes
both_fit L G lr gr e = by_le L lr (list_fits L lr) (λ h. gives_refuses tt 45 L (sym (both_short L G lr gr h) ∙ e))

list_first : (L G lr gr number place : ℕ) → list_room_judged L lr ≡ refuses number place → room_judged L G lr gr ≡ refuses number place
list_first L G lr gr number place e = by_le L lr
    (λ h. gives_refuses tt number place (sym e ∙ list_fits L lr h))
    (λ h. both_short L G lr gr h ∙ sym (list_short L lr h) ∙ e)

-- ---- 41 and 42: of a request without ids nothing else is asked

no_ids : (t : Tree) (configured excluded : Bytes) → request_judged t (wanted configured excluded) ≡ (lists_judged (wanted configured excluded) then configured_judged (frame t) (wanted configured excluded))
unfolding request_judged cpus_judged ids_from
no_ids t configured excluded =
    ap (λ (v : Verdict). lists_judged (wanted configured excluded) then v) (then_end (configured_judged (frame t) (wanted configured excluded)))

-- ---- beside the derivation

same_refusal : {A B : Type 0} (m p number place : ℕ) → ◌≡◌ {A = Outcome A} (refuses m p) (refuses number place) → ◌≡◌ {A = Outcome B} (refuses m p) (refuses number place)
same_refusal m p number place e = let f : m ≡ number = cc in let g : p ≡ place = cc in rw (f, g)

-- what stands first refuses first
refused_first : (s b l c v w : Verdict) (a : Found) (d : Derived) (number place : ℕ) → (v ≡ refuses number place → w ≡ refuses number place)
    → (s then b then l then c then v then gives a) ≡ refuses number place → (s then b then (l then c) then w then gives d) ≡ refuses number place
refused_first (refuses m p) b l c v w a d number place h e = same_refusal m p number place e
refused_first (gives u) (refuses m p) l c v w a d number place h e = same_refusal m p number place e
refused_first (gives u) (gives x) (refuses m p) c v w a d number place h e = same_refusal m p number place e
refused_first (gives u) (gives x) (gives y) (refuses m p) v w a d number place h e = same_refusal m p number place e
refused_first (gives u) (gives x) (gives y) (gives z) (refuses m p) w a d number place h e = rw (h (same_refusal m p number place e))
refused_first (gives u) (gives x) (gives y) (gives z) (gives o) w a d number place h e = gives_refuses a number place (sym e)

abbrev without_guest : Outcome Derived → Outcome Found
without_guest (gives d) = gives (record { paths = d.paths; list_length = d.list_length })
without_guest (refuses number place) = refuses number place

module _ (r : Rules) (host configured excluded : Bytes) (words listRoom guestRoom : ℕ) where
  abbrev q : Request
  q = wanted configured excluded

  -- WHERE THE LIST IS REFUSED, SO IS THE DERIVATION
  pub find_refused : (number place : ℕ) → find r host configured excluded words listRoom ≡ refuses number place → derive r host q words listRoom guestRoom ≡ refuses number place
  unfolding find derive
  find_refused number place e =
      rw (no_ids (tree_read host) configured excluded)
      (refused_first (space_judged words) (blob_judged host) (lists_judged q) (configured_judged (frame (tree_read host)) q) (list_room_judged (length (list_of r host q)) listRoom)
      (room_judged (length (list_of r host q)) (length (guest_of r host q)) listRoom guestRoom) _ _ number place
      (list_first (length (list_of r host q)) (length (guest_of r host q)) listRoom guestRoom number place) e)

  -- WHERE THE DERIVATION ANSWERS, THE LIST IS THE SAME
  pub derive_found : (d : Derived) → derive r host q words listRoom guestRoom ≡ gives d → find r host configured excluded words listRoom ≡ gives (record { paths = d.paths; list_length = d.list_length })
  unfolding find derive
  derive_found d e =
      let a = then_passes (space_judged words) _ d e in
      let b = then_passes (blob_judged host) _ d a.1 in
      let k = then_passes (request_judged (tree_read host) q) _ d b.1 in
      let m = then_passes (room_judged (length (list_of r host q)) (length (guest_of r host q)) listRoom guestRoom) _ d k.1 in
      rw (a.0, b.0, lists_granted (tree_read host) q k.0, configured_granted (tree_read host) q k.0, both_fit (length (list_of r host q)) (length (guest_of r host q)) listRoom guestRoom m.0)
      (ap without_guest m.1)

pub derive_list_found : (r : Rules) (host configured excluded : Bytes) (words guestRoom : ℕ) (list : Bytes) (d : Derived)
    → derive r host (wanted configured excluded) words (length list) guestRoom ≡ gives d
    → find_list r host configured excluded words list ≡ derive_list r host (wanted configured excluded) words guestRoom list
unfolding find_list derive_list
derive_list_found r host configured excluded words guestRoom list d e = rw (derive_found r host configured excluded words (length list) guestRoom d e, e)

-- ---- NOTHING LEAKS: answer, list, refusal and place are the same whatever stands in the withheld bytes

pub find_same : (r : Rules) → CellsRead r → (host other configured excluded : Bytes) (words : ℕ) (list : Bytes) → blob_judged host ≡ passes
    → configured_judged (frame (tree_read host)) (wanted configured excluded) ≡ passes → Agree r (wanted configured excluded) host other
    → (find r host configured excluded words (length list) ≡ find r other configured excluded words (length list))
    × (find_list r host configured excluded words list ≡ find_list r other configured excluded words list)
unfolding find_list find
find_same r cells host other configured excluded words list read conf g =
    let q : Request = wanted configured excluded in
    let o = other_read r cells host other q read conf g in
    let k = configured_same r cells host other q read conf g in
    let l = list_same r cells host other q read conf g in
    let p = paths_same r cells host other q read conf g in
    (rw (read, o, conf, k, l, p), rw (read, o, conf, k, l, p))
