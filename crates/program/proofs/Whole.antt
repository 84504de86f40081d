-- From the derivation's answer to what the program prints and writes: the text, what is told of it, and the guest.
use mathlib.Core.Path.{◌≡◌, refl, sym, ap, ◌∙◌}
use mathlib.Core.List.{List}
use mathlib.Core.Option.{none, some}
use Prim.Native.Nat.{ℕ, ◌+◌, ◌≤◌, min}
use native.Mathlib.Omega.{arith}
use lib.Dec.{ltb}
use lib.ListN.{length, take}
use borrow.Author.Tests.{ltb-false}
use Rattle.rules.specs.Ceilings.{program_ceiling, work_words}
use Rattle.rules.specs.Octets.{Bytes, part, put, lay}
use Rattle.rules.specs.Outcome.{Outcome, gives, refuses, Verdict, passes, settled, ◌then◌}
use Rattle.rules.specs.Reader.{tree_read, blob_judged, space_judged}
use Rattle.rules.specs.References.{Rules, edition1}
use Rattle.rules.specs.Derivation.{Request, Derived, derive, derive_list, derive_guest, listed_paths, list_of, guest_of, request_judged, room_judged}
use Rattle.rules.specs.Program.{lines_of, configured_in, excluded_in, ids_in, input_judged, host_judged, request_in, Printed, printed, printed_answer, printed_refusal}
use Rattle.rules.proofs.Laws.Tests.{by_test}
use Rattle.rules.proofs.Laws.Verdicts.{gives_refuses, then_passes, passes_then}
use Rattle.rules.proofs.Laws.Octets.{length_lay, lay_put}
use Rattle.printed.specs.Text.{answer_text, answer_printed}
use Rattle.std.specs.Prelude.{Result, Ok, Err}
use Rattle.derive.specs.Answers.{number_of, place_of, meaning}
use Rattle.derive.specs.declared.Derived as lent
use Rattle.derive.specs.declared.Refusal.{Refusal}
use Rattle.program.specs.declared.Ran.{Ran}
use Rattle.program.specs.Run.{outcome_in, printed_in, answered, guest_left, text_of, ran_of, front}
use Rattle.program.proofs.Plain.{listed_plain}

-- ---- a derivation that answers

pub record Gave (r : Rules) (host : Bytes) (q : Request) (listRoom : ℕ) (d : Derived) : Type 0 where
  pub blob : blob_judged host ≡ passes
  pub fits : length (list_of r host q) ≤ listRoom
  pub paths : length (listed_paths r (tree_read host) q) ≡ d.paths
  pub list : length (list_of r host q) ≡ d.list_length
  pub guest : length (guest_of r host q) ≡ d.guest_length

room_fits : (l g L G : ℕ) → room_judged l g L G ≡ passes → l ≤ L
unfolding room_judged
room_fits l g L G h = by_test (ltb L l) (λ e. gives_refuses tt 45 l (rw e at h)) (λ e. ltb-false L l e)

module _ (r : Rules) (host : Bytes) (q : Request) (words L G : ℕ) (d : Derived) where
  abbrev whole : Derived
  whole =
      record {
        paths = length (listed_paths r (tree_read host) q);
        list_length = length (list_of r host q);
        guest_length = length (guest_of r host q);
      }

  abbrev room : Verdict
  room = room_judged (length (list_of r host q)) (length (guest_of r host q)) L G

  abbrev asks : Verdict
  asks = request_judged (tree_read host) q

  same : gives whole ≡ gives d → whole ≡ d
  same e = cc

  pub gave : derive r host q words L G ≡ gives d → Gave r host q L d
  unfolding derive
  gave h =
      let a = then_passes (space_judged words) (blob_judged host then asks then room then gives whole) d h in
      let b = then_passes (blob_judged host) (asks then room then gives whole) d a.1 in
      let c = then_passes asks (room then gives whole) d b.1 in
      let e = then_passes room (gives whole) d c.1 in
      let s = same e.1 in
      record { blob = b.0; fits = room_fits _ (length (guest_of r host q)) L G e.0; paths = ap (λ (x : Derived). x.paths) s; list = ap (λ (x : Derived). x.list_length) s; guest = ap (λ (x : Derived). x.guest_length) s }

-- ---- what is printed of it

module _ (host input : Bytes) (G : ℕ) (pi : input_judged input ≡ passes) (ph : host_judged host ≡ passes) where
  abbrev asked : Request
  asked = request_in input

  abbrev outcome : Outcome Derived
  outcome = derive edition1 host asked work_words program_ceiling G

  abbrev whole_text : Printed
  whole_text = printed_in edition1 host input G

  derives : whole_text ≡ printed edition1 host input outcome
  unfolding printed_in outcome_in
  derives = ap (printed edition1 host input) (passes_then (input_judged input) (host_judged host then outcome) pi ∙ passes_then (host_judged host) outcome ph)

  -- a refusal
  module _ (f : Refusal) (m : meaning (Err f) ≡ outcome) where
    refuses_so : outcome ≡ refuses (number_of f) (place_of f)
    refuses_so = sym m

    refused_text : whole_text ≡ record { text = printed_refusal (number_of f) (place_of f); guest = none }
    refused_text = derives ∙ ap (printed edition1 host input) refuses_so

  -- an answer
  module _ (p l g : ℕ) (m : meaning (Ok (record { paths = p; list = l; guest = g })) ≡ outcome) where
    gave_so : Gave edition1 host asked program_ceiling (record { paths = p; list_length = l; guest_length = g })
    gave_so = gave edition1 host asked work_words program_ceiling G (record { paths = p; list_length = l; guest_length = g }) (sym m)

    derived_text : whole_text ≡ record { text = printed_answer (listed_paths edition1 (tree_read host) asked) g; guest = some (guest_of edition1 host asked) }
    derived_text = derives ∙ ap (printed edition1 host input) (sym m)

    -- the list stands at the front of what was lent for it
    list_front : (old list : Bytes) → length old ≡ program_ceiling → list ≡ derive_list edition1 host asked work_words G old → part list 0 l ≡ list_of edition1 host asked
    unfolding derive_list
    list_front old list n e =
        let xs : Bytes = list_of edition1 host asked in
        let k : derive edition1 host asked work_words (length old) G ≡ gives (record { paths = p; list_length = l; guest_length = g }) = rw n (sym m) in
        let f : list ≡ put old 0 xs = e ∙ ap (λ (o : Outcome Derived). settled o old (put old 0 xs)) k in
        rw (f, ← gave_so.list) (front old xs)

    list_text : (list : Bytes) → part list 0 l ≡ list_of edition1 host asked → answer_text p (part list 0 l) g ≡ printed_answer (listed_paths edition1 (tree_read host) asked) g
    unfolding list_of
    list_text list e =
        rw (e, ← gave_so.paths) (answer_printed (listed_paths edition1 (tree_read host) asked) g (listed_plain edition1 host asked gave_so.blob))

-- ---- joined

-- what an answer and the list say of the program
pub record Tells (host input : Bytes) (G : ℕ) (a : Result lent.Derived Refusal) (list : Bytes) : Type 0 where
  pub text : text_of a list ≡ (printed_in edition1 host input G).text
  pub ran : (room : ℕ) → ran_of a (min (length (text_of a list)) room) ≡ answered (printed_in edition1 host input G) room
  pub guest : (old : Bytes) → length old ≡ G → derive_guest edition1 host (request_in input) work_words program_ceiling old ≡ guest_left (printed_in edition1 host input G) old

module _ (host input : Bytes) (G : ℕ) (pi : input_judged input ≡ passes) (ph : host_judged host ≡ passes) (old list : Bytes) (n : length old ≡ program_ceiling) (e : list ≡ derive_list edition1 host (request_in input) work_words G old) where
  pub tells : (a : Result lent.Derived Refusal) → meaning a ≡ derive edition1 host (request_in input) work_words program_ceiling G → Tells host input G a list
  unfolding answered guest_left derive_guest
  tells (Err f) m =
      let t = refused_text host input G pi ph f m in
      record {
        text = rw t;
        ran = λ room. rw t;
        guest = λ was k. rw (t, k, refuses_so host input G pi ph f m);
      }
  tells (Ok d) m =
      let t = derived_text host input G pi ph d.paths d.list d.guest m in
      let s = list_text host input G pi ph d.paths d.list d.guest m list (list_front host input G pi ph d.paths d.list d.guest m old list n e) in
      record {
        text = rw t s;
        ran = λ room. rw (t, s, (gave_so host input G pi ph d.paths d.list d.guest m).guest);
        guest = λ was k. rw (t, k, ← m);
      }

-- ---- as the code has it: the lists are handed on, and the answer is told

-- a list that was laid into a room that holds it
pub handed : {A : Type 0} (old new whole : List A) (n : ℕ) → length whole ≤ length old → new ≡ lay old 0 whole → n ≡ length whole → take n new ≡ whole
handed old new xs n h e k =
    rw (e, k, lay_put old 0 xs (omega arith)) (front old xs)

pub handed_inside : {A : Type 0} (old new whole : List A) (n : ℕ) → length whole ≤ length old → new ≡ lay old 0 whole → n ≡ length whole → n ≤ length new
handed_inside old new xs n h e k = omega (arith, ap length e, length_lay old 0 xs)

module _ (input configured excluded : Bytes) (ids : List ℕ) where
  pub asked_whole : configured ≡ configured_in (lines_of input) → excluded ≡ excluded_in (lines_of input) → ids ≡ ids_in (lines_of input)
      → record { configured = configured; excluded = excluded; ids = ids } ≡ request_in input
  unfolding request_in
  asked_whole e f g = rw (e, f, g)

module _ (host input guest text : Bytes) (pi : input_judged input ≡ passes) (ph : host_judged host ≡ passes) where
  abbrev result : Printed
  result = printed_in edition1 host input (length guest)

  pub joined : (q : Request) → q ≡ request_in input → (w : ℕ) → w ≡ work_words → (old list : Bytes) → length old ≡ program_ceiling
      → length list ≡ length old → (a : Result lent.Derived Refusal) → meaning a ≡ derive edition1 host q w (length old) (length guest)
      → list ≡ derive_list edition1 host q w (length guest) old → (left : Bytes) → left ≡ derive_guest edition1 host q w (length old) guest
      → (ran : Ran) (said : Bytes) → ran ≡ ran_of a (min (length (text_of a list)) (length text)) → said ≡ lay text 0 (text_of a list)
      → length (text_of a list) ≤ length list + 64
      → (ran ≡ answered result (length text)) × (said ≡ lay text 0 result.text) × (left ≡ guest_left result guest)
      × (length result.text ≤ program_ceiling + 64)
  joined q e w f old list n k a m ml left mg ran said t s b =
      let told = tells host input (length guest) pi ph old list n (ml ∙ rw (e, f)) a (m ∙ rw (e, f, n)) in (
        t ∙ told.ran (length text),
        s ∙ ap (lay text 0) told.text,
        mg ∙ rw (e, f, n) (told.guest guest refl),
        omega (arith, ap length told.text),
      )
