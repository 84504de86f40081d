-- What was written had room: what is lent keeps its length, and `finish` asks for room.
use Rattle.std.specs.Prelude.{◌≡◌, refl, Bool, false, not, ◌||◌, List, [], ◌∷◌, ℕ, ◌+◌, ◌%◌, ◌≤◌, eqb, ltb, length, take}
use Rattle.std.proofs.Common.{sym, ap, ◌∙◌, arith, ltb-false}
use Rattle.std.proofs.Math.Seq.{take-length}
use Rattle.rules.specs.Ceilings.{open_ceiling, reservation_ceiling}
use Rattle.rules.specs.Octets.{Bytes}
use Rattle.rules.specs.Outcome.{gives, passes}
use Rattle.rules.specs.Reservations.{Entry, any_invalid, overlapping}
use Rattle.rules.specs.Writer.{State, room, total, impossible, start_bytes, start_judged, start, start_data, finish_judged, finish}
use Rattle.rules.specs.Written.{Blocks, write_events, Call, boot_cpu, begin, end, bytes, null, string, string_list, number32, number64, array32, array64, phandle_call, Desk, call, run, finished, started, written, said, boot_said}
use Rattle.rules.specs.Demands.{strings_after}
use Rattle.rules.proofs.Laws.Tests.{or_false}
use Rattle.rules.proofs.Laws.Octets.{length_put}
use Rattle.rules.proofs.Laws.Verdicts.{then_passes}
use Rattle.rules.proofs.Laws.Trips.Tests.{none_fails, roomy, start_tests, start_tests_lem, finish_tests, finish_tests_lem}
use Rattle.rules.proofs.Laws.Trips.Calls.{Held, Laid, begin_laid, end_laid, hold_laid, phandle_laid, call_held, run_held, accepted, given}
use Rattle.rules.proofs.Laws.Trips.Finish.{nothing, start_held, length_with, data_length_lem, strings_length_lem, finish_held, ends_well}

-- ---- what is lent keeps its length

pub record Kept (d e : Desk) : Type 0 where
  pub lent : length e.«data» ≡ length d.«data»
  pub strings_lent : length e.strings ≡ length d.strings

laid_kept : (d e : Desk) (x y : Bytes) → Laid d x y e → Kept d e
laid_kept d e x y l =
    record {
      lent = ap length l.data_laid ∙ length_put d.«data» d.state.data_length x l.data_room;
      strings_lent = ap length l.strings_laid ∙ length_put d.strings d.state.strings_length y l.strings_room;
    }

pub call_kept : (d e : Desk) (c : Call) → d.state.strings_length ≤ length d.strings → call d c ≡ gives e → Kept d e
unfolding call
call_kept d e (boot_cpu m) s g = rw (given _ e g) (record { lent = refl; strings_lent = refl })
call_kept d e (begin name) s g = laid_kept d e _ _ (begin_laid d e name s g)
call_kept d e (end depth) s g = laid_kept d e _ _ (end_laid d e depth s g)
call_kept d e (bytes name value) s g = laid_kept d e _ _ (hold_laid d e _ name _ g)
call_kept d e (null name) s g = laid_kept d e _ _ (hold_laid d e _ name _ g)
call_kept d e (string name value) s g = laid_kept d e _ _ (hold_laid d e _ name _ g)
call_kept d e (string_list name value) s g = laid_kept d e _ _ (hold_laid d e _ name _ g)
call_kept d e (number32 name value) s g = laid_kept d e _ _ (hold_laid d e _ name _ g)
call_kept d e (number64 name value) s g = laid_kept d e _ _ (hold_laid d e _ name _ g)
call_kept d e (array32 name values) s g = laid_kept d e _ _ (hold_laid d e _ name _ g)
call_kept d e (array64 name values) s g = laid_kept d e _ _ (hold_laid d e _ name _ g)
call_kept d e (phandle_call value) s g = laid_kept d e _ _ (phandle_laid d e value g)

run_kept : (rs : List Entry) (cpu : ℕ) (w : Blocks) (cs : List Call) (d e : Desk) → Held rs cpu w d → run cs d ≡ gives e → Kept d e
unfolding run
run_kept rs cpu w [] d e h g = rw (given d e g) (record { lent = refl; strings_lent = refl })
run_kept rs cpu w (c ∷ cs) d e h g =
    let a = accepted (run cs) (call d c) e g in
    let k = call_kept d a.0 c h.strings_fit a.1 in
    let i = run_kept rs (boot_said cpu (c ∷ [])) (write_events w (said (c ∷ []))) cs a.0 e (call_held rs cpu w d a.0 c h a.1) a.2 in
    record { lent = i.lent ∙ k.lent; strings_lent = i.strings_lent ∙ k.strings_lent }

pub possible_strings : (w : State) (n m : ℕ) → impossible w n m ≡ false → w.strings_length ≤ room m
unfolding impossible
possible_strings w n m h =
    let other : Bool =
    w.finished
    || ltb w.data_length 56
    || not (eqb (w.data_length % 4) 0)
    || ltb w.structure 56
    || ltb w.data_length w.structure
    || ltb open_ceiling w.depth
    || ltb (room n) w.data_length in
    ltb-false (room m) w.strings_length (or_false other (ltb (room m) w.strings_length) h).1

-- what a start asks
pub record Started (rs : List Entry) : Type 0 where
  pub valid : any_invalid rs ≡ false
  pub apart : overlapping rs ≡ false
  pub few : length rs ≤ reservation_ceiling

start_asks : (rs : List Entry) (lent : ℕ) → start_judged lent rs (length rs) ≡ passes → Started rs
start_asks rs lent h =
    let p = none_fails (start_tests lent rs (length rs)) (sym (start_tests_lem lent rs (length rs)) ∙ h) in
    record {
      valid = rw (take-length rs) at p.1.0;
      apart = rw (take-length rs) at p.1.1.0;
      few = ltb-false reservation_ceiling (length rs) p.0;
    }

start_kept : (rs : List Entry) (lent strings : Bytes) (phandles : List ℕ) → start_judged (length lent) rs (length rs) ≡ passes
    → length (started rs lent strings phandles).«data» ≡ length lent
unfolding start_data
start_kept rs lent strings phandles h =
    let t = take-length rs in
    let p = none_fails (start_tests (length lent) rs (length rs)) (sym (start_tests_lem (length lent) rs (length rs)) ∙ h) in
    let r = rw t at (roomy (length lent) (length (start_bytes (take (length rs) rs))) p.1.1.1.0) in
    rw (h, t) (length_put lent 0 (start_bytes rs) (omega (arith, r.0)))

finish_room : (d : Desk) (blob : Bytes) → finished d ≡ gives blob
    → (total d.state ≤ room (length d.«data»)) × (d.state.strings_length ≤ room (length d.strings))
unfolding finished finish
finish_room d blob g =
    let k : ℕ = length d.«data» in
    let m : ℕ = length d.strings in
    let t = then_passes (finish_judged d.state k m) _ blob g in
    let p = none_fails (finish_tests d.state k m) (sym (finish_tests_lem d.state k m) ∙ t.0) in
    (ltb-false (room k) (total d.state) p.1.1.0, possible_strings d.state k m p.0)

-- WHAT IS WRITTEN HAD ROOM
pub written_room : (rs : List Entry) (lent strings : Bytes) (phandles : List ℕ) (cs : List Call) (blob : Bytes)
    → written rs lent strings phandles cs ≡ gives blob
    → Started rs × (length blob ≤ room (length lent)) × (length (strings_after (said cs)) ≤ room (length strings))
unfolding written start
written_room rs lent strings phandles cs blob h =
    let t = then_passes (start_judged (length lent) rs (length rs)) _ blob h in
    let d : Desk = started rs lent strings phandles in
    let a = ends_well (run cs d) blob t.1 in
    let g = start_held rs lent strings phandles t.0 in
    let w : Blocks = write_events nothing (said cs) in
    let k = run_held rs 0 nothing cs d a.0 g a.1 in
    let q = run_kept rs 0 nothing cs d a.0 g a.1 in
    let f = finish_held rs (boot_said 0 cs) w a.0 k blob a.2 in
    let r = finish_room a.0 blob a.2 in
    let n : length blob ≡ length (start_bytes rs) + (length w.structure + 4) + length w.strings =
    ap length f.0 ∙ length_with rs (boot_said 0 cs) w in
    let x = data_length_lem rs (boot_said 0 cs) w a.0 k in
    let y = strings_length_lem rs (boot_said 0 cs) w a.0 k in
    let i : length a.0.«data» ≡ length lent = q.lent ∙ start_kept rs lent strings phandles t.0 in
    let j : length a.0.strings ≡ length strings = q.strings_lent in
    (start_asks rs (length lent) t.0, omega arith, omega arith)
