-- "Writing what was read, given room and reservations that pass 27, 28 and 33, yields the same": the calls that an accepted blob's
-- events spell leave a blob that reads the same; and the guest is what the writer leaves.
use Rattle.std.specs.Prelude.{◌≡◌, refl, Bool, false, List, [], ◌∷◌, ℕ, ◌+◌, ◌≤◌, ◌<◌, length, take}
use Rattle.std.proofs.Common.{sym, ◌∙◌, arith, eq-eqb, le-ltb}
use Rattle.std.proofs.Math.Path.{ap}
use Rattle.std.proofs.Math.Seq.{take-length}
use Rattle.rules.specs.Ceilings.{reservation_ceiling}
use Rattle.rules.specs.Octets.{Bytes, AreBytes}
use Rattle.rules.specs.Outcome.{Outcome, gives, refuses, passes}
use Rattle.rules.specs.Reservations.{Entry, any_invalid, overlapping, sorted_from, neighbours}
use Rattle.rules.specs.Writer.{room, total, start_bytes, start_judged, start, start_data, set_boot_cpu, finish_judged, finish, finish_data}
use Rattle.rules.specs.Written.{Blocks, write_events, blob_with, blob_of, Call, boot_cpu, Desk, call, run, finished, started, written, spelled}
use Rattle.rules.specs.Blob.{header_in, block_in}
use Rattle.rules.specs.Events.{Event, events_judged}
use Rattle.rules.specs.Tree.{frame}
use Rattle.rules.specs.Reader.{events_read, tree_read, blob_judged}
use Rattle.rules.specs.Copy.{guest_events, guest_bytes}
use Rattle.rules.specs.Derivation.{asked, guest_of}
use Rattle.rules.specs.Demands.{strings_after, Fits, ReadThenWrite, GuestIsWritten}
use Rattle.rules.proofs.Laws.Octets.{length_put, word_small}
use Rattle.rules.proofs.Laws.Verdicts.{passes_then}
use Rattle.rules.proofs.Laws.Formed.{accepted}
use Rattle.rules.proofs.Laws.Nested.{events_pass, events_nested}
use Rattle.rules.proofs.Laws.Guest.{guest_fits}
use Rattle.rules.proofs.Laws.BlobBack.{reads_back}
use Rattle.rules.proofs.Laws.ReadBack.{structure_of, strings_of, writes}
use Rattle.rules.proofs.Laws.Trips.Tests.{none_fails, roomy, first_passes, start_tests, start_tests_lem, finish_tests, finish_tests_lem}
use Rattle.rules.proofs.Laws.Trips.Calls.{boot_held, run_on, goes_on}
use Rattle.rules.proofs.Laws.Trips.Finish.{nothing, start_held, length_with, data_length_lem, strings_length_lem, finish_held}
use Rattle.rules.proofs.Laws.Trips.Spelled.{Ready, Fitting, possible, spelled_runs}

-- ---- finishing is accepted

module _ (rs : List Entry) (cpu n m : ℕ) where
  pub finish_accepted : (w : Blocks) (ended : Bool) (d : Desk) → Ready rs cpu w 0 ended n m d → length (blob_with rs cpu w) ≤ room n
      → length w.strings ≤ room m → finished d ≡ gives (blob_with rs cpu w)
  unfolding finished finish finish_data
  finish_accepted w ended d r f g =
      let l = r.lent in
      let i = r.strings_lent in
      let b = length_with rs cpu w in
      let p = data_length_lem rs cpu w d r.held in
      let q = strings_length_lem rs cpu w d r.held in
      let t : finish_judged d.state (length d.«data») (length d.strings) ≡ passes =
      finish_tests_lem d.state (length d.«data») (length d.strings)
      ∙ first_passes (finish_tests d.state (length d.«data») (length d.strings)) (
        possible rs cpu n m w 0 ended d r (length d.strings) (omega arith) (omega arith),
        (
          rw (eq-eqb d.state.depth 0 r.deep),
          (le-ltb (room (length d.«data»)) (total d.state) (omega arith), tt),
        ),
      ) in
      let e : finished d ≡ gives (take (total d.state) (finish_data d.state d.«data» d.strings)) = rw t in
      e ∙ ap gives (finish_held rs cpu w d r.held _ e).0

-- ---- the calls that events spell, from a desk that holds nothing yet

pub after_run : Outcome Desk → Outcome Bytes
after_run o = elim o [ gives d ↦ finished d | refuses number place ↦ refuses number place ]

pub after_gives : (o : Outcome Desk) (d : Desk) → o ≡ gives d → after_run o ≡ finished d
unfolding after_run
after_gives o d e = rw e

pub blob_length : (rs : List Entry) (cpu : ℕ) (es : List Event)
    → length (blob_of rs cpu es) ≡ length (start_bytes rs) + (length (structure_of [] es) + 4) + length (strings_of [] es)
unfolding blob_of
blob_length rs cpu es = rw (writes [] [] es) (length_with rs cpu (record { structure = structure_of [] es; strings = strings_of [] es }))

pub strings_after_lem : (es : List Event) → length (strings_after es) ≡ length (strings_of [] es)
strings_after_lem es = ap (λ (w : Blocks). length w.strings) (writes [] [] es)

module _ (rs : List Entry) (cpu n m : ℕ) (es : List Event) (passed : events_judged es ≡ passes)
    (room₁ : length (blob_of rs cpu es) ≤ room n) (room₂ : length (strings_after es) ≤ room m) where
  fitting : Fitting rs cpu n m nothing es
  fitting =
      let l = blob_length rs cpu es in
      record { data_room = omega arith; strings_room = rw (strings_after_lem es) at room₂ }

  spelled_leaves : (d : Desk) → Ready rs cpu nothing 0 false n m d → after_run (run (spelled 0 es) d) ≡ gives (blob_of rs cpu es)
  unfolding after_run blob_of
  spelled_leaves d r =
      let a = spelled_runs rs cpu n m (events_nested es passed) nothing fitting d r in
      rw a.ran (finish_accepted rs cpu n m (write_events nothing es) a.ended a.left a.ready room₁ room₂)

-- ---- from start to finish

pub start_accepted : (rs : List Entry) (lent : ℕ) → any_invalid rs ≡ false → overlapping rs ≡ false → length rs ≤ reservation_ceiling
    → length (start_bytes rs) ≤ room lent
    → start_judged lent rs (length rs) ≡ passes
start_accepted rs lent v o c f =
    start_tests_lem lent rs (length rs)
    ∙ first_passes (start_tests lent rs (length rs))
    (le-ltb reservation_ceiling (length rs) c, rw (take-length rs) (v, (o, (le-ltb (room lent) (length (start_bytes rs)) f, tt))))

pub boot_ready : (rs : List Entry) (cpu n m : ℕ) (d : Desk) → Ready rs 0 nothing 0 false n m d
    → (e : Desk) × (call d (boot_cpu cpu) ≡ gives e) × Ready rs cpu nothing 0 false n m e
unfolding call set_boot_cpu
boot_ready rs cpu n m d r =
    let e : Desk = record { state = set_boot_cpu d.state cpu; «data» = d.«data»; strings = d.strings; phandles = d.phandles } in
    let h = r.held in (
      e,
      refl,
      record {
        held = boot_held rs 0 cpu nothing d h;
        deep = r.deep;
        past = r.past;
        going = r.going;
        shallow = r.shallow;
        whole = r.whole;
        lent = r.lent;
        strings_lent = r.strings_lent;
      },
    )

module _ (rs : List Entry) (lent strings : Bytes) (phandles : List ℕ) (started-well : start_judged (length lent) rs (length rs) ≡ passes) where
  abbrev desk : Desk
  desk = started rs lent strings phandles

  start_fits : length (start_bytes rs) ≤ length lent
  start_fits =
      let p = none_fails (start_tests (length lent) rs (length rs)) (sym (start_tests_lem (length lent) rs (length rs)) ∙ started-well) in
      rw (take-length rs) at (roomy (length lent) (length (start_bytes (take (length rs) rs))) p.1.1.1.0).0

  pub start_ready : Ready rs 0 nothing 0 false (length lent) (length strings) desk
  unfolding start start_data
  start_ready =
      record {
        held = start_held rs lent strings phandles started-well;
        deep = rw started-well;
        past = rw started-well;
        going = rw started-well;
        shallow = omega arith;
        whole = refl;
        lent = rw (started-well, take-length rs) (length_put lent 0 (start_bytes rs) (omega (arith, start_fits)));
        strings_lent = refl;
      }

  verdict_is : (start (length lent) rs (length rs)).verdict ≡ passes
  unfolding start
  verdict_is = started-well

  pub written_is : (cs : List Call) → written rs lent strings phandles cs ≡ after_run (run cs desk)
  unfolding written after_run
  written_is cs = passes_then (start (length lent) rs (length rs)).verdict (after_run (run cs desk)) verdict_is

  -- the calls that events spell leave their blob
  pub spelled_written : (es : List Event) → events_judged es ≡ passes → length (blob_of rs 0 es) ≤ room (length lent)
      → length (strings_after es) ≤ room (length strings) → written rs lent strings phandles (spelled 0 es) ≡ gives (blob_of rs 0 es)
  spelled_written es p f g = written_is (spelled 0 es) ∙ spelled_leaves rs 0 (length lent) (length strings) es p f g desk start_ready

  -- and with a boot CPU
  pub boot_written : (cpu : ℕ) (es : List Event) → events_judged es ≡ passes → length (blob_of rs cpu es) ≤ room (length lent)
      → length (strings_after es) ≤ room (length strings) → written rs lent strings phandles (boot_cpu cpu ∷ spelled 0 es) ≡ gives (blob_of rs cpu es)
  boot_written cpu es p f g =
      let b = boot_ready rs cpu (length lent) (length strings) desk start_ready in
      let r : run (boot_cpu cpu ∷ spelled 0 es) desk ≡ run (spelled 0 es) b.0 =
      run_on (boot_cpu cpu) (spelled 0 es) desk ∙ ap (goes_on (run (spelled 0 es))) b.1 in
      written_is (boot_cpu cpu ∷ spelled 0 es) ∙ ap after_run r ∙ spelled_leaves rs cpu (length lent) (length strings) es p f g b.0 b.2

-- ---- what was read

-- the events of an accepted blob fit
pub read_fits : (blob : Bytes) → blob_judged blob ≡ passes → Fits (events_read blob)
unfolding events_read tree_read
read_fits blob h =
    let a = accepted blob h in
    record { shape = events_pass (block_in blob) a.shape; doubled = a.doubled; words = a.words; shared = a.shared }

pub boot_small : (blob : Bytes) → AreBytes blob → (header_in blob).boot_cpu < 4294967296
unfolding header_in
boot_small blob o = word_small blob 28 o

-- READ, THEN WRITE
pub read_then_write : ReadThenWrite
read_then_write blob rs lent strings phandles o h e v l c room₁ room₂ =
    let es : List Event = events_read blob in
    let cpu : ℕ = (header_in blob).boot_cpu in
    let fits = read_fits blob h in
    let n = blob_length rs cpu es in
    let s = start_accepted rs (length lent) v l c (omega arith) in (
      boot_written rs lent strings phandles s cpu es fits.shape room₁ room₂,
      reads_back rs cpu es v (boot_small blob o) fits (omega arith),
    )

-- ---- the guest

none_invalid : any_invalid [] ≡ false
unfolding any_invalid
none_invalid = refl

none_overlap : overlapping [] ≡ false
unfolding overlapping sorted_from neighbours
none_overlap = refl

-- THE GUEST IS WHAT THE WRITER LEAVES
pub guest_is_written : GuestIsWritten
unfolding guest_of guest_bytes
guest_is_written r host q lent strings g room₁ room₂ =
    let es : List Event = guest_events r (asked (frame (tree_read host)) q) (tree_read host) (events_read host) in
    let n = blob_length [] 0 es in
    let s = start_accepted [] (length lent) none_invalid none_overlap (omega arith) (omega arith) in
    spelled_written [] lent strings [] s es (guest_fits r host q g).shape room₁ room₂
