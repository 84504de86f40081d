-- Calls that were accepted, spelled again from the events that they say, are accepted again, and leave the same blob; no tree is asked
-- of them.
use Rattle.std.specs.Prelude.{◌≡◌, Bool, not, eqb}
use Rattle.std.proofs.Math.Path.{refl, sym, ap, subst}
use Rattle.std.proofs.Common.{◌∙◌, arith}
use Rattle.std.proofs.Math.Bool.{true, false}
use mathlib.Core.List.{List, [], ◌∷◌}
use Prim.Native.Nat.{ℕ, suc, ◌+◌, ◌-◌, ◌≤◌, ◌<◌}
use Rattle.std.proofs.Math.ListN.{length}
use borrow.Author.Tests.{eqb-true, eqb-false, leb-false, ltb-false, not-false}
use Rattle.rules.specs.Ceilings.{blob_ceiling, open_ceiling}
use Rattle.rules.specs.Octets.{Bytes, be32, be64, words32, words64, closed}
use Rattle.rules.specs.Outcome.{gives}
use Rattle.rules.specs.Names.{node_name_valid, property_name_valid}
use Rattle.rules.specs.Reservations.{Entry}
use Rattle.rules.specs.Writer.{room, begin_bytes, end_bytes, property_bytes, name_offset, name_growth, growth, property_at, start_bytes, set_boot_cpu, begin_judged, begin_node, begin_node_data, end_judged, end_node, end_node_data, property_judged, property, property_data, property_strings, bad_string, bad_list, phandle_name, phandle_judged, phandle, phandle_data, phandle_strings, phandle_table, finish_judged, finish, start_judged, start}
use Rattle.rules.specs.Written.{Blocks, write_event, write_events, blob_with, blob_of, Call, boot_cpu, begin, end, bytes, null, string, string_list, number32, number64, array32, array64, phandle_call, Desk, property_call, call, run, finished, started, written, said, boot_said, has_said, spelled, unplaced}
use Rattle.rules.specs.Events.{Event, opens, has, closes}
use Rattle.rules.specs.Reader.{events_read}
use Rattle.rules.specs.Demands.{WriteReadWrite}
use Rattle.rules.proofs.Laws.Tests.{or_false}
use Rattle.rules.proofs.Laws.Verdicts.{then_passes}
use Rattle.rules.proofs.Laws.Trips.Tests.{none_fails, begin_tests, begin_tests_lem, end_tests, end_tests_lem, hold_tests, hold_tests_lem, phandle_tests, phandle_tests_lem, finish_tests, finish_tests_lem}
use Rattle.rules.proofs.Laws.Trips.Calls.{Held, begun_desk, held_desk, closed_desk, call_held, run_on, goes_on, accepted, given}
use Rattle.rules.proofs.Laws.Trips.Finish.{nothing, length_with, data_length_lem, strings_length_lem, ends_well, written_blob}
use Rattle.rules.proofs.Laws.Trips.Spelled.{Ready, begin_accepted, hold_accepted, end_accepted}
use Rattle.rules.proofs.Laws.Trips.Again.{start_accepted, finish_accepted, after_gives, boot_ready, start_ready, written_is}
use Rattle.rules.proofs.Laws.Trips.Room.{call_kept, possible_strings, written_room}
use Rattle.rules.proofs.Laws.Trips.Trip.{write_then_read}

-- ---- what a call that was accepted passed, and what it left

module _ (d e : Desk) where
  abbrev n : ℕ
  n = length d.«data»

  record Began (name : Bytes) : Type 0 where
    shallow : d.state.depth < open_ceiling
    valid : node_name_valid name ≡ true
    data_room : d.state.data_length + length (begin_bytes name) ≤ room n
    strings_small : d.state.strings_length ≤ room blob_ceiling
    left : e ≡ begun_desk d name

  began : (name : Bytes) → call d (begin name) ≡ gives e → Began name
  unfolding call begin_node begin_node_data
  began name h =
      let t = then_passes (begin_judged d.state n name) _ e h in
      let p = none_fails (begin_tests d.state n name) (sym (begin_tests_lem d.state n name) ∙ t.0) in
      record {
        shallow = leb-false open_ceiling d.state.depth p.1.0;
        valid = not-false (node_name_valid name) p.1.1.1.0;
        data_room = ltb-false (room n) (d.state.data_length + length (begin_bytes name)) p.1.1.1.1.0;
        strings_small = possible_strings d.state n blob_ceiling p.0;
        left = rw t.0 at (given _ e t.1);
      }

  record Ended (depth : ℕ) : Type 0 where
    inside : 0 < depth
    depth_is : depth ≡ d.state.depth
    data_room : d.state.data_length + length end_bytes ≤ room n
    strings_small : d.state.strings_length ≤ room blob_ceiling
    left : e ≡ closed_desk d

  ended_well : (depth : ℕ) → call d (end depth) ≡ gives e → Ended depth
  unfolding call end_node end_node_data
  ended_well depth h =
      let t = then_passes (end_judged d.state n depth) _ e h in
      let p = none_fails (end_tests d.state n depth) (sym (end_tests_lem d.state n depth) ∙ t.0) in
      let o = or_false (eqb depth 0) (not (eqb depth d.state.depth)) p.1.0 in
      let z = eqb-false depth 0 o.0 in
      record {
        inside = omega arith;
        depth_is = eqb-true depth d.state.depth (not-false (eqb depth d.state.depth) o.1);
        data_room = ltb-false (room n) (d.state.data_length + length end_bytes) p.1.1.0;
        strings_small = possible_strings d.state n blob_ceiling p.0;
        left = rw t.0 at (given _ e t.1);
      }

  record Holding (name value : Bytes) : Type 0 where
    first : d.state.ended ≡ false
    inside : 0 < d.state.depth
    valid : property_name_valid name ≡ true
    data_room : d.state.data_length + length (property_at d.state d.strings name value) ≤ room n
    strings_room : d.state.strings_length + length (growth d.state d.strings name) ≤ room (length d.strings)
    deep : e.state.depth ≡ d.state.depth
    past : e.state.ended ≡ d.state.ended

  held_well : (own : Bool) (name value : Bytes) → property_call d own name value ≡ gives e → Holding name value
  unfolding property_call property property_data property_strings
  held_well own name value h =
      let t = then_passes (property_judged d.state n d.strings own name value) _ e h in
      let p = none_fails (hold_tests d.state n d.strings own name value) (sym (hold_tests_lem d.state n d.strings own name value) ∙ t.0) in
      let q : e ≡ held_desk d name value = rw t.0 at (given _ e t.1) in
      let z = eqb-false d.state.depth 0 p.1.1.1.0 in
      record {
        first = p.1.1.0;
        inside = omega arith;
        valid = not-false (property_name_valid name) p.1.1.1.1.1.0;
        data_room = ltb-false (room n) (d.state.data_length + length (property_at d.state d.strings name value)) p.1.1.1.1.1.1.0;
        strings_room = ltb-false (room (length d.strings)) (d.state.strings_length + length (growth d.state d.strings name)) p.1.1.1.1.1.1.1.0;
        deep = ap (λ (x : Desk). x.state.depth) q;
        past = ap (λ (x : Desk). x.state.ended) q;
      }

  phandle_well : (value : ℕ) → call d (phandle_call value) ≡ gives e → Holding phandle_name (be32 value)
  unfolding call phandle phandle_data phandle_strings phandle_table
  phandle_well value h =
      let t = then_passes (phandle_judged d.state n d.strings d.phandles value) _ e h in
      let p = none_fails (phandle_tests d.state n d.strings d.phandles value)
      (sym (phandle_tests_lem d.state n d.strings d.phandles value) ∙ t.0) in
      let q = rw t.0 at (given _ e t.1) in
      let z = eqb-false d.state.depth 0 p.1.1.1.1.0 in
      record {
        first = p.1.1.1.0;
        inside = omega arith;
        valid = not-false (property_name_valid phandle_name) p.1.1.1.1.1.1.0;
        data_room =
            ltb-false (room n) (d.state.data_length + length (property_at d.state d.strings phandle_name (be32 value))) p.1.1.1.1.1.1.1.0;
        strings_room =
            ltb-false (room (length d.strings)) (d.state.strings_length + length (growth d.state d.strings phandle_name))
            p.1.1.1.1.1.1.1.1.0;
        deep = ap (λ (x : Desk). x.state.depth) q;
        past = ap (λ (x : Desk). x.state.ended) q;
      }

-- ---- a run of calls, and beside it the run of those that its events spell

module _ (rs : List Entry) (cpu' n' m' : ℕ) where
  -- both desks hold the same, and the second has as much room
  record Beside (cpu : ℕ) (w : Blocks) (depth : ℕ) (ended : Bool) (d d' : Desk) : Type 0 where
    held : Held rs cpu w d
    deep : d.state.depth ≡ depth
    past : d.state.ended ≡ ended
    ready : Ready rs cpu' w depth ended n' m' d'
    lent : length d.«data» ≤ n'
    strings_lent : length d.strings ≤ m'

  -- the second comes to its end too, at the depth of the first
  record Ran (w : Blocks) (cs : List Call) (e d' : Desk) : Type 0 where
    left : Desk
    ended : Bool
    ran : run cs d' ≡ gives left
    ready : Ready rs cpu' w e.state.depth ended n' m' left

  ran_on : (w : Blocks) (c : Call) (cs : List Call) (e d' e' : Desk) → call d' c ≡ gives e' → Ran w cs e e' → Ran w (c ∷ cs) e d'
  ran_on w c cs e d' e' h r = record { left = r.left; ended = r.ended; ran = run_on c cs d' ∙ ap (goes_on (run cs)) h ∙ r.ran; ready = r.ready }

  abbrev Goes : List Call → Type 0
  Goes cs =
      (cpu : ℕ) (w : Blocks) (depth : ℕ) (ended : Bool) (d e d' : Desk) → run cs d ≡ gives e → Beside cpu w depth ended d d'
      → Ran (write_events w (said cs)) (spelled depth (said cs)) e d'

  goes_none : Goes []
  unfolding run said spelled write_events
  goes_none cpu w depth ended d e d' g b =
      let q : e ≡ d = given d e g in
      record { left = d'; ended = ended; ran = refl; ready = subst (λ (k : ℕ). Ready rs cpu' w k ended n' m' d') (sym (ap (λ (x : Desk). x.state.depth) q ∙ b.deep)) b.ready }

  goes_boot : (m : ℕ) (cs : List Call) → Goes cs → Goes (boot_cpu m ∷ cs)
  unfolding run call set_boot_cpu said boot_said spelled write_events
  goes_boot m cs ih cpu w depth ended d e d' g b =
      let a = accepted (run cs) (call d (boot_cpu m)) e g in
      let q = given _ a.0 a.1 in
      let k = call_kept d a.0 (boot_cpu m) b.held.strings_fit a.1 in
      ih (boot_said cpu (boot_cpu m ∷ [])) w depth ended a.0 e d' a.2
      (record {
        held = call_held rs cpu w d a.0 (boot_cpu m) b.held a.1;
        deep = ap (λ (x : Desk). x.state.depth) q ∙ b.deep;
        past = ap (λ (x : Desk). x.state.ended) q ∙ b.past;
        ready = b.ready;
        lent = rw k.lent b.lent;
        strings_lent = rw k.strings_lent b.strings_lent;
      })

  goes_begin : (name : Bytes) (cs : List Call) → Goes cs → Goes (begin name ∷ cs)
  unfolding run said boot_said spelled write_events
  goes_begin name cs ih cpu w depth ended d e d' g b =
      let a = accepted (run cs) (call d (begin name)) e g in
      let h = began d a.0 name a.1 in
      let k = call_kept d a.0 (begin name) b.held.strings_fit a.1 in
      let x = data_length_lem rs cpu w d b.held in
      let y = strings_length_lem rs cpu w d b.held in
      let l = b.lent in
      let r = h.data_room in
      let u = h.strings_small in
      let c = begin_accepted rs cpu' n' m' w depth ended d' b.ready name h.valid (rw (← b.deep) h.shallow) (omega arith) (omega arith) in
      ran_on _ (begin name) (spelled (suc depth) (said cs)) e d' c.0 c.1
      (ih (boot_said cpu (begin name ∷ [])) (write_event w (opens 0 name)) (suc depth) false a.0 e c.0 a.2
      (record {
        held = call_held rs cpu w d a.0 (begin name) b.held a.1;
        deep = ap (λ (z : Desk). z.state.depth) h.left ∙ omega (arith, b.deep);
        past = ap (λ (z : Desk). z.state.ended) h.left;
        ready = c.2;
        lent = rw k.lent b.lent;
        strings_lent = rw k.strings_lent b.strings_lent;
      }))

  goes_end : (depth₀ : ℕ) (cs : List Call) → Goes cs → Goes (end depth₀ ∷ cs)
  unfolding run said boot_said spelled write_events
  goes_end depth₀ cs ih cpu w depth ended d e d' g b =
      let a = accepted (run cs) (call d (end depth₀)) e g in
      let h = ended_well d a.0 depth₀ a.1 in
      let k = call_kept d a.0 (end depth₀) b.held.strings_fit a.1 in
      let x = data_length_lem rs cpu w d b.held in
      let y = strings_length_lem rs cpu w d b.held in
      let l = b.lent in
      let r = h.data_room in
      let u = h.strings_small in
      let z : 0 < depth = omega (arith, h.inside, h.depth_is, b.deep) in
      let c = end_accepted rs cpu' n' m' w depth ended d' b.ready z (omega arith) (omega arith) in
      ran_on _ (end depth) (spelled (depth - 1) (said cs)) e d' c.0 c.1
      (ih (boot_said cpu (end depth₀ ∷ [])) (write_event w (closes 0)) (depth - 1) true a.0 e c.0 a.2
      (record {
        held = call_held rs cpu w d a.0 (end depth₀) b.held a.1;
        deep = ap (λ (v : Desk). v.state.depth) h.left ∙ ap (λ (v : ℕ). v - 1) b.deep;
        past = ap (λ (v : Desk). v.state.ended) h.left;
        ready = c.2;
        lent = rw k.lent b.lent;
        strings_lent = rw k.strings_lent b.strings_lent;
      }))

  -- a property, by whatever call
  goes_hold : (c : Call) (name value : Bytes) (cs : List Call) → said (c ∷ cs) ≡ has_said name value ∷ said cs → said (c ∷ []) ≡ has_said name value ∷ []
      → ((d e : Desk) → call d c ≡ gives e → Holding d e name value) → Goes cs → Goes (c ∷ cs)
  unfolding run spelled write_events
  goes_hold c name value cs says says₁ well ih cpu w depth ended d e d' g b =
      let a = accepted (run cs) (call d c) e g in
      let h = well d a.0 a.1 in
      let k = call_kept d a.0 c b.held.strings_fit a.1 in
      let x = data_length_lem rs cpu w d b.held in
      let y = strings_length_lem rs cpu w d b.held in
      let lx : length (property_at d.state d.strings name value) ≡ length (property_bytes (name_offset name w.strings) value) =
      ap (λ (z : Bytes). length (property_bytes (name_offset name z) value)) b.held.strings_held in
      let ly : length (growth d.state d.strings name) ≡ length (name_growth name w.strings) =
      ap (λ (z : Bytes). length (name_growth name z)) b.held.strings_held in
      let l = b.lent in
      let m = b.strings_lent in
      let r = h.data_room in
      let u = h.strings_room in
      let q = hold_accepted rs cpu' n' m' w depth ended d' b.ready name value h.valid (sym b.past ∙ h.first) (rw (← b.deep) h.inside) (omega arith)
      (omega arith) in
      rw says
      (ran_on _ (bytes name value) (spelled depth (said cs)) e d' q.0 q.1
      (ih (boot_said cpu (c ∷ [])) (write_event w (has_said name value)) depth ended a.0 e q.0 a.2
      (record {
        held = rw says₁ at (call_held rs cpu w d a.0 c b.held a.1);
        deep = h.deep ∙ b.deep;
        past = h.past ∙ b.past;
        ready = q.2;
        lent = rw k.lent b.lent;
        strings_lent = rw k.strings_lent b.strings_lent;
      })))

  goes : (cs : List Call) → Goes cs
  unfolding said call
  goes [] = goes_none
  goes (boot_cpu m ∷ cs) = goes_boot m cs (goes cs)
  goes (begin name ∷ cs) = goes_begin name cs (goes cs)
  goes (end depth ∷ cs) = goes_end depth cs (goes cs)
  goes (bytes name value ∷ cs) = goes_hold (bytes name value) name value cs refl refl (λ d e h. held_well d e false name value h) (goes cs)
  goes (null name ∷ cs) = goes_hold (null name) name [] cs refl refl (λ d e h. held_well d e false name [] h) (goes cs)
  goes (string name value ∷ cs) =
      goes_hold (string name value) name (closed value) cs refl refl (λ d e h. held_well d e (bad_string value) name (closed value) h) (goes cs)
  goes (string_list name value ∷ cs) =
      goes_hold (string_list name value) name value cs refl refl (λ d e h. held_well d e (bad_list value) name value h) (goes cs)
  goes (number32 name value ∷ cs) =
      goes_hold (number32 name value) name (be32 value) cs refl refl (λ d e h. held_well d e false name (be32 value) h) (goes cs)
  goes (number64 name value ∷ cs) =
      goes_hold (number64 name value) name (be64 value) cs refl refl (λ d e h. held_well d e false name (be64 value) h) (goes cs)
  goes (array32 name values ∷ cs) =
      goes_hold (array32 name values) name (words32 values) cs refl refl (λ d e h. held_well d e false name (words32 values) h) (goes cs)
  goes (array64 name values ∷ cs) =
      goes_hold (array64 name values) name (words64 values) cs refl refl (λ d e h. held_well d e false name (words64 values) h) (goes cs)
  goes (phandle_call value ∷ cs) =
      goes_hold (phandle_call value) phandle_name (be32 value) cs refl refl (λ d e h. phandle_well d e value h) (goes cs)

-- ---- from start to finish

finish_closed : (d : Desk) (blob : Bytes) → finished d ≡ gives blob → d.state.depth ≡ 0
unfolding finished finish
finish_closed d blob g =
    let k : ℕ = length d.«data» in
    let m : ℕ = length d.strings in
    let t = then_passes (finish_judged d.state k m) _ blob g in
    let p = none_fails (finish_tests d.state k m) (sym (finish_tests_lem d.state k m) ∙ t.0) in
    eqb-true d.state.depth 0 (not-false (eqb d.state.depth 0) p.1.0)

module _ (rs : List Entry) (lent strings : Bytes) (phandles : List ℕ) (cs : List Call) (blob : Bytes)
    (h : written rs lent strings phandles cs ≡ gives blob) (cpu' : ℕ) (lent' strings' : Bytes) (phandles' : List ℕ)
    (more : length lent ≤ length lent') (moreStrings : length strings ≤ length strings') where
  -- CALLS THAT WERE ACCEPTED, SPELLED AGAIN
  pub said_again : written rs lent' strings' phandles' (boot_cpu cpu' ∷ spelled 0 (said cs)) ≡ gives (blob_of rs cpu' (said cs))
  unfolding written start blob_of
  said_again =
      let n' : ℕ = length lent' in
      let m' : ℕ = length strings' in
      let w : Blocks = write_events nothing (said cs) in
      let t = then_passes (start_judged (length lent) rs (length rs)) _ blob h in
      let d : Desk = started rs lent strings phandles in
      let d' : Desk = started rs lent' strings' phandles' in
      let a = ends_well (run cs d) blob t.1 in
      let v = written_room rs lent strings phandles cs blob h in
      let x : length blob ≡ length (start_bytes rs) + (length w.structure + 4) + length w.strings =
      ap length (written_blob rs lent strings phandles cs blob h).0 ∙ length_with rs (boot_said 0 cs) w in
      let y : length (blob_with rs cpu' w) ≡ length blob = length_with rs cpu' w ∙ sym x in
      let v₁ = v.1 in
      let v₂ = v.2 in
      let s = start_accepted rs n' v.0.valid v.0.apart v.0.few (omega arith) in
      let o = start_ready rs lent strings phandles t.0 in
      let b = boot_ready rs cpu' n' m' d' (start_ready rs lent' strings' phandles' s) in
      let r = goes rs cpu' n' m' cs 0 nothing 0 false d a.0 b.0 a.1
      (record {
        held = o.held;
        deep = o.deep;
        past = o.past;
        ready = b.2;
        lent = rw o.lent more;
        strings_lent = rw o.strings_lent moreStrings;
      }) in
      let f = finish_accepted rs cpu' n' m' w r.ended r.left
      (subst (λ (k : ℕ). Ready rs cpu' w k r.ended n' m' r.left) (finish_closed a.0 blob a.2) r.ready) (omega arith) (omega arith) in
      let q : run (boot_cpu cpu' ∷ spelled 0 (said cs)) d' ≡ gives r.left =
      run_on (boot_cpu cpu') (spelled 0 (said cs)) d' ∙ ap (goes_on (run (spelled 0 (said cs)))) b.1 ∙ r.ran in
      written_is rs lent' strings' phandles' s (boot_cpu cpu' ∷ spelled 0 (said cs)) ∙ after_gives _ r.left q ∙ f

-- places are not spelled
spelled_unplaced : (depth : ℕ) (es : List Event) → spelled depth (unplaced es) ≡ spelled depth es
unfolding spelled unplaced
spelled_unplaced depth [] = refl
spelled_unplaced depth (opens place name ∷ es) = rw (spelled_unplaced (suc depth) es)
spelled_unplaced depth (has p ∷ es) = rw (spelled_unplaced depth es)
spelled_unplaced depth (closes place ∷ es) = rw (spelled_unplaced (depth - 1) es)

-- WRITE, READ, WRITE
pub write_read_write : WriteReadWrite
write_read_write rs lent strings phandles cs blob h boot lent' strings' phandles' m n =
    let c = (write_then_read rs lent strings phandles cs blob h boot).0 in
    let e : spelled 0 (events_read blob) ≡ spelled 0 (said cs) =
    sym (spelled_unplaced 0 (events_read blob)) ∙ ap (spelled 0) c.events ∙ spelled_unplaced 0 (said cs) in
    rw (e, c.boot)
    (said_again rs lent strings phandles cs blob h (boot_said 0 cs) lent' strings' phandles' m n
    ∙ ap gives (sym (written_blob rs lent strings phandles cs blob h).0))
