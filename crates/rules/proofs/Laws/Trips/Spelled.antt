-- The calls that events spell: where the events pass the shape and there is room, every call is accepted.
use Rattle.std.specs.Prelude.{◌≡◌, Bool, true, List, [], ◌∷◌, ◌++◌}
use Rattle.std.proofs.Math.Path.{refl, ap}
use Rattle.std.proofs.Common.{sym, ◌∙◌}
use Rattle.std.proofs.Math.Bool.{false}
use Prim.Native.Nat.{ℕ, suc, ◌+◌, ◌-◌, ◌%◌, ◌≤◌, ◌<◌}
use native.Mathlib.Omega.{arith}
use Rattle.std.proofs.Math.ListN.{length, length-append}
use borrow.Author.Tests.{eq-eqb, ne_eqb, le-ltb, lt-leb}
use Rattle.rules.specs.Ceilings.{blob_ceiling, open_ceiling}
use Rattle.rules.specs.Octets.{Bytes}
use Rattle.rules.specs.Outcome.{gives, passes}
use Rattle.rules.specs.Names.{node_name_valid, property_name_valid, property_name_reads}
use Rattle.rules.specs.Reservations.{Entry}
use Rattle.rules.specs.Writer.{State, room, impossible, begin_bytes, end_bytes, property_bytes, name_offset, name_growth, growth, property_at, start_bytes, begin_judged, begin_node, begin_node_data, end_judged, end_node, end_node_data, property_judged, property, property_data, property_strings}
use Rattle.rules.specs.Written.{Blocks, write_event, write_events, Call, begin, end, bytes, Desk, property_call, call, run, said, boot_said, has_said, spelled}
use Rattle.rules.specs.Events.{Property, Event, opens, has, closes}
use Rattle.rules.proofs.Laws.Octets.{length_put}
use Rattle.rules.proofs.Laws.Names.{node_empty, node_name_plain, property_name_plain, plain_closed}
use Rattle.rules.proofs.Laws.Nested.{Nested, finished as All-Said, root, child, holds, shuts}
use Rattle.rules.proofs.Laws.ReadBack.{structure_of, strings_of, strings_grow}
use Rattle.rules.proofs.Laws.Trips.Tests.{first_passes, begin_tests, begin_tests_lem, end_tests, end_tests_lem, hold_tests, hold_tests_lem}
use Rattle.rules.proofs.Laws.Trips.Calls.{Held, begun_desk, held_desk, closed_desk, call_held, run_on, goes_on}
use Rattle.rules.proofs.Laws.Trips.Finish.{length_start, data_length_lem, strings_length_lem}
use Rattle.rules.proofs.Laws.Writer.{length_begin, length_end, length_property}
use Rattle.rules.proofs.Laws.Shape.{some_open, reads_valid}

-- ---- what a desk is ready for

-- `depth` nodes are open, `ended` says whether the innermost has had a child; n and m bytes are lent
pub record Ready (rs : List Entry) (cpu : ℕ) (w : Blocks) (depth : ℕ) (ended : Bool) (n m : ℕ) (d : Desk) : Type 0 where
  pub held : Held rs cpu w d
  pub deep : d.state.depth ≡ depth
  pub past : d.state.ended ≡ ended
  pub going : d.state.finished ≡ false
  pub shallow : depth ≤ open_ceiling
  pub whole : length w.structure % 4 ≡ 0
  pub lent : length d.«data» ≡ n
  pub strings_lent : length d.strings ≡ m

possible_state : (w : State) (n m : ℕ) → w.finished ≡ false → 56 ≤ w.data_length → w.data_length % 4 ≡ 0 → 56 ≤ w.structure
    → w.structure ≤ w.data_length
    → w.depth ≤ open_ceiling → w.data_length ≤ room n → w.strings_length ≤ room m → impossible w n m ≡ false
unfolding impossible
possible_state w n m a b c d e f g h =
    rw (
      a,
      le-ltb w.data_length 56 b,
      eq-eqb (w.data_length % 4) 0 c,
      le-ltb w.structure 56 d,
      le-ltb w.data_length w.structure e,
      le-ltb open_ceiling w.depth f,
      le-ltb (room n) w.data_length g,
      le-ltb (room m) w.strings_length h,
    )

module _ (rs : List Entry) (cpu : ℕ) (n m : ℕ) where
  abbrev s : ℕ
  s = length (start_bytes rs)

  module _ (w : Blocks) (depth : ℕ) (ended : Bool) (d : Desk) (r : Ready rs cpu w depth ended n m d) where
    pub possible : (k : ℕ) → s + length w.structure ≤ room (length d.«data») → length w.strings ≤ room k
        → impossible d.state (length d.«data») k ≡ false
    possible k f g =
        let l = length_start rs in
        let a = data_length_lem rs cpu w d r.held in
        let b = strings_length_lem rs cpu w d r.held in
        let c = r.held.structure in
        let o : d.state.depth ≤ open_ceiling = rw r.deep r.shallow in
        possible_state d.state (length d.«data») k r.going (omega arith) (omega (arith, r.whole)) (omega arith) (omega arith) o
        (omega arith) (omega arith)

    -- opening a node
    pub begin_accepted : (name : Bytes) → node_name_valid name ≡ true → depth < open_ceiling
        → s + (length w.structure + length (begin_bytes name)) ≤ room n
        → length w.strings ≤ blob_ceiling
        → (e : Desk) × (call d (begin name) ≡ gives e) × Ready rs cpu (write_event w (opens 0 name)) (suc depth) false n m e
    unfolding call begin_node begin_node_data write_event write_events said boot_said
    begin_accepted name v o f g =
        let k : ℕ = length d.«data» in
        let a = data_length_lem rs cpu w d r.held in
        let l = r.lent in
        let room-left : d.state.data_length + length (begin_bytes name) ≤ room k = omega arith in
        let t : begin_judged d.state k name ≡ passes =
        begin_tests_lem d.state k name
        ∙ first_passes (begin_tests d.state k name) (
          possible blob_ceiling (omega arith) (omega arith),
          (
            lt-leb open_ceiling d.state.depth (rw r.deep o),
            (plain_closed name (node_name_plain name v), (rw v, (le-ltb (room k) (d.state.data_length + length (begin_bytes name)) room-left, tt))),
          ),
        ) in
        let e : Desk = begun_desk d name in
        let c : call d (begin name) ≡ gives e = rw t in (
          e,
          c,
          record {
            held = call_held rs cpu w d e (begin name) r.held c;
            deep = omega (arith, r.deep);
            past = refl;
            going = r.going;
            shallow = omega arith;
            whole = rw (length-append, length_begin name) (omega (arith, r.whole));
            lent = length_put d.«data» d.state.data_length (begin_bytes name) (omega arith) ∙ l;
            strings_lent = r.strings_lent;
          },
        )

    -- a property
    pub hold_accepted : (name value : Bytes) → property_name_valid name ≡ true → ended ≡ false → 0 < depth
        → s + (length w.structure + length (property_bytes (name_offset name w.strings) value)) ≤ room n
        → length w.strings + length (name_growth name w.strings) ≤ room m
        → (e : Desk) × (call d (bytes name value) ≡ gives e) × Ready rs cpu (write_event w (has_said name value)) depth ended n m e
    unfolding call property_call property property_data property_strings write_event write_events said boot_said
    hold_accepted name value v p o f g =
        let k : ℕ = length d.«data» in
        let j : ℕ = length d.strings in
        let a = data_length_lem rs cpu w d r.held in
        let b = strings_length_lem rs cpu w d r.held in
        let l = r.lent in
        let i = r.strings_lent in
        let x : property_at d.state d.strings name value ≡ property_bytes (name_offset name w.strings) value =
        ap (λ (z : Bytes). property_bytes (name_offset name z) value) r.held.strings_held in
        let y : growth d.state d.strings name ≡ name_growth name w.strings = ap (name_growth name) r.held.strings_held in
        let lx = ap length x in
        let ly = ap length y in
        let t : property_judged d.state k d.strings false name value ≡ passes =
        hold_tests_lem d.state k d.strings false name value
        ∙ first_passes (hold_tests d.state k d.strings false name value) (
          possible j (omega arith) (omega arith),
          (
            refl,
            (
              r.past ∙ p,
              (
                ne_eqb d.state.depth 0 (λ (z : d.state.depth ≡ 0). omega (arith, r.deep)),
                (
                  plain_closed name (property_name_plain name v),
                  (
                    rw v,
                    (
                      le-ltb (room k) (d.state.data_length + length (property_at d.state d.strings name value)) (omega arith),
                      (le-ltb (room j) (d.state.strings_length + length (growth d.state d.strings name)) (omega arith), tt),
                    ),
                  ),
                ),
              ),
            ),
          ),
        ) in
        let e : Desk = held_desk d name value in
        let c : call d (bytes name value) ≡ gives e = rw t in (
          e,
          c,
          record {
            held = call_held rs cpu w d e (bytes name value) r.held c;
            deep = r.deep;
            past = r.past;
            going = r.going;
            shallow = r.shallow;
            whole = rw (length-append, length_property (name_offset name w.strings) value) (omega (arith, r.whole));
            lent = length_put d.«data» d.state.data_length (property_at d.state d.strings name value) (omega arith) ∙ l;
            strings_lent = length_put d.strings d.state.strings_length (growth d.state d.strings name) (omega arith) ∙ i;
          },
        )

    -- closing a node
    pub end_accepted : 0 < depth → s + (length w.structure + length end_bytes) ≤ room n → length w.strings ≤ blob_ceiling
        → (e : Desk) × (call d (end depth) ≡ gives e) × Ready rs cpu (write_event w (closes 0)) (depth - 1) true n m e
    unfolding call end_node end_node_data write_event write_events said boot_said
    end_accepted o f g =
        let k : ℕ = length d.«data» in
        let a = data_length_lem rs cpu w d r.held in
        let l = r.lent in
        let t : end_judged d.state k depth ≡ passes =
        end_tests_lem d.state k depth
        ∙ first_passes (end_tests d.state k depth) (
          possible blob_ceiling (omega arith) (omega arith),
          (
            rw (ne_eqb depth 0 (λ (z : depth ≡ 0). omega arith), eq-eqb depth d.state.depth (sym r.deep)),
            (le-ltb (room k) (d.state.data_length + length end_bytes) (omega arith), tt),
          ),
        ) in
        let e : Desk = closed_desk d in
        let c : call d (end depth) ≡ gives e = rw t in (
          e,
          c,
          record {
            held = call_held rs cpu w d e (end depth) r.held c;
            deep = ap (λ (z : ℕ). z - 1) r.deep;
            past = refl;
            going = r.going;
            shallow = omega (arith, r.shallow);
            whole = rw (length-append, length_end) (omega (arith, r.whole));
            lent = length_put d.«data» d.state.data_length end_bytes (omega arith) ∙ l;
            strings_lent = r.strings_lent;
          },
        )

  -- ---- a run of calls

  pub record Ran (w : Blocks) (cs : List Call) (d : Desk) : Type 0 where
    pub left : Desk
    pub ended : Bool
    pub ran : run cs d ≡ gives left
    pub ready : Ready rs cpu w 0 ended n m left

  -- one call that is accepted, and then the others
  ran_on : (w : Blocks) (c : Call) (cs : List Call) (d e : Desk) → call d c ≡ gives e → Ran w cs e → Ran w (c ∷ cs) d
  ran_on w c cs d e h r = record { left = r.left; ended = r.ended; ran = run_on c cs d ∙ ap (goes_on (run cs)) h ∙ r.ran; ready = r.ready }

  ran_none : (d : Desk) → run [] d ≡ gives d
  unfolding run
  ran_none d = refl

  strings_le : (strings : Bytes) (es : List Event) → length strings ≤ length (strings_of strings es)
  strings_le strings es = let g = strings_grow strings es in rw (g.1, length-append strings g.0) (omega arith)

  property_valid : (name : Bytes) → property_name_reads name ≡ true → property_name_valid name ≡ true
  unfolding property_name_reads
  property_valid name h = h

  -- there is room for what is held and for events
  pub record Fitting (w : Blocks) (es : List Event) : Type 0 where
    pub data_room : s + (length w.structure + length (structure_of w.strings es)) ≤ room n
    pub strings_room : length (strings_of w.strings es) ≤ room m

  module _ (w : Blocks) (es : List Event) where
    fitting_begin : (place : ℕ) (name : Bytes) → Fitting w (opens place name ∷ es)
        → (s + (length w.structure + length (begin_bytes name)) ≤ room n)
        × (length w.strings ≤ blob_ceiling)
        × Fitting (write_event w (opens place name)) es
    unfolding write_event structure_of strings_of
    fitting_begin place name f =
        let a = f.data_room in
        let b = f.strings_room in
        let l = length-append (begin_bytes name) (structure_of w.strings es) in
        let k = strings_le w.strings es in
        (omega arith, omega arith, record { data_room = rw (length-append w.structure (begin_bytes name)) (omega arith); strings_room = b })

    fitting_end : (place : ℕ) → Fitting w (closes place ∷ es)
        → (s + (length w.structure + length end_bytes) ≤ room n) × (length w.strings ≤ blob_ceiling) × Fitting (write_event w (closes place)) es
    unfolding write_event structure_of strings_of
    fitting_end place f =
        let a = f.data_room in
        let b = f.strings_room in
        let l = length-append end_bytes (structure_of w.strings es) in
        let k = strings_le w.strings es in
        (omega arith, omega arith, record { data_room = rw (length-append w.structure end_bytes) (omega arith); strings_room = b })

    fitting_hold : (p : Property) → Fitting w (has p ∷ es)
        → (s + (length w.structure + length (property_bytes (name_offset p.name w.strings) p.value)) ≤ room n)
        × (length w.strings + length (name_growth p.name w.strings) ≤ room m)
        × Fitting (write_event w (has p)) es
    unfolding write_event structure_of strings_of
    fitting_hold p f =
        let x : Bytes = property_bytes (name_offset p.name w.strings) p.value in
        let y : Bytes = name_growth p.name w.strings in
        let a = f.data_room in
        let b = f.strings_room in
        let l = length-append x (structure_of (w.strings ++ y) es) in
        let k = strings_le (w.strings ++ y) es in
        let j = length-append w.strings y in
        (omega arith, omega arith, record { data_room = rw (length-append w.structure x) (omega arith); strings_room = b })

    -- the calls from here on, whatever the desk
    abbrev Runs : ℕ → Bool → Type 0
    Runs depth ended = (d : Desk) → Ready rs cpu w depth ended n m d → Ran (write_events w es) (spelled depth es) d

  runs_begin : (w : Blocks) (es : List Event) (place depth : ℕ) (ended : Bool) (name : Bytes) → node_name_valid name ≡ true → depth < open_ceiling
      → Fitting w (opens place name ∷ es) → Runs (write_event w (opens place name)) es (suc depth) false → Runs w (opens place name ∷ es) depth ended
  unfolding spelled write_events write_event
  runs_begin w es place depth ended name v o f h d r =
      let g = fitting_begin w es place name f in
      let c = begin_accepted w depth ended d r name v o g.0 g.1 in
      ran_on _ (begin name) (spelled (suc depth) es) d c.0 c.1 (h c.0 c.2)

  runs_hold : (w : Blocks) (es : List Event) (depth : ℕ) (p : Property) → property_name_valid p.name ≡ true → 0 < depth
      → Fitting w (has p ∷ es) → Runs (write_event w (has p)) es depth false → Runs w (has p ∷ es) depth false
  unfolding spelled write_events write_event
  runs_hold w es depth p v o f h d r =
      let g = fitting_hold w es p f in
      let c = hold_accepted w depth false d r p.name p.value v refl o g.0 g.1 in
      ran_on _ (bytes p.name p.value) (spelled depth es) d c.0 c.1 (h c.0 c.2)

  runs_end : (w : Blocks) (es : List Event) (place depth : ℕ) (ended : Bool) → Fitting w (closes place ∷ es)
      → Runs (write_event w (closes place)) es depth true → Runs w (closes place ∷ es) (suc depth) ended
  unfolding spelled write_events write_event
  runs_end w es place depth ended f h d r =
      let g = fitting_end w es place f in
      let c = end_accepted w (suc depth) ended d r (omega arith) g.0 g.1 in
      let q : suc depth - 1 ≡ depth = omega arith in
      ran_on _ (end (suc depth)) (spelled (suc depth - 1) es) d c.0 c.1 (rw q (h c.0 (rw q at c.2)))

  runs_none : (w : Blocks) (ended : Bool) → Runs w [] 0 ended
  unfolding spelled write_events
  runs_none w ended d r = record { left = d; ended = ended; ran = ran_none d; ready = r }

  -- THE CALLS THAT EVENTS SPELL ARE ACCEPTED, GIVEN ROOM
  pub spelled_runs : {ended : Bool} {stack : List ℕ} {count : ℕ} {es : List Event} → Nested ended stack count es → (w : Blocks) → Fitting w es
      → Runs w es (length stack) ended
  spelled_runs (All-Said {ended = ended} z) w f = runs_none w ended
  spelled_runs (root {ended = ended} {place = place} {name = name} {es = es} z e t) w f =
      runs_begin w es place 0 ended name (node_empty name e) (omega (arith, some_open)) f
      (spelled_runs t (write_event w (opens place name)) (fitting_begin w es place name f).2)
  spelled_runs (child {ended = ended} {i = i} {place = place} {is = is} {name = name} {es = es} e o q t) w f =
      runs_begin w es place (length (i ∷ is)) ended name (reads_valid name e) o f
      (spelled_runs t (write_event w (opens place name)) (fitting_begin w es place name f).2)
  spelled_runs (holds {i = i} {is = is} {p = p} {es = es} e t) w f =
      runs_hold w es (length (i ∷ is)) p (property_valid p.name e) (omega arith) f
      (spelled_runs t (write_event w (has p)) (fitting_hold w es p f).2)
  spelled_runs (shuts {ended = ended} {place = place} {is = is} {es = es} t) w f =
      runs_end w es place (length is) ended f (spelled_runs t (write_event w (closes place)) (fitting_end w es place f).2)
