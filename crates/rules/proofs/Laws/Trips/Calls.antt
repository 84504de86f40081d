-- What calls leave: after each call that is accepted the desk holds the bytes of the events said so far, and the finished blob is theirs.
use Rattle.std.specs.Prelude.{◌≡◌, refl, Bool, false, List, [], ◌∷◌, ◌++◌, ℕ, ◌+◌, ◌≤◌, take}
use Rattle.std.proofs.Math.Path.{sym}
use Rattle.std.proofs.Common.{ap, ◌∙◌, subst, append_assoc, append-nil, arith}
use Rattle.std.proofs.Math.ListN.{length}
use Rattle.rules.specs.Octets.{Bytes, be32, be64, words32, words64, closed, put}
use Rattle.rules.specs.Outcome.{Outcome, gives, refuses}
use Rattle.rules.specs.Reservations.{Entry}
use Rattle.rules.specs.Writer.{begun, closed_node, with_property, with_phandle, begin_bytes, end_bytes, growth, property_at, start_bytes, set_boot_cpu, begin_judged, begin_node, begin_node_data, end_judged, end_node, end_node_data, property_judged, property, property_data, property_strings, bad_string, bad_list, phandle_name, phandle_judged, phandle, phandle_data, phandle_strings, phandle_table}
use Rattle.rules.specs.Written.{Blocks, write_event, write_events, Call, boot_cpu, begin, end, bytes, null, string, string_list, number32, number64, array32, array64, phandle_call, Desk, property_call, call, run, has_said, said, boot_said}
use Rattle.rules.proofs.Laws.Octets.{length_put, take_put, put_nil}
use Rattle.rules.proofs.Laws.Verdicts.{then_passes, gives_refuses}
use Rattle.rules.proofs.Laws.Trips.Tests.{none_fails, roomy, begin_tests, begin_tests_lem, end_tests, end_tests_lem, hold_tests, hold_tests_lem, phandle_tests, phandle_tests_lem}

-- ---- what a desk holds

-- the start's bytes and the structure so far, the strings so far, the boot CPU
pub record Held (rs : List Entry) (cpu : ℕ) (w : Blocks) (d : Desk) : Type 0 where
  pub structure : d.state.structure ≡ length (start_bytes rs)
  pub data_fits : d.state.data_length ≤ length d.«data»
  pub data_held : take d.state.data_length d.«data» ≡ start_bytes rs ++ w.structure
  pub strings_fit : d.state.strings_length ≤ length d.strings
  pub strings_held : take d.state.strings_length d.strings ≡ w.strings
  pub boot : d.state.boot_cpu ≡ cpu

-- bytes laid behind what is held
taken : (d : Bytes) (n : ℕ) (held x : Bytes) → n + length x ≤ length d → take n d ≡ held → take (n + length x) (put d n x) ≡ held ++ x
taken d n held x h e = take_put d n x (omega arith) ∙ ap (λ (l : Bytes). l ++ x) e

-- a desk on which x is laid behind the data and y behind the strings
pub record Laid (d : Desk) (x y : Bytes) (e : Desk) : Type 0 where
  pub data_room : d.state.data_length + length x ≤ length d.«data»
  pub strings_room : d.state.strings_length + length y ≤ length d.strings
  pub data_laid : e.«data» ≡ put d.«data» d.state.data_length x
  pub strings_laid : e.strings ≡ put d.strings d.state.strings_length y
  pub data_length : e.state.data_length ≡ d.state.data_length + length x
  pub strings_length : e.state.strings_length ≡ d.state.strings_length + length y
  pub structure : e.state.structure ≡ d.state.structure
  pub boot : e.state.boot_cpu ≡ d.state.boot_cpu

pub laid_held : (rs : List Entry) (cpu : ℕ) (w : Blocks) (d e : Desk) (x y : Bytes) → Held rs cpu w d → Laid d x y e
    → Held rs cpu (record { structure = w.structure ++ x; strings = w.strings ++ y }) e
laid_held rs cpu w d e x y h l =
    record {
      structure = l.structure ∙ h.structure;
      data_fits = rw (l.data_length, l.data_laid, length_put d.«data» d.state.data_length x l.data_room) l.data_room;
      data_held =
          rw (l.data_length, l.data_laid)
          (taken d.«data» d.state.data_length (start_bytes rs ++ w.structure) x l.data_room h.data_held
          ∙ append_assoc (start_bytes rs) w.structure x);
      strings_fit = rw (l.strings_length, l.strings_laid, length_put d.strings d.state.strings_length y l.strings_room) l.strings_room;
      strings_held =
          rw (l.strings_length, l.strings_laid)
          (taken d.strings d.state.strings_length w.strings y l.strings_room h.strings_held);
      boot = l.boot ∙ h.boot;
    }

-- where nothing is laid behind the strings
pub laid_data : (rs : List Entry) (cpu : ℕ) (w : Blocks) (d e : Desk) (x : Bytes) → Held rs cpu w d → Laid d x [] e
    → Held rs cpu (record { structure = w.structure ++ x; strings = w.strings }) e
laid_data rs cpu w d e x h l =
    subst (λ (s : Bytes). Held rs cpu (record { structure = w.structure ++ x; strings = s }) e) (append-nil w.strings)
    (laid_held rs cpu w d e x [] h l)

-- ---- one call

-- the desk after a node is opened, a property, and a node is closed
abbrev pub begun_desk : Desk → Bytes → Desk
begun_desk d name =
    record {
      state = begun d.state name;
      «data» = put d.«data» d.state.data_length (begin_bytes name);
      strings = d.strings;
      phandles = d.phandles;
    }

abbrev pub held_desk : Desk → Bytes → Bytes → Desk
held_desk d name value =
    record {
      state = with_property d.state d.strings name value;
      «data» = put d.«data» d.state.data_length (property_at d.state d.strings name value);
      strings = put d.strings d.state.strings_length (growth d.state d.strings name);
      phandles = d.phandles;
    }

abbrev pub closed_desk : Desk → Desk
closed_desk d =
    record {
      state = closed_node d.state;
      «data» = put d.«data» d.state.data_length end_bytes;
      strings = d.strings;
      phandles = d.phandles;
    }

pub given : {A : Type 0} (a b : A) → ◌≡◌ {A = Outcome A} (gives a) (gives b) → b ≡ a
given a b e = cc

module _ (d e : Desk) where
  abbrev n : ℕ
  n = length d.«data»

  pub begin_laid : (name : Bytes) → d.state.strings_length ≤ length d.strings → call d (begin name) ≡ gives e → Laid d (begin_bytes name) [] e
  unfolding call begin_node begin_node_data
  begin_laid name s h =
      let t = then_passes (begin_judged d.state n name) _ e h in
      let p = none_fails (begin_tests d.state n name) (sym (begin_tests_lem d.state n name) ∙ t.0) in
      let r = roomy n (d.state.data_length + length (begin_bytes name)) p.1.1.1.1.0 in
      let q : e ≡ begun_desk d name = rw t.0 at (given _ e t.1) in
      rw q
      (record {
        data_room = r.0;
        strings_room = omega arith;
        data_laid = refl;
        strings_laid = sym (put_nil d.strings d.state.strings_length);
        data_length = refl;
        strings_length = omega arith;
        structure = refl;
        boot = refl;
      })

  pub end_laid : (depth : ℕ) → d.state.strings_length ≤ length d.strings → call d (end depth) ≡ gives e → Laid d end_bytes [] e
  unfolding call end_node end_node_data
  end_laid depth s h =
      let t = then_passes (end_judged d.state n depth) _ e h in
      let p = none_fails (end_tests d.state n depth) (sym (end_tests_lem d.state n depth) ∙ t.0) in
      let r = roomy n (d.state.data_length + length end_bytes) p.1.1.0 in
      let q : e ≡ closed_desk d = rw t.0 at (given _ e t.1) in
      rw q
      (record {
        data_room = r.0;
        strings_room = omega arith;
        data_laid = refl;
        strings_laid = sym (put_nil d.strings d.state.strings_length);
        data_length = refl;
        strings_length = omega arith;
        structure = refl;
        boot = refl;
      })

  pub hold_laid : (own : Bool) (name value : Bytes) → property_call d own name value ≡ gives e
      → Laid d (property_at d.state d.strings name value) (growth d.state d.strings name) e
  unfolding property_call property property_data property_strings
  hold_laid own name value h =
      let t = then_passes (property_judged d.state n d.strings own name value) _ e h in
      let p = none_fails (hold_tests d.state n d.strings own name value) (sym (hold_tests_lem d.state n d.strings own name value) ∙ t.0) in
      let r = roomy n (d.state.data_length + length (property_at d.state d.strings name value)) p.1.1.1.1.1.1.0 in
      let s = roomy (length d.strings) (d.state.strings_length + length (growth d.state d.strings name)) p.1.1.1.1.1.1.1.0 in
      let q : e ≡ held_desk d name value = rw t.0 at (given _ e t.1) in
      rw q
      (record {
        data_room = r.0;
        strings_room = s.0;
        data_laid = refl;
        strings_laid = refl;
        data_length = refl;
        strings_length = refl;
        structure = refl;
        boot = refl;
      })

  pub phandle_laid : (value : ℕ) → call d (phandle_call value) ≡ gives e
      → Laid d (property_at d.state d.strings phandle_name (be32 value)) (growth d.state d.strings phandle_name) e
  unfolding call phandle phandle_data phandle_strings phandle_table
  phandle_laid value h =
      let t = then_passes (phandle_judged d.state n d.strings d.phandles value) _ e h in
      let p = none_fails (phandle_tests d.state n d.strings d.phandles value)
      (sym (phandle_tests_lem d.state n d.strings d.phandles value) ∙ t.0) in
      let r = roomy n (d.state.data_length + length (property_at d.state d.strings phandle_name (be32 value))) p.1.1.1.1.1.1.1.0 in
      let s = roomy (length d.strings) (d.state.strings_length + length (growth d.state d.strings phandle_name))
      p.1.1.1.1.1.1.1.1.0 in
      let q : e
      ≡ record {
        state = with_phandle d.state d.strings value;
        «data» = put d.«data» d.state.data_length (property_at d.state d.strings phandle_name (be32 value));
        strings = put d.strings d.state.strings_length (growth d.state d.strings phandle_name);
        phandles = put d.phandles d.state.phandle_count (value ∷ []);
      } = rw t.0 at (given _ e t.1) in
      rw q
      (record {
        data_room = r.0;
        strings_room = s.0;
        data_laid = refl;
        strings_laid = refl;
        data_length = refl;
        strings_length = refl;
        structure = refl;
        boot = refl;
      })

-- A PROPERTY, as an event
hold_held : (rs : List Entry) (cpu : ℕ) (w : Blocks) (d e : Desk) (name value : Bytes) → Held rs cpu w d
    → Laid d (property_at d.state d.strings name value) (growth d.state d.strings name) e
    → Held rs cpu (write_event w (has_said name value)) e
unfolding write_event
hold_held rs cpu w d e name value h l = laid_held rs cpu w d e _ _ h (rw h.strings_held at l)

-- another boot CPU
pub boot_held : (rs : List Entry) (cpu m : ℕ) (w : Blocks) (d : Desk) → Held rs cpu w d
    → Held rs m w (record { state = set_boot_cpu d.state m; «data» = d.«data»; strings = d.strings; phandles = d.phandles })
unfolding set_boot_cpu
boot_held rs cpu m w d h =
    record {
      structure = h.structure;
      data_fits = h.data_fits;
      data_held = h.data_held;
      strings_fit = h.strings_fit;
      strings_held = h.strings_held;
      boot = refl;
    }

-- ONE CALL: its events are written behind the others
pub call_held : (rs : List Entry) (cpu : ℕ) (w : Blocks) (d e : Desk) (c : Call) → Held rs cpu w d → call d c ≡ gives e
    → Held rs (boot_said cpu (c ∷ [])) (write_events w (said (c ∷ []))) e
unfolding said boot_said write_events write_event call set_boot_cpu
call_held rs cpu w d e (boot_cpu m) h g =
    rw (given _ e g) (boot_held rs cpu m w d h)
call_held rs cpu w d e (begin name) h g = laid_data rs cpu w d e (begin_bytes name) h (begin_laid d e name h.strings_fit g)
call_held rs cpu w d e (end depth) h g = laid_data rs cpu w d e end_bytes h (end_laid d e depth h.strings_fit g)
call_held rs cpu w d e (bytes name value) h g = hold_held rs cpu w d e name value h (hold_laid d e false name value g)
call_held rs cpu w d e (null name) h g = hold_held rs cpu w d e name [] h (hold_laid d e false name [] g)
call_held rs cpu w d e (string name value) h g =
    hold_held rs cpu w d e name (closed value) h (hold_laid d e (bad_string value) name (closed value) g)
call_held rs cpu w d e (string_list name value) h g = hold_held rs cpu w d e name value h (hold_laid d e (bad_list value) name value g)
call_held rs cpu w d e (number32 name value) h g = hold_held rs cpu w d e name (be32 value) h (hold_laid d e false name (be32 value) g)
call_held rs cpu w d e (number64 name value) h g = hold_held rs cpu w d e name (be64 value) h (hold_laid d e false name (be64 value) g)
call_held rs cpu w d e (array32 name values) h g = hold_held rs cpu w d e name (words32 values) h (hold_laid d e false name (words32 values) g)
call_held rs cpu w d e (array64 name values) h g = hold_held rs cpu w d e name (words64 values) h (hold_laid d e false name (words64 values) g)
call_held rs cpu w d e (phandle_call value) h g = hold_held rs cpu w d e phandle_name (be32 value) h (phandle_laid d e value g)

-- ---- a run of calls

said_more : (w : Blocks) (c : Call) (cs : List Call) → write_events (write_events w (said (c ∷ []))) (said cs) ≡ write_events w (said (c ∷ cs))
unfolding said write_events
said_more w (boot_cpu n) cs = refl
said_more w (begin name) cs = refl
said_more w (end depth) cs = refl
said_more w (bytes name value) cs = refl
said_more w (null name) cs = refl
said_more w (string name value) cs = refl
said_more w (string_list name value) cs = refl
said_more w (number32 name value) cs = refl
said_more w (number64 name value) cs = refl
said_more w (array32 name values) cs = refl
said_more w (array64 name values) cs = refl
said_more w (phandle_call value) cs = refl

boot_more : (n : ℕ) (c : Call) (cs : List Call) → boot_said (boot_said n (c ∷ [])) cs ≡ boot_said n (c ∷ cs)
unfolding boot_said
boot_more n (boot_cpu m) cs = refl
boot_more n (begin name) cs = refl
boot_more n (end depth) cs = refl
boot_more n (bytes name value) cs = refl
boot_more n (null name) cs = refl
boot_more n (string name value) cs = refl
boot_more n (string_list name value) cs = refl
boot_more n (number32 name value) cs = refl
boot_more n (number64 name value) cs = refl
boot_more n (array32 name values) cs = refl
boot_more n (array64 name values) cs = refl
boot_more n (phandle_call value) cs = refl

-- what follows one call
abbrev pub goes_on : (Desk → Outcome Desk) → Outcome Desk → Outcome Desk
goes_on go o = elim o [ gives e ↦ go e | refuses number place ↦ refuses number place ]

pub run_on : (c : Call) (cs : List Call) (d : Desk) → run (c ∷ cs) d ≡ goes_on (run cs) (call d c)
unfolding run
run_on c cs d = refl

pub accepted : (go : Desk → Outcome Desk) (o : Outcome Desk) (e : Desk) → goes_on go o ≡ gives e → (m : Desk) × (o ≡ gives m) × (go m ≡ gives e)
accepted go (gives m) e h = (m, refl, h)
accepted go (refuses number place) e h = gives_refuses e number place h

-- A RUN OF CALLS LEAVES THE EVENTS THAT IT SAYS
pub run_held : (rs : List Entry) (cpu : ℕ) (w : Blocks) (cs : List Call) (d e : Desk) → Held rs cpu w d → run cs d ≡ gives e
    → Held rs (boot_said cpu cs) (write_events w (said cs)) e
unfolding run said boot_said write_events
run_held rs cpu w [] d e h g = rw (given d e g) h
run_held rs cpu w (c ∷ cs) d e h g =
    let a = accepted (run cs) (call d c) e g in
    let i = run_held rs (boot_said cpu (c ∷ [])) (write_events w (said (c ∷ []))) cs a.0 e (call_held rs cpu w d a.0 c h a.1) a.2 in
    rw (boot_more cpu c cs, said_more w c cs) at i
