-- `property_phandle`: what its call answers and leaves.
use Rattle.std.specs.Prelude.{Result, Ok, Err}
use mathlib.Core.Path.{◌≡◌, refl, sym, ap, ◌∙◌}
use mathlib.Core.Bool.{false}
use mathlib.Core.List.{List, [], ◌∷◌, ◌++◌}
use Prim.Native.Nat.{ℕ, ◌+◌, ◌≤◌}
use native.Mathlib.Omega.{arith}
use lib.Dec.{ltb}
use lib.ListN.{length, take}
use borrow.Author.Tests.{ltb-false}
use Rattle.rules.specs.Octets.{Bytes, be32, lay}
use Rattle.rules.specs.Lists.{one_of}
use Rattle.rules.specs.Outcome.{gives, refuses, Verdict, passes, first, ◌then◌}
use Rattle.rules.specs.Writer.{State, wrong_state, name_offset, test, strings_of, growth, property_bytes, property_at, property_tests, phandle_name, phandle_judged, with_phandle, phandle, phandle_data, phandle_strings, phandle_table}
use Rattle.judge.specs.Meaning.{number_of}
use Rattle.judge.specs.Judged.{outcome_of, sized, placed, phandle_placed, grown}
use Rattle.judge.specs.declared.Error.{Error}
use Rattle.judge.proofs.Properties.{gives_judged, refuses_judged}
use Rattle.judge.proofs.Phandles.{table_test, phandle_size, phandle_on}
use Rattle.writer.proofs.Passed.{all_passed, answer_refused, answer_done, kept, changed}
use Rattle.writer.proofs.Properties.{was_placed, Placed}

-- the state with `size` bytes of data, `more` of strings, and one number noted
abbrev pub with_entry : State → (size more : ℕ) → State
with_entry w size more =
    record {
      data_length = w.data_length + size;
      structure = w.structure;
      strings_length = w.strings_length + more;
      phandle_count = w.phandle_count + 1;
      depth = w.depth;
      ended = w.ended;
      finished = w.finished;
      boot_cpu = w.boot_cpu;
    }

then_passed : (v u : Verdict) → passes ≡ (v then u) → passes ≡ v
then_passed (gives x) u e = refl
then_passed (refuses n p) u e = e

pub record Noted (w : State) (lent : ℕ) (strings : Bytes) (phandles : List ℕ) (value offset : ℕ) : Type 0 where
  pub judged : passes ≡ phandle_judged w lent strings phandles value
  pub entry : w.phandle_count + 1 ≤ length phandles
  pub place : Placed w lent strings phandle_name 16 offset

pub was_noted : (w : State) (lent : ℕ) (strings : Bytes) (phandles : List ℕ) (value offset : ℕ) → gives offset ≡ phandle_placed w lent strings phandles value → Noted w lent strings phandles value offset
unfolding phandle_placed phandle_judged placed
was_noted w lent strings phandles value offset e =
    let v = gives_judged (phandle_judged w lent strings phandles value) offset (name_offset phandle_name (strings_of w strings)) e in
    let t =
    all_passed
    (wrong_state w lent (length strings)
    ∷ test (ltb (length phandles) w.phandle_count) 34
    ∷ test (one_of value (take w.phandle_count phandles)) 32
    ∷ (property_tests w lent strings phandle_name (be32 value)
    ++ test (ltb (length phandles) (w.phandle_count + 1)) 33
    ∷ []))
    v.0 in
    let s = then_passed (sized w lent strings false phandle_name 16) (first (table_test w phandles ∷ [])) (v.0 ∙ phandle_on w lent strings phandles value t.0 t.1.0 t.1.1.0) in
    let p : gives offset ≡ placed w lent strings false phandle_name 16 = rw (← s) (ap gives v.1) in
    record {
      judged = v.0;
      entry = ltb-false (length phandles) (w.phandle_count + 1) t.1.1.1.1.1.1.1.1.1.0;
      place = was_placed w lent strings false phandle_name 16 offset p;
    }

-- the same of what the judge answered
pub at_noted : (w : State) (lent : ℕ) (strings : Bytes) (phandles : List ℕ) (value offset : ℕ) (x : State) → x ≡ w → (r : Result ℕ Error) → r ≡ Ok offset
    → outcome_of r ≡ phandle_placed x lent strings phandles value → Noted w lent strings phandles value offset
at_noted w lent strings phandles value offset x h r t e =
    was_noted w lent strings phandles value offset (ap outcome_of (sym t) ∙ e ∙ ap (λ (y : State). phandle_placed y lent strings phandles value) h)

-- ---- what a call answers and leaves

module _ (w : State) (d strings : Bytes) (phandles : List ℕ) (value : ℕ) (y : State) (same : y ≡ w) (r : Result ℕ Error) (f : outcome_of r ≡ phandle_placed y (length d) strings phandles value) where
  judged_so : outcome_of r ≡ phandle_placed w (length d) strings phandles value
  judged_so = f ∙ ap (λ (v : State). phandle_placed v (length d) strings phandles value) same

  pub phandle_refused : (e : Error) → r ≡ Err e
      → (record { verdict = refuses (number_of e) 0; state = w } ≡ phandle w (length d) strings phandles value)
      × ((d ≡ phandle_data w d strings phandles value)
      × ((strings ≡ phandle_strings w (length d) strings phandles value)
      × (phandles ≡ phandle_table w (length d) strings phandles value)))
  unfolding phandle_placed phandle phandle_data phandle_strings phandle_table
  phandle_refused e t =
      let n = number_of e in
      let v : refuses n 0 ≡ phandle_judged w (length d) strings phandles value = refuses_judged _ n _ (ap outcome_of (sym t) ∙ judged_so) in
      (answer_refused _ n w (with_phandle w strings value) v, (kept _ n d _ v, (kept _ n strings _ v, kept _ n phandles _ v)))

  pub phandle_done : (offset : ℕ) → r ≡ Ok offset → (d₁ s₁ : Bytes) (t₁ : List ℕ) (x : State)
      → d₁ ≡ lay d w.data_length (property_bytes offset (be32 value))
      → s₁ ≡ lay strings w.strings_length (grown offset w.strings_length phandle_name)
      → t₁ ≡ lay phandles w.phandle_count (value ∷ [])
      → x ≡ with_entry w 16 (length (grown offset w.strings_length phandle_name))
      → (record { verdict = passes; state = x } ≡ phandle w (length d) strings phandles value)
      × ((d₁ ≡ phandle_data w d strings phandles value)
      × ((s₁ ≡ phandle_strings w (length d) strings phandles value)
      × (t₁ ≡ phandle_table w (length d) strings phandles value)))
  unfolding phandle phandle_data phandle_strings phandle_table
  phandle_done offset t d₁ s₁ t₁ x g h k l =
      let q = was_noted w (length d) strings phandles value offset (ap outcome_of (sym t) ∙ judged_so) in
      let p = q.place in
      let v = q.judged in
      let n = phandle_size w (length d) strings phandles value in (
        rw (l, ← n, ← p.grows) (answer_done _ w (with_phandle w strings value) v),
        (
          changed _ d d₁ w.data_length (property_at w strings phandle_name (be32 value)) v (omega (arith, p.data_fits)) (rw p.found at g),
          (
            changed _ strings s₁ w.strings_length (growth w strings phandle_name) v p.strings_fit (rw (← p.grows) at h),
            changed _ phandles t₁ w.phandle_count (value ∷ []) v q.entry k,
          ),
        ),
      )
