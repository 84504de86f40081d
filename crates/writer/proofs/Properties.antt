-- A property whose tests were judged by its size: what is known where they pass, and what its call answers and leaves.
use Rattle.std.specs.Prelude.{Result, Ok, Err}
use mathlib.Core.Path.{◌≡◌, sym, ap, ◌∙◌}
use mathlib.Core.Bool.{Bool, not}
use mathlib.Core.List.{[], ◌∷◌}
use Prim.Native.Nat.{ℕ, ◌+◌, ◌≤◌}
use native.Mathlib.Omega.{arith}
use lib.Dec.{eqb}
use lib.ListN.{length}
use Rattle.rules.specs.Ceilings.{blob_ceiling}
use Rattle.rules.specs.Octets.{Bytes, padded, lay, has_nul}
use Rattle.rules.specs.Names.{property_name_valid}
use Rattle.rules.specs.Outcome.{gives, refuses, passes}
use Rattle.rules.specs.Writer.{State, name_offset, no_room, wrong_state, test, strings_of, growth, property_bytes, property_at, property_judged, with_property, property, property_data, property_strings}
use Rattle.rules.proofs.Laws.Writer.{length_property}
use Rattle.judge.specs.Meaning.{number_of}
use Rattle.judge.specs.Judged.{outcome_of, sized, placed, grown}
use Rattle.judge.specs.declared.Error.{Error}
use Rattle.judge.proofs.Possible.{possible}
use Rattle.judge.proofs.Properties.{gives_judged, refuses_judged, growth_eq}
use Rattle.writer.specs.Longer.{longer}
use Rattle.writer.proofs.Passed.{all_passed, fits, answer_refused, answer_done, kept, changed}

-- ---- judged by size

pub by_size : (w : State) (lent : ℕ) (strings : Bytes) (own : Bool) (name value : Bytes) (size : ℕ) → size ≡ 12 + padded (length value)
    → property_judged w lent strings own name value ≡ sized w lent strings own name size
unfolding property_judged sized
by_size w lent strings own name value size e = rw (length_property (name_offset name (strings_of w strings)) value, ← e)

pub record Placed (w : State) (dataLent : ℕ) (strings name : Bytes) (size offset : ℕ) : Type 0 where
  pub data_fits : w.data_length + size ≤ dataLent
  pub data_small : w.data_length + size ≤ blob_ceiling
  pub in_strings : w.strings_length ≤ length strings
  pub strings_small : w.strings_length ≤ blob_ceiling
  pub strings_fit : w.strings_length + length (growth w strings name) ≤ length strings
  pub found : offset ≡ name_offset name (strings_of w strings)
  pub grows : growth w strings name ≡ grown offset w.strings_length name

module _ (w : State) (dataLent : ℕ) (strings : Bytes) (own : Bool) (name : Bytes) (size offset : ℕ) (e : gives offset ≡ placed w dataLent strings own name size) where
  pub was_judged : passes ≡ sized w dataLent strings own name size
  unfolding placed
  was_judged = (gives_judged (sized w dataLent strings own name size) offset (name_offset name (strings_of w strings)) e).0

  was_found : offset ≡ name_offset name (strings_of w strings)
  unfolding placed
  was_found = (gives_judged (sized w dataLent strings own name size) offset (name_offset name (strings_of w strings)) e).1

  pub was_placed : Placed w dataLent strings name size offset
  unfolding sized
  was_placed =
      let t =
      all_passed
      (wrong_state w dataLent (length strings)
      ∷ test own 24
      ∷ test w.ended 21
      ∷ test (eqb w.depth 0) 20
      ∷ test (has_nul name) 24
      ∷ test (not (property_name_valid name)) 30
      ∷ no_room dataLent (w.data_length + size)
      ∷ no_room (length strings) (w.strings_length + length (growth w strings name))
      ∷ [])
      was_judged in
      let p = possible w dataLent (length strings) t.0 in
      let d = fits dataLent (w.data_length + size) t.1.1.1.1.1.1.0 in
      let s = fits (length strings) (w.strings_length + length (growth w strings name)) t.1.1.1.1.1.1.1.0 in
      record {
        data_fits = d.0;
        data_small = d.1;
        in_strings = p.in_strings;
        strings_small = p.strings_small;
        strings_fit = s.0;
        found = was_found;
        grows = growth_eq w strings name offset p.in_strings was_found;
      }

-- the same of what the judge answered
pub at_place : (w : State) (dataLent : ℕ) (strings : Bytes) (own : Bool) (name : Bytes) (size offset : ℕ) (x : State) → x ≡ w → (r : Result ℕ Error) → r ≡ Ok offset
    → outcome_of r ≡ placed x dataLent strings own name size → Placed w dataLent strings name size offset
at_place w dataLent strings own name size offset x h r t e =
    was_placed w dataLent strings own name size offset (ap outcome_of (sym t) ∙ e ∙ ap (λ (y : State). placed y dataLent strings own name size) h)

-- ---- what a call answers and leaves

module _ (w : State) (d strings : Bytes) (own : Bool) (name value : Bytes) (size : ℕ) (z : size ≡ 12 + padded (length value)) (y : State) (same : y ≡ w) (r : Result ℕ Error) (f : outcome_of r ≡ placed y (length d) strings own name size) where
  judged_so : outcome_of r ≡ placed w (length d) strings own name size
  judged_so = f ∙ ap (λ (v : State). placed v (length d) strings own name size) same

  pub property_refused : (e : Error) → r ≡ Err e
      → (record { verdict = refuses (number_of e) 0; state = w } ≡ property w (length d) strings own name value)
      × ((d ≡ property_data w d strings own name value) × (strings ≡ property_strings w (length d) strings own name value))
  unfolding placed property property_data property_strings
  property_refused e t =
      let n = number_of e in
      let v : refuses n 0 ≡ property_judged w (length d) strings own name value =
      refuses_judged _ n _ (ap outcome_of (sym t) ∙ judged_so) ∙ sym (by_size w (length d) strings own name value size z) in
      (answer_refused _ n w (with_property w strings name value) v, (kept _ n d _ v, kept _ n strings _ v))

  pub property_done : (offset : ℕ) → r ≡ Ok offset → (d₁ s₁ : Bytes) (x : State)
      → d₁ ≡ lay d w.data_length (property_bytes offset value)
      → s₁ ≡ lay strings w.strings_length (grown offset w.strings_length name)
      → x ≡ longer w size (length (grown offset w.strings_length name))
      → (record { verdict = passes; state = x } ≡ property w (length d) strings own name value)
      × ((d₁ ≡ property_data w d strings own name value) × (s₁ ≡ property_strings w (length d) strings own name value))
  unfolding property property_data property_strings
  property_done offset t d₁ s₁ x g h k =
      let e = ap outcome_of (sym t) ∙ judged_so in
      let v : passes ≡ property_judged w (length d) strings own name value =
      was_judged w (length d) strings own name size offset e ∙ sym (by_size w (length d) strings own name value size z) in
      let p = was_placed w (length d) strings own name size offset e in
      let n : size ≡ length (property_at w strings name value) = z ∙ sym (length_property (name_offset name (strings_of w strings)) value) in (
        rw (k, n, ← p.grows) (answer_done _ w (with_property w strings name value) v),
        (
          changed _ d d₁ w.data_length (property_at w strings name value) v (omega (arith, p.data_fits)) (rw p.found at g),
          changed _ strings s₁ w.strings_length (growth w strings name) v p.strings_fit (rw (← p.grows) at h),
        ),
      )

-- the size of a value that is longer or shorter than what is lent for it
pub size_of : (size n : ℕ) (value : Bytes) → size ≡ 12 + padded n → length value ≡ n → size ≡ 12 + padded (length value)
size_of size n value e l = e ∙ ap (λ (k : ℕ). 12 + padded k) (sym l)
