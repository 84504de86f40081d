-- The tests of `property_phandle` are those of a property, between its own.
use Rattle.std.specs.Prelude.{Result, Ok, Err, if◌then◌else◌}
use mathlib.Core.Path.{◌≡◌, refl, sym, ap, ◌∙◌}
use mathlib.Core.Bool.{Bool, true, false}
use mathlib.Core.List.{List, [], ◌∷◌, ◌++◌}
use Prim.Native.Nat.{ℕ, ◌+◌, ◌<◌}
use native.Mathlib.Omega.{arith}
use lib.Dec.{ltb}
use lib.ListN.{length, take}
use borrow.Author.Tests.{lt-ltb, le-ltb}
use Rattle.rules.specs.Octets.{Bytes, be32}
use Rattle.rules.specs.Lists.{one_of}
use Rattle.rules.specs.Outcome.{gives, refuses, Test, first, ◌then◌}
use Rattle.rules.specs.Writer.{State, impossible, name_offset, test, strings_of, property_at, property_tests, phandle_name, phandle_judged}
use Rattle.rules.proofs.Laws.Octets.{length_be32}
use Rattle.rules.proofs.Laws.Writer.{length_property}
use Rattle.judge.specs.Meaning.{number_of}
use Rattle.judge.specs.Judged.{outcome_of, sized, placed, phandle_placed}
use Rattle.judge.specs.declared.Error.{Error}
use Rattle.judge.proofs.Properties.{gives_judged, refuses_judged}

first_append : (ts us : List Test) → first (ts ++ us) ≡ (first ts then first us)
first_append [] us = refl
first_append (t ∷ ts) us = go t.fails (first_append ts us)
  where
    go : (b : Bool) → first (ts ++ us) ≡ (first ts then first us)
        → (if b then refuses t.number t.place else first (ts ++ us)) ≡ ((if b then refuses t.number t.place else first ts) then first us)
    go true e = refl
    go false e = e

-- the test for room in the table
abbrev pub table_test : State → List ℕ → Test
table_test w phandles = test (ltb (length phandles) (w.phandle_count + 1)) 33

module _ (w : State) (lent : ℕ) (strings : Bytes) (phandles : List ℕ) (value : ℕ) where
  pub phandle_size : length (property_at w strings phandle_name (be32 value)) ≡ 16
  phandle_size = length_property (name_offset phandle_name (strings_of w strings)) (be32 value) ∙ rw (length_be32 value)

  -- behind its own tests come those of a property
  pub phandle_on : impossible w lent (length strings) ≡ false → ltb (length phandles) w.phandle_count ≡ false → one_of value (take w.phandle_count phandles) ≡ false
      → phandle_judged w lent strings phandles value ≡ (sized w lent strings false phandle_name 16 then first (table_test w phandles ∷ []))
  unfolding phandle_judged sized
  phandle_on a b c =
      rw (a, b, c) (first_append (property_tests w lent strings phandle_name (be32 value)) (table_test w phandles ∷ []) ∙ rw phandle_size)

module _
    (w : State)
    (lent : ℕ)
    (strings : Bytes)
    (phandles : List ℕ)
    (value : ℕ)
    (a : impossible w lent (length strings) ≡ false)
    (b : ltb (length phandles) w.phandle_count ≡ false)
    (c : one_of value (take w.phandle_count phandles) ≡ false)
    (r : Result ℕ Error)
    (f : outcome_of r ≡ placed w lent strings false phandle_name 16) where
  -- the property is refused
  pub phandle_not : (e : Error) → r ≡ Err e → refuses (number_of e) 0 ≡ phandle_placed w lent strings phandles value
  unfolding placed phandle_placed
  phandle_not e t =
      rw (phandle_on w lent strings phandles value a b c, ← refuses_judged (sized w lent strings false phandle_name 16) (number_of e) (name_offset phandle_name (strings_of w strings)) (ap outcome_of (sym t) ∙ f))

  -- it passes, and the table is full
  pub phandle_full : (offset : ℕ) → r ≡ Ok offset → length phandles ≡ w.phandle_count → refuses 33 0 ≡ phandle_placed w lent strings phandles value
  unfolding placed phandle_placed
  phandle_full offset t h =
      let v = (gives_judged (sized w lent strings false phandle_name 16) offset (name_offset phandle_name (strings_of w strings)) (ap outcome_of (sym t) ∙ f)).0 in
      rw (phandle_on w lent strings phandles value a b c, ← v, lt-ltb (length phandles) (w.phandle_count + 1) (omega arith))

  -- it passes, and the table is not
  pub phandle_at : (offset : ℕ) → r ≡ Ok offset → w.phandle_count < length phandles → gives offset ≡ phandle_placed w lent strings phandles value
  unfolding placed phandle_placed
  phandle_at offset t h =
      let v = gives_judged (sized w lent strings false phandle_name 16) offset (name_offset phandle_name (strings_of w strings)) (ap outcome_of (sym t) ∙ f) in
      rw (phandle_on w lent strings phandles value a b c, ← v.0, le-ltb (length phandles) (w.phandle_count + 1) (omega arith)) (ap gives v.1)
