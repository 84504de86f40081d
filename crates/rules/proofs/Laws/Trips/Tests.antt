-- Tests in order pass exactly where none fails; the tests of each call of the writer, and what those of room say.
use Rattle.std.specs.Prelude.{◌≡◌, refl, Bool, false, not, ◌||◌, List, [], ◌∷◌, ◌++◌, ℕ, ◌+◌, ◌≤◌, eqb, ltb, leb, length, take}
use Rattle.std.proofs.Common.{arith, ltb-false}
use Rattle.rules.specs.Ceilings.{blob_ceiling, open_ceiling, reservation_ceiling}
use Rattle.rules.specs.Octets.{Bytes, be32, has_nul}
use Rattle.rules.specs.Outcome.{passes, Test, first}
use Rattle.rules.specs.Names.{node_name_valid}
use Rattle.rules.specs.Lists.{one_of}
use Rattle.rules.specs.Reservations.{Entry, any_invalid, overlapping}
use Rattle.rules.specs.Writer.{State, room, no_room, wrong_state, test, total, begin_bytes, end_bytes, start_bytes, start_judged, begin_judged, end_judged, property_tests, property_judged, phandle_name, phandle_judged, finish_judged}
use Rattle.rules.proofs.Laws.Tests.{by_test}
use Rattle.rules.proofs.Laws.Verdicts.{gives_refuses}

abbrev pub NoneFails : List Test → Type 0
NoneFails [] = Unit {0}
NoneFails (t ∷ ts) = (t.fails ≡ false) × NoneFails ts

pub none_fails : (ts : List Test) → first ts ≡ passes → NoneFails ts
none_fails [] h = tt
none_fails (t ∷ ts) h = by_test t.fails
    (λ e. gives_refuses tt t.number t.place (rw e at h))
    (λ e. (e, none_fails ts (rw e at h)))

pub first_passes : (ts : List Test) → NoneFails ts → first ts ≡ passes
first_passes [] h = refl
first_passes (t ∷ ts) h = rw h.0 (first_passes ts h.1)

-- ---- room

pub roomy : (lent after : ℕ) → ltb (room lent) after ≡ false → (after ≤ lent) × (after ≤ blob_ceiling)
roomy lent after e = let h = ltb-false (room lent) after e in (omega arith, omega arith)

-- ---- the tests of each call

abbrev pub start_tests : ℕ → List Entry → ℕ → List Test
start_tests lent es count =
    test (ltb reservation_ceiling count) 33
    ∷ test (any_invalid (take count es)) 27
    ∷ test (overlapping (take count es)) 28
    ∷ no_room lent (length (start_bytes (take count es)))
    ∷ []

pub start_tests_lem : (lent : ℕ) (es : List Entry) (count : ℕ) → start_judged lent es count ≡ first (start_tests lent es count)
unfolding start_judged
start_tests_lem lent es count = refl

abbrev pub begin_tests : State → ℕ → Bytes → List Test
begin_tests w lent name =
    wrong_state w lent blob_ceiling
    ∷ test (leb open_ceiling w.depth) 31
    ∷ test (has_nul name) 24
    ∷ test (not (node_name_valid name)) 29
    ∷ no_room lent (w.data_length + length (begin_bytes name))
    ∷ []

pub begin_tests_lem : (w : State) (lent : ℕ) (name : Bytes) → begin_judged w lent name ≡ first (begin_tests w lent name)
unfolding begin_judged
begin_tests_lem w lent name = refl

abbrev pub end_tests : State → ℕ → ℕ → List Test
end_tests w lent depth =
    wrong_state w lent blob_ceiling ∷ test (eqb depth 0 || not (eqb depth w.depth)) 25 ∷ no_room lent (w.data_length + length end_bytes) ∷ []

pub end_tests_lem : (w : State) (lent depth : ℕ) → end_judged w lent depth ≡ first (end_tests w lent depth)
unfolding end_judged
end_tests_lem w lent depth = refl

abbrev pub hold_tests : State → ℕ → Bytes → Bool → Bytes → Bytes → List Test
hold_tests w lent strings own name value = wrong_state w lent (length strings) ∷ test own 24 ∷ property_tests w lent strings name value

pub hold_tests_lem : (w : State) (lent : ℕ) (strings : Bytes) (own : Bool) (name value : Bytes)
    → property_judged w lent strings own name value ≡ first (hold_tests w lent strings own name value)
unfolding property_judged
hold_tests_lem w lent strings own name value = refl

abbrev pub phandle_tests : State → ℕ → Bytes → List ℕ → ℕ → List Test
phandle_tests w lent strings phandles value =
    wrong_state w lent (length strings)
    ∷ test (ltb (length phandles) w.phandle_count) 34
    ∷ test (one_of value (take w.phandle_count phandles)) 32
    ∷ (property_tests w lent strings phandle_name (be32 value)
    ++ test (ltb (length phandles) (w.phandle_count + 1)) 33
    ∷ [])

pub phandle_tests_lem : (w : State) (lent : ℕ) (strings : Bytes) (phandles : List ℕ) (value : ℕ)
    → phandle_judged w lent strings phandles value ≡ first (phandle_tests w lent strings phandles value)
unfolding phandle_judged
phandle_tests_lem w lent strings phandles value = refl

abbrev pub finish_tests : State → ℕ → ℕ → List Test
finish_tests w lent strings_lent = wrong_state w lent strings_lent ∷ test (not (eqb w.depth 0)) 26 ∷ no_room lent (total w) ∷ []

pub finish_tests_lem : (w : State) (lent strings_lent : ℕ) → finish_judged w lent strings_lent ≡ first (finish_tests w lent strings_lent)
unfolding finish_judged
finish_tests_lem w lent strings_lent = refl
