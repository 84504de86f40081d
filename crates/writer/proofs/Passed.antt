-- What is known of a state and its buffers once a call's tests have passed, and what a call then answers and leaves.
use Rattle.std.specs.Prelude.{Result, Ok, Err, MatchResult, if◌then◌else◌}
use Rattle.std.specs.Result.{IsErrAnd}
use Rattle.std.proofs.lemmas.Result.{err_from_is_err_and}
use mathlib.Core.Path.{◌≡◌, refl, sym, ap, ◌∙◌}
use mathlib.Core.Bool.{Bool, true, false, not, ◌||◌}
use mathlib.Core.List.{List, [], ◌∷◌, ◌++◌}
use Prim.Native.Nat.{ℕ, ◌+◌, ◌≤◌, ◌<◌}
use native.Mathlib.Omega.{arith}
use lib.Dec.{leb, eqb}
use lib.ListN.{length, length-append}
use lib.Seq.{length-take-le}
use borrow.Author.Tests.{ltb-false, leb-false, eqb-true, eqb-false, not-false}
use Rattle.rules.specs.Ceilings.{blob_ceiling, open_ceiling}
use Rattle.rules.specs.Octets.{Bytes, be32, put, lay, has_nul}
use Rattle.rules.specs.Names.{node_name_valid}
use Rattle.rules.specs.Outcome.{Outcome, gives, refuses, Verdict, passes, settled, Test, first}
use Rattle.rules.specs.Writer.{State, answer, room, no_room, wrong_state, test, begin_bytes, end_bytes, begin_judged, end_judged, finish_judged, finish_data, total, header_of, strings_of}
use Rattle.rules.proofs.Laws.Tests.{or_false}
use Rattle.rules.proofs.Laws.Octets.{lay_put, length_lay, length_be32}
use Rattle.rules.proofs.Laws.Writer.{laid_on}
use Rattle.rules.proofs.Laws.Header.{length_header}
use Rattle.judge.specs.Meaning.{number_of}
use Rattle.judge.specs.Judged.{outcome_of}
use Rattle.judge.specs.declared.Error.{Error}
use Rattle.judge.proofs.Possible.{Possible, possible}
use Rattle.writer.specs.declared.FdtWriter.{FdtWriter}
use Rattle.writer.specs.declared.Refused.{Refused}
use Rattle.writer.specs.Meaning.{state_of, meaning}

-- ---- what a call's tests answered, as `or_refused` passes it on

abbrev pub PassedOn : {A : Type 0} → FdtWriter → Result A Error → Result A Refused → Type 0
PassedOn w r s = MatchResult r (λ x. s ≡ Ok x) (λ e. s ≡ Err (record { writer = w; error = e }))

pub was_ok : {A : Type 0} (w : FdtWriter) (r : Result A Error) (s : Result A Refused) → PassedOn w r s → (a : A) → s ≡ Ok a → r ≡ Ok a
was_ok w (Ok x) s h a t =
    let k : x ≡ a = cc (sym h ∙ t) in
    ap (λ y. Ok y) k
was_ok w (Err e) s h a t = cc

-- the same in the words of the tests
pub judged_ok : {A : Type 0} (w : FdtWriter) (r : Result A Error) (s : Result A Refused) → PassedOn w r s → (a : A) → s ≡ Ok a → (v : Outcome A) → outcome_of r ≡ v → gives a ≡ v
judged_ok w r s h a t v e = ap outcome_of (sym (was_ok w r s h a t)) ∙ e

-- and with a refusal the state as it was
pub was_err : {A : Type 0} (w : FdtWriter) (r : Result A Error) (s : Result A Refused) → PassedOn w r s → (b : Refused) → s ≡ Err b
    → (out : Result FdtWriter Refused) → IsErrAnd out (λ y. y ≡ b)
    → (e : Error) × (r ≡ Err e) × (meaning out ≡ record { verdict = refuses (number_of e) 0; state = state_of w })
was_err w (Ok x) s h b t out f = let k : ⊥ = cc in absurd k
was_err w (Err e) s h b t out f =
    let p = err_from_is_err_and out f in
    let k : p.0 ≡ record { writer = w; error = e } = cc (p.2) in
    (e, refl, ap meaning (p.1 ∙ ap (λ (y : Refused). Err y) k))

-- ---- verdicts

abbrev Passing : List Test → Type 0
Passing [] = Unit {0}
Passing (t ∷ ts) = (t.fails ≡ false) × Passing ts

-- each test passed
pub all_passed : (ts : List Test) → passes ≡ first ts → Passing ts
all_passed [] e = tt
all_passed (t ∷ ts) e = go t.fails (all_passed ts) e
  where
    go : (b : Bool) → (passes ≡ first ts → Passing ts) → passes ≡ if b then refuses t.number t.place else first ts → (b ≡ false) × Passing ts
    go true rest f = let z : ◌≡◌ {A = ℕ} 0 1 = cc in absurd (omega arith)
    go false rest f = (refl, rest f)

-- a refused call leaves all as it was
pub answer_refused : (v : Verdict) (n : ℕ) (old new : State) → refuses n 0 ≡ v → record { verdict = refuses n 0; state = old } ≡ answer v old new
answer_refused v n old new e = rw (← e)

pub kept : (v : Verdict) (n : ℕ) {A : Type 0} (old new : A) → refuses n 0 ≡ v → old ≡ settled v old new
kept v n old new e = rw (← e)

-- one that passed its tests changes it
pub answer_done : (v : Verdict) (old new : State) → passes ≡ v → record { verdict = passes; state = new } ≡ answer v old new
answer_done v old new e = rw (← e)

pub changed : (v : Verdict) {A : Type 0} (d d₁ : List A) (at : ℕ) (bs : List A) → passes ≡ v → at + length bs ≤ length d → d₁ ≡ lay d at bs → d₁ ≡ settled v d (put d at bs)
changed v d d₁ at bs e h l = l ∙ rw (← e) (lay_put d at bs h)

-- ---- room

-- there is room for so many bytes
pub fits : (lent after : ℕ) → (no_room lent after).fails ≡ false → (after ≤ lent) × (after ≤ blob_ceiling)
unfolding blob_ceiling
fits lent after e =
    let h : after ≤ room lent = ltb-false _ _ e in
    (omega arith, omega arith)

-- ---- what passed

pub begin_passed : (w : State) (lent : ℕ) (name : Bytes) → passes ≡ begin_judged w lent name
    → (w.depth < 64) × (w.data_length + length (begin_bytes name) ≤ lent) × (w.data_length + length (begin_bytes name) ≤ blob_ceiling)
unfolding begin_judged open_ceiling
begin_passed w lent name e =
    let t =
    all_passed
    (wrong_state w lent blob_ceiling
    ∷ test (leb open_ceiling w.depth) 31
    ∷ test (has_nul name) 24
    ∷ test (not (node_name_valid name)) 29
    ∷ no_room lent (w.data_length + length (begin_bytes name))
    ∷ [])
    e in
    let f = fits lent (w.data_length + length (begin_bytes name)) t.1.1.1.1.0 in
    (leb-false open_ceiling w.depth t.1.0, f.0, f.1)

pub end_passed : (w : State) (lent depth : ℕ) → passes ≡ end_judged w lent depth
    → (0 < w.depth) × (w.data_length + length end_bytes ≤ lent) × (w.data_length + length end_bytes ≤ blob_ceiling)
unfolding end_judged
end_passed w lent depth e =
    let t =
    all_passed
    (wrong_state w lent blob_ceiling ∷ test (eqb depth 0 || not (eqb depth w.depth)) 25 ∷ no_room lent (w.data_length + length end_bytes) ∷ [])
    e in
    let o = or_false (eqb depth 0) (not (eqb depth w.depth)) t.1.0 in
    let some = eqb-false depth 0 o.0 in
    let same = eqb-true depth w.depth (not-false _ o.1) in
    let f = fits lent (w.data_length + length end_bytes) t.1.1.0 in
    (omega arith, f.0, f.1)

pub finish_passed : (w : State) (a b : ℕ) → passes ≡ finish_judged w a b → Possible w a b × (total w ≤ a) × (total w ≤ blob_ceiling)
unfolding finish_judged
finish_passed w a b e =
    let t = all_passed (wrong_state w a b ∷ test (not (eqb w.depth 0)) 26 ∷ no_room a (total w) ∷ []) e in
    let f = fits a (total w) t.1.1.0 in
    (possible w a b t.0, f.0, f.1)

-- ---- what is left

length_of : (w : State) → length (header_of w) ≡ 40
length_of w = length_header _ _ _ _ _ _

-- END, the strings and the header are laid in
pub finish_left : (w : State) (d strings d₁ d₂ d₃ : Bytes) → passes ≡ finish_judged w (length d) (length strings)
    → d₁ ≡ lay d w.data_length (be32 9) → d₂ ≡ lay d₁ (w.data_length + 4) (strings_of w strings) → d₃ ≡ lay d₂ 0 (header_of w) → d₃ ≡ finish_data w d strings
unfolding finish_data
finish_left w d strings d₁ d₂ d₃ v e₁ e₂ e₃ =
    let p = finish_passed w (length d) (length strings) v in
    let n : length (strings_of w strings) ≡ w.strings_length = length-take-le w.strings_length strings p.0.in_strings in
    let back : d₂ ≡ lay d w.data_length (be32 9 ++ strings_of w strings) = laid_on d w.data_length (be32 9) (strings_of w strings) e₁ (omega (arith, length_be32 9)) e₂ in
    let room : w.data_length + length (be32 9 ++ strings_of w strings) ≤ length d = omega (arith, length-append (be32 9) (strings_of w strings), length_be32 9) in
    let same : length d₂ ≡ length d = ap length back ∙ length_lay d w.data_length (be32 9 ++ strings_of w strings) in
    e₃
    ∙ lay_put d₂ 0 (header_of w) (omega (arith, length_of w, p.0.high, p.0.in_data))
    ∙ rw (back, lay_put d w.data_length (be32 9 ++ strings_of w strings) room, ← v)
