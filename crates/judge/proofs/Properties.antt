-- A property's tests: what a judgement gives, and what the strings grow by.
use Rattle.std.specs.Prelude.{if◌then◌else◌}
use mathlib.Core.Path.{◌≡◌, refl, ap, ◌∙◌}
use mathlib.Core.Bool.{false}
use Prim.Native.Nat.{ℕ, ◌+◌, ◌≤◌}
use native.Mathlib.Omega.{arith}
use lib.Dec.{ltb}
use lib.ListN.{length}
use lib.Seq.{length-take-le}
use Rattle.rules.specs.Octets.{Bytes}
use Rattle.rules.specs.Outcome.{gives, refuses, Verdict, passes, ◌then◌}
use Rattle.rules.specs.Writer.{State, impossible, name_offset, name_growth, strings_of, growth}
use Rattle.rules.proofs.Laws.Tests.{by_test}
use Rattle.rules.proofs.Laws.Writer.{length_closed}
use Rattle.judge.specs.Judged.{grown}
use Rattle.judge.proofs.Possible.{possible}

-- ---- a judgement, and what it gives

pub gives_judged : (v : Verdict) (a b : ℕ) → gives a ≡ (v then gives b) → (passes ≡ v) × (a ≡ b)
gives_judged (gives u) a b e = (refl, cc)
gives_judged (refuses n p) a b e = let z : ◌≡◌ {A = ℕ} 0 1 = cc in absurd (omega arith)

pub refuses_judged : (v : Verdict) (n b : ℕ) → refuses n 0 ≡ (v then gives b) → refuses n 0 ≡ v
refuses_judged (gives u) n b e = let z : ◌≡◌ {A = ℕ} 0 1 = cc in absurd (omega arith)
refuses_judged (refuses m p) n b e = cc

-- ---- what the strings grow by

pub length_grown : (offset used : ℕ) (name : Bytes) → length (grown offset used name) ≡ if ltb offset used then 0 else length name + 1
length_grown offset used name = by_test (ltb offset used) (λ e. rw e) (λ e. rw e (length_closed name))

pub growth_eq : (w : State) (strings name : Bytes) (offset : ℕ) → w.strings_length ≤ length strings → offset ≡ name_offset name (strings_of w strings) → growth w strings name ≡ grown offset w.strings_length name
unfolding name_growth
growth_eq w strings name offset h e = rw (length-take-le w.strings_length strings h, ← e)

-- the same in a state that can be
pub length_growth : (w : State) (lent : ℕ) (strings name : Bytes) → impossible w lent (length strings) ≡ false → (offset : ℕ) → offset ≡ name_offset name (strings_of w strings)
    → length (growth w strings name) ≡ if ltb offset w.strings_length then 0 else length name + 1
length_growth w lent strings name possibly offset found =
    let p = possible w lent (length strings) possibly in
    ap length (growth_eq w strings name offset p.in_strings found) ∙ length_grown offset w.strings_length name
