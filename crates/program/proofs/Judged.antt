-- The program's own tests: an input that is refused, a host that is too long, and what it says that both pass.
use mathlib.Core.Path.{◌≡◌, refl, sym, ap, ◌∙◌}
use mathlib.Core.Option.{none}
use Prim.Native.Nat.{ℕ, ◌+◌, ◌≤◌, ◌<◌, min}
use native.Mathlib.Omega.{arith}
use lib.Dec.{ltb}
use lib.ListN.{length}
use borrow.Author.Tests.{lt-ltb, le-ltb, ltb-false}
use Rattle.std.specs.Prelude.{Result, Ok, Err}
use Rattle.rules.specs.Ceilings.{program_ceiling, work_words}
use Rattle.rules.specs.Octets.{Bytes, lay}
use Rattle.rules.specs.Outcome.{Outcome, Verdict, gives, refuses, passes, ◌then◌}
use Rattle.rules.specs.References.{edition1}
use Rattle.rules.specs.Derivation.{derive}
use Rattle.rules.specs.Program.{input_judged, lines_judged, lines_of, host_judged, request_in, Printed, printed}
use Rattle.rules.proofs.Laws.Verdicts.{then_passes, one, one_passes}
use Rattle.program.specs.declared.Ran.{Ran}
use Rattle.program.specs.declared.Refusal.{Refusal}
use Rattle.program.specs.Run.{outcome_in, printed_in, answered, guest_left, number_of, place_of, meaning, refused_text, refused_ran}

-- ---- the tests

pub host_long : (host : Bytes) → program_ceiling < length host → refuses 3 0 ≡ host_judged host
unfolding host_judged
host_long host h = rw (lt-ltb program_ceiling (length host) h)

pub host_passes : (host : Bytes) → length host ≤ program_ceiling → passes ≡ host_judged host
unfolding host_judged
host_passes host h = rw (le-ltb program_ceiling (length host) h)

pub input_short : (input : Bytes) → input_judged input ≡ passes → length input ≤ program_ceiling
unfolding input_judged
input_short input h =
    let t = then_passes (one (ltb program_ceiling (length input)) 41 program_ceiling) (lines_judged (lines_of input)) tt h in
    ltb-false program_ceiling (length input) (one_passes (ltb program_ceiling (length input)) 41 program_ceiling t.0)

-- ---- both in turn

same_refusal : {A : Type 0} (m n i k : ℕ) → ◌≡◌ {A = Verdict} (refuses m i) (refuses n k) → ◌≡◌ {A = Outcome A} (refuses m i) (refuses n k)
same_refusal m n i k e =
    let p : m ≡ n = cc in
    let q : i ≡ k = cc in
    rw (p, q)

first_refuses : {A : Type 0} (a b : Verdict) (next : Outcome A) (n k : ℕ) → (a then b) ≡ refuses n k → (a then b then next) ≡ refuses n k
first_refuses (gives u) (gives v) next n k e = absurd (let z : ◌≡◌ {A = ℕ} 0 1 = cc in omega arith)
first_refuses (gives u) (refuses m i) next n k e = same_refusal m n i k e
first_refuses (refuses m i) b next n k e = same_refusal m n i k e

module _ (host input : Bytes) (j : Result (Unit {0}) Refusal) (m : meaning j ≡ (input_judged input then host_judged host)) where
  pub passed : (u : Unit {0}) → j ≡ Ok u → (input_judged input ≡ passes) × (host_judged host ≡ passes)
  passed u e = then_passes (input_judged input) (host_judged host) tt (sym m ∙ ap meaning e)

  -- a refusal of the program's own
  module _ (r : Refusal) (e : j ≡ Err r) (guest text : Bytes) where
    abbrev result : Printed
    result = printed_in edition1 host input (length guest)

    refused_outcome : outcome_in edition1 host input (length guest) ≡ refuses (number_of r) (place_of r)
    unfolding outcome_in
    refused_outcome =
        first_refuses (input_judged input) (host_judged host) (derive edition1 host (request_in input) work_words program_ceiling (length guest)) (number_of r) (place_of r) (sym m ∙ ap meaning e)

    refused_so : result ≡ record { text = refused_text r; guest = none }
    unfolding printed_in
    refused_so = ap (printed edition1 host input) refused_outcome

    pub refused_whole : (ran : Ran) (said : Bytes) → ran ≡ refused_ran (min (length (refused_text r)) (length text)) → said ≡ lay text 0 (refused_text r)
        → length (refused_text r) ≤ 64
        → (ran ≡ answered result (length text)) × (said ≡ lay text 0 result.text) × (guest ≡ guest_left result guest)
        × (length result.text ≤ program_ceiling + 64)
    unfolding answered guest_left
    refused_whole ran said t s short = rw refused_so (t, s, refl, omega (arith, short))
