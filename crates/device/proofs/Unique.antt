-- Two answers that say the same are the same: the meaning of an answer gives it back.
use Rattle.std.specs.Prelude.{if◌then◌else◌, Result, Ok, Err}
use mathlib.Core.Path.{◌≡◌, refl, sym, ap, ◌∙◌}
use Prim.Native.Nat.{ℕ}
use lib.Dec.{eqb, leb}
use Rattle.rules.specs.Octets.{Bytes}
use Rattle.rules.specs.Outcome.{Outcome, gives, refuses}
use Rattle.rules.specs.References.{edition1}
use Rattle.rules.specs.Device.{Found, find}
use Rattle.reader.proofs.Unique as reader
use Rattle.device.specs.declared.Refusal.{Refusal}
use Rattle.device.specs.declared.Refusal.TheVariants.{NoSpace, Reader, Lists, Configured, List}
use Rattle.device.specs.declared.Listed.{Listed}
use Rattle.device.specs.Answers.{number_of, place_of, meaning}

refusal_of : (number place : ℕ) → Refusal
refusal_of number place =
    if leb number 12 then Reader (reader.refusal_of number place)
    else if eqb number 41 then Lists place
    else if eqb number 42 then Configured place
    else if eqb number 45 then List place
    else NoSpace

refusal_back : (r : Refusal) → refusal_of (number_of r) (place_of r) ≡ r
unfolding refusal_of
refusal_back NoSpace = refl
refusal_back (Reader r) = let b = reader.back r in rw (b.few, b.carried)
refusal_back (Lists place) = refl
refusal_back (Configured place) = refl
refusal_back (List place) = refl

answer_of : Outcome Found → Result Listed Refusal
answer_of (gives d) = Ok (record { paths = d.paths; list = d.list_length })
answer_of (refuses number place) = Err (refusal_of number place)

back : (a : Result Listed Refusal) → answer_of (meaning a) ≡ a
unfolding answer_of
back (Ok l) = refl
back (Err r) = ap Err (refusal_back r)

pub meaning_injective : (a c : Result Listed Refusal) → meaning a ≡ meaning c → a ≡ c
meaning_injective a c e = sym (back a) ∙ ap answer_of e ∙ back c

-- ANY TWO RESULTS THAT THE PROMISE ALLOWS ARE EQUAL
pub one_answer : (host configured excluded : Bytes) (words listRoom : ℕ) (a c : Result Listed Refusal) → meaning a ≡ find edition1 host configured excluded words listRoom
    → meaning c ≡ find edition1 host configured excluded words listRoom → a ≡ c
one_answer host configured excluded words listRoom a c p r = meaning_injective a c (p ∙ sym r)
