-- Two answers that say the same are the same: the meaning of an answer gives it back.
use Rattle.std.specs.Prelude.{if◌then◌else◌, Result, Ok, Err}
use mathlib.Core.Path.{◌≡◌, refl, sym, ap, ◌∙◌}
use Prim.Native.Nat.{ℕ}
use lib.Dec.{eqb, leb}
use Rattle.rules.specs.Octets.{Bytes}
use Rattle.rules.specs.Outcome.{Outcome, gives, refuses}
use Rattle.rules.specs.References.{edition1}
use Rattle.rules.specs.Derivation.{Derived, Request, derive}
use Rattle.reader.proofs.Unique as reader
use Rattle.derive.specs.declared.Refusal.{Refusal}
use Rattle.derive.specs.declared.Refusal.TheVariants.{NoSpace, Reader, Lists, Configured, Register, Unmet, List, Guest}
use Rattle.derive.specs.declared.Derived as lent
use Rattle.derive.specs.Answers.{number_of, place_of, meaning}

refusal_of : (number place : ℕ) → Refusal
refusal_of number place =
    if leb number 12 then Reader (reader.refusal_of number place)
    else if eqb number 41 then Lists place
    else if eqb number 42 then Configured place
    else if eqb number 43 then Register place
    else if eqb number 44 then Unmet place
    else if eqb number 45 then List place
    else if eqb number 46 then Guest place
    else NoSpace

refusal_back : (r : Refusal) → refusal_of (number_of r) (place_of r) ≡ r
unfolding refusal_of
refusal_back NoSpace = refl
refusal_back (Reader r) = let b = reader.back r in rw (b.few, b.carried)
refusal_back (Lists place) = refl
refusal_back (Configured place) = refl
refusal_back (Register place) = refl
refusal_back (Unmet place) = refl
refusal_back (List place) = refl
refusal_back (Guest place) = refl

answer_of : Outcome Derived → Result lent.Derived Refusal
answer_of (gives d) = Ok (record { paths = d.paths; list = d.list_length; guest = d.guest_length })
answer_of (refuses number place) = Err (refusal_of number place)

back : (a : Result lent.Derived Refusal) → answer_of (meaning a) ≡ a
unfolding answer_of
back (Ok d) = refl
back (Err r) = ap Err (refusal_back r)

pub meaning_injective : (a c : Result lent.Derived Refusal) → meaning a ≡ meaning c → a ≡ c
meaning_injective a c e = sym (back a) ∙ ap answer_of e ∙ back c

-- ANY TWO RESULTS THAT THE DERIVATION'S PROMISE ALLOWS ARE EQUAL
pub one_answer : (host : Bytes) (q : Request) (words listRoom guestRoom : ℕ) (a c : Result lent.Derived Refusal) → meaning a ≡ derive edition1 host q words listRoom guestRoom
    → meaning c ≡ derive edition1 host q words listRoom guestRoom → a ≡ c
one_answer host q words listRoom guestRoom a c p r = meaning_injective a c (p ∙ sym r)
