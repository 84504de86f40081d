-- Two answers that say the same are the same: the meaning of an answer gives it back.
use Rattle.std.specs.Prelude.{Result, Ok, Err, if◌then◌else◌}
use mathlib.Core.Path.{◌≡◌, refl, sym, ap, ◌∙◌}
use Prim.Native.Nat.{ℕ}
use lib.Dec.{eqb}
use Rattle.rules.specs.Outcome.{Outcome, gives, refuses}
use Rattle.shape.specs.declared.Refusal.{Refusal}
use Rattle.shape.specs.declared.Refusal.TheVariants.{Shape, Name, Deep, Many}
use Rattle.shape.specs.Answers.{meaning}

refusal_of : (number place : ℕ) → Refusal
refusal_of number place =
    if eqb number 6 then Shape place
    else if eqb number 7 then Name place
    else if eqb number 8 then Deep place
    else Many place

answer_of : Outcome ℕ → Result ℕ Refusal
answer_of (gives count) = Ok count
answer_of (refuses number place) = Err (refusal_of number place)

back : (a : Result ℕ Refusal) → answer_of (meaning a) ≡ a
unfolding answer_of refusal_of
back (Ok count) = refl
back (Err (Shape at)) = refl
back (Err (Name at)) = refl
back (Err (Deep at)) = refl
back (Err (Many at)) = refl

pub meaning_injective : (a c : Result ℕ Refusal) → meaning a ≡ meaning c → a ≡ c
meaning_injective a c e = sym (back a) ∙ ap answer_of e ∙ back c
