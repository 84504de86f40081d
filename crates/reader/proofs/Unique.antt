-- Two answers that say the same are the same: the meaning of an answer gives it back. So is a refusal that a caller carries inside.
use Rattle.std.specs.Prelude.{Result, Ok, Err, if◌then◌else◌}
use mathlib.Core.Path.{◌≡◌, refl, sym, ap, ◌∙◌}
use mathlib.Core.Bool.{true}
use Prim.Native.Nat.{ℕ}
use lib.Dec.{eqb, leb}
use Rattle.rules.specs.Octets.{Bytes}
use Rattle.rules.specs.Outcome.{Outcome, gives, refuses}
use Rattle.rules.specs.Reader.{read}
use Rattle.reader.specs.declared.Refusal.{Refusal}
use Rattle.reader.specs.declared.Refusal.TheVariants.{NoSpace, Short, Magic, Total, Version, Layout, Shape, Name, Deep, Many, Doubled, Cells, Shared}
use Rattle.reader.specs.Answers.{number_of, place_of, inside_number, meaning}

unfoldable pub refusal_of : (number place : ℕ) → Refusal
refusal_of number place =
    if eqb number 1 then Short
    else if eqb number 2 then Magic
    else if eqb number 3 then Total
    else if eqb number 4 then Version
    else if eqb number 5 then Layout
    else if eqb number 6 then Shape place
    else if eqb number 7 then Name place
    else if eqb number 8 then Deep place
    else if eqb number 9 then Many place
    else if eqb number 10 then Doubled place
    else if eqb number 11 then Cells place
    else if eqb number 12 then Shared place
    else NoSpace

-- a refusal by its number and place, as the reader says it and as it is carried inside, where the number is at most 12
pub record Back (r : Refusal) : Type 0 where
  pub own : refusal_of (number_of r) (place_of r) ≡ r
  pub carried : refusal_of (inside_number r) (place_of r) ≡ r
  pub few : leb (inside_number r) 12 ≡ true

pub back : (r : Refusal) → Back r
unfolding refusal_of
back NoSpace = record { own = refl; carried = refl; few = refl }
back Short = record { own = refl; carried = refl; few = refl }
back Magic = record { own = refl; carried = refl; few = refl }
back Total = record { own = refl; carried = refl; few = refl }
back Version = record { own = refl; carried = refl; few = refl }
back Layout = record { own = refl; carried = refl; few = refl }
back (Shape at) = record { own = refl; carried = refl; few = refl }
back (Name at) = record { own = refl; carried = refl; few = refl }
back (Deep at) = record { own = refl; carried = refl; few = refl }
back (Many at) = record { own = refl; carried = refl; few = refl }
back (Doubled at) = record { own = refl; carried = refl; few = refl }
back (Cells at) = record { own = refl; carried = refl; few = refl }
back (Shared at) = record { own = refl; carried = refl; few = refl }

answer_of : Outcome ℕ → Result ℕ Refusal
answer_of (gives count) = Ok count
answer_of (refuses number place) = Err (refusal_of number place)

answer_back : (a : Result ℕ Refusal) → answer_of (meaning a) ≡ a
unfolding answer_of
answer_back (Ok count) = refl
answer_back (Err r) = ap Err (back r).own

pub meaning_injective : (a c : Result ℕ Refusal) → meaning a ≡ meaning c → a ≡ c
meaning_injective a c e = sym (answer_back a) ∙ ap answer_of e ∙ answer_back c

-- any two results that the reader's promise allows are equal
pub one_answer : (b : Bytes) (words : ℕ) (a c : Result ℕ Refusal) → meaning a ≡ read b words → meaning c ≡ read b words → a ≡ c
one_answer b words a c p q = meaning_injective a c (p ∙ sym q)
