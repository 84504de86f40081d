-- A number as digits spell it, by `fold`; and that the first byte of memory can be reserved.
use mathlib.Core.Path.{◌≡◌, refl, ap, ◌∙◌}
use mathlib.Core.List.{List, [], ◌∷◌}
use Prim.Native.Nat.{ℕ}
use Rattle.std.specs.List.{fold}
use Rattle.rules.specs.Outcome.{gives}
use Rattle.rules.specs.Reservations.{Entry, made, invalid}
use Rattle.scripts.specs.Scripts.{shifted, spelt_behind, least, or_least}

pub spelt_fold : (n : ℕ) (s : List ℕ) → fold shifted n s ≡ spelt_behind n s
unfolding spelt_behind
spelt_fold n [] = refl
spelt_fold n (x ∷ s) = spelt_fold (shifted n x) s

pub made_least : made 0 1 ≡ gives least
unfolding made invalid
made_least = refl

pub least_of : (e : Entry) → gives e ≡ made 0 1 → e ≡ least
least_of e h = ap or_least (h ∙ made_least)
