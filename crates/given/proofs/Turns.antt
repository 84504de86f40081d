-- A turn of the walk over a path list: nothing is left, or a path is at fault, or the walk goes on behind it.
use mathlib.Core.Path.{◌≡◌, sym, ap, ◌∙◌}
use mathlib.Core.Bool.{true, false}
use mathlib.Core.List.{List, [], ◌∷◌}
use Prim.Native.Nat.{ℕ, zero, suc, ◌+◌, ◌≤◌}
use native.Mathlib.Numerals.{add-one}
use native.Mathlib.Omega.{arith}
use lib.ListN.{length, drop, length-drop}
use Rattle.rules.specs.Octets.{Bytes, nul_in}
use Rattle.rules.specs.Outcome.{Verdict, passes, refuses}
use Rattle.rules.specs.Derivation.{Given, given, given_from, path_at_fault, paths_judged}
use Rattle.rules.proofs.Laws.Given.{paths_none, paths_fault, paths_good}

-- what is left, judged from an index on, is the whole list judged
module _ (whole : Verdict) (index : ℕ) (left : List Given) (inv : whole ≡ paths_judged index left) where
  pub at_done : left ≡ [] → passes ≡ whole
  at_done e = sym (inv ∙ ap (paths_judged index) e ∙ paths_none index)

  module _ (g : Given) (rest : List Given) (e : left ≡ g ∷ rest) where
    pub at_fault : path_at_fault index g ≡ true → refuses 41 g.offset ≡ whole
    at_fault h = sym (inv ∙ ap (paths_judged index) e ∙ paths_fault index g rest h)

    pub at_good : path_at_fault index g ≡ false → whole ≡ paths_judged (index + 1) rest
    at_good h = inv ∙ ap (paths_judged index) e ∙ paths_good index g rest h ∙ ap (λ (k : ℕ). paths_judged k rest) (sym (add-one index))

from_short : (fuel offset : ℕ) (bs : Bytes) → length (given_from fuel offset bs) ≤ length bs
unfolding given_from
from_short zero offset bs = omega arith
from_short (suc fuel) offset [] = omega arith
from_short (suc fuel) offset (b ∷ bs) =
    let n : ℕ = nul_in (b ∷ bs) in
    omega (arith, from_short fuel (offset + n + 1) (drop (n + 1) (b ∷ bs)), length-drop (n + 1) (b ∷ bs))

-- a list has no more entries than bytes
pub given_short : (s : Bytes) → length (given s) ≤ length s
unfolding given
given_short s = from_short (length s) 0 s
