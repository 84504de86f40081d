-- What is known of a state whose numbers can be so.
use mathlib.Core.Path.{◌≡◌}
use mathlib.Core.Bool.{Bool, false, not, ◌||◌}
use mathlib.Core.List.{List, [], ◌∷◌}
use Prim.Native.Nat.{ℕ, ◌%◌, ◌≤◌}
use native.Mathlib.Omega.{arith}
use lib.Dec.{ltb, eqb}
use borrow.Author.Tests.{ltb-false}
use Rattle.rules.specs.Ceilings.{blob_ceiling, open_ceiling}
use Rattle.rules.specs.Writer.{State, room, impossible}
use Rattle.rules.proofs.Laws.Tests.{or_false}

-- tests joined by `||`
abbrev joined : Bool → List Bool → Bool
joined b [] = b
joined b (c ∷ cs) = joined (b || c) cs

abbrev None : List Bool → Type 0
None [] = Unit {0}
None (b ∷ bs) = (b ≡ false) × None bs

none : (b : Bool) (bs : List Bool) → joined b bs ≡ false → None (b ∷ bs)
none b [] e = (e, tt)
none b (c ∷ cs) e =
    let r = none (b || c) cs e in
    let o = or_false b c r.0 in
    (o.0, (o.1, r.1))

pub record Possible (w : State) (dataLent strings_lent : ℕ) : Type 0 where
  pub high : 56 ≤ w.data_length
  pub low : w.structure ≤ w.data_length
  pub deep : w.depth ≤ 64
  pub in_data : w.data_length ≤ dataLent
  pub data_small : w.data_length ≤ blob_ceiling
  pub in_strings : w.strings_length ≤ strings_lent
  pub strings_small : w.strings_length ≤ blob_ceiling

pub possible : (w : State) (a b : ℕ) → impossible w a b ≡ false → Possible w a b
unfolding impossible blob_ceiling open_ceiling
possible w a b e =
    let t =
    none w.finished
    (ltb w.data_length 56
    ∷ not (eqb (w.data_length % 4) 0)
    ∷ ltb w.structure 56
    ∷ ltb w.data_length w.structure
    ∷ ltb open_ceiling w.depth
    ∷ ltb (room a) w.data_length
    ∷ ltb (room b) w.strings_length
    ∷ [])
    e in
    let high : 56 ≤ w.data_length = ltb-false _ _ t.1.0 in
    let low : w.structure ≤ w.data_length = ltb-false _ _ t.1.1.1.1.0 in
    let deep : w.depth ≤ open_ceiling = ltb-false _ _ t.1.1.1.1.1.0 in
    let d : w.data_length ≤ room a = ltb-false _ _ t.1.1.1.1.1.1.0 in
    let s : w.strings_length ≤ room b = ltb-false _ _ t.1.1.1.1.1.1.1.0 in
    record { high = high; low = low; deep = omega arith; in_data = omega arith; data_small = omega arith; in_strings = omega arith; strings_small = omega arith }
