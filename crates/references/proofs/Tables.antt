-- A search over the rows of the node table: a row is a hit, or it is not.
use mathlib.Core.Path.{◌≡◌, refl, sym, ap, ◌∙◌}
use mathlib.Core.Bool.{Bool, true, false, ◌&&◌}
use mathlib.Core.List.{List}
use mathlib.Core.Option.{some}
use Prim.Native.Nat.{ℕ, zero, suc, ◌+◌, ◌≤◌, ◌<◌}
use native.Mathlib.Omega.{arith}
use native.Mathlib.Numerals.{add-one}
use lib.Dec.{eqb}
use borrow.Author.Tests.{eqb-true, eqb-false}
use Rattle.std.specs.Prelude.{Option, None, Some, MatchOption}
use Rattle.rules.proofs.Laws.Tests.{by_test, and_true}
use Rattle.rules.specs.Laws.Tabled.{cell, look_in}
use Rattle.rules.proofs.Laws.Tabled.{look_from, look_all, look_end, look_bare, look_other, look_here}
use Rattle.references.specs.Table.{found}

module _ (ws : List ℕ) (count w : ℕ) where
  -- row i says this phandle
  abbrev pub says : ℕ → Bool
  says i = eqb (cell ws i 2) 1 && eqb w (cell ws i 3)

  module _ (i : ℕ) (h : i < count) where
    look_hit : says i ≡ true → look_from ws count w i ≡ some i
    look_hit e =
        let k = and_true (eqb (cell ws i 2) 1) (eqb w (cell ws i 3)) e in
        look_here ws count w i h (eqb-true _ _ k.0) (eqb-true _ _ k.1)

    look_miss : says i ≡ false → look_from ws count w i ≡ look_from ws count w (i + 1)
    look_miss e = by_test (eqb (cell ws i 2) 1)
        (λ t. look_other ws count w i h (eqb-true _ _ t) (eqb-false _ _ (rw t at e)))
        (λ t. look_bare ws count w i h (eqb-false _ _ t))

  abbrev pub Passed : ℕ → Type 0
  Passed i = (k : ℕ) → 0 ≤ k → k < i → says k ≡ false

  look_past : (i : ℕ) → i ≤ count → Passed i → look_from ws count w 0 ≡ look_from ws count w i
  look_past zero h f = refl
  look_past (suc i) h f =
      look_past i (omega arith) (λ k z l. f k z (omega arith))
      ∙ look_miss i (omega arith) (f i (omega arith) (omega arith))
      ∙ ap (look_from ws count w) (add-one i)

  -- the first row that says it is the node's
  pub look_first : (r : Option ℕ) → MatchOption r (Passed count) (λ i. (0 ≤ i) × (i < count) × (says i ≡ true) × Passed i) → found r ≡ look_in ws count w
  look_first None f = sym (look_all ws count w ∙ look_past count (omega arith) f ∙ look_end ws count w count (omega arith))
  look_first (Some i) f = sym (look_all ws count w ∙ look_past i (omega (arith, f.1)) f.3 ∙ look_hit i f.1 f.2)
