-- `give` meets its contract.
use mathlib.Core.Path.{sym, ap₂, ◌∙◌}
use mathlib.Core.Bool.{false}
use mathlib.Core.List.{List}
use Prim.Native.Nat.{ℕ}
use native.Mathlib.Numerals.{add-one}
use Rattle.std.specs.Prelude.{Some}
use Rattle.passes.specs.Rows.{row_give}
use Rattle.passes.proofs.shared.give.Goals as goal

pub returns-then-row_below : goal.returns-then-row_below
unfolding row_give
returns-then-row_below c = rw (sym c.row_below.ensures ∙ c.if-row_below.true, row_give)

pub returns : goal.returns
unfolding row_give
returns c =
    rw (sym c.row_below.ensures ∙ c.if-row_below.false, row_give)
    (ap₂ (λ (n : ℕ) (l : List ℕ). (Some (record { number = n; wants = false }), l)) (add-one c.args.i) c.put_row.ensures)
