-- `row_has` meets its contract.
use mathlib.Core.Path.{◌≡◌, sym, ap, ◌∙◌}
use mathlib.Core.Bool.{false}
use Prim.Native.Nat.{ℕ, ◌*◌, ◌+◌}
use native.Mathlib.Omega.{arith}
use lib.Dec.{eqb}
use lib.ListN.{get_or}
use borrow.Author.Tests.{ne_eqb, eq-eqb}
use Rattle.rules.specs.Ceilings.{node_words}
use Rattle.rules.proofs.Laws.Tests.{and_nothing, and_none}
use Rattle.doubled.proofs.Rows.{row_none, row_some, row_word}
use Rattle.passes.specs.Rows.{row_has}
use Rattle.passes.proofs.shared.row_has.Goals as goal

pub returns-in_default : goal.returns-in_default
unfolding row_has
returns-in_default c = simp (row_none _ _ _ c.row.ensures c.in_default.is)

pub returns-then-phandle-v : goal.returns-then-phandle-v
unfolding row_has node_words
returns-then-phandle-v c =
    let h = row_some _ _ _ c.row.ensures _ c.in-Some.is in
    let g : get_or c.in-Some.field-0.now 2 0 ≡ get_or c.args.work.now (node_words * c.args.i + 2) 0 = row_word _ _ _ c.row.ensures _ c.in-Some.is 2 (omega arith) in
    let p : get_or c.in-Some.field-0.now 3 0 ≡ get_or c.args.work.now (node_words * c.args.i + 3) 0 = row_word _ _ _ c.row.ensures _ c.in-Some.is 3 (omega arith) in
    simp (h, eq-eqb _ _ (sym p ∙ c.if-phandle-v.true), and_nothing) (ap (λ (n : ℕ). eqb n 1) g)

pub returns-else-phandle-v : goal.returns-else-phandle-v
unfolding row_has node_words
returns-else-phandle-v c =
    let h = row_some _ _ _ c.row.ensures _ c.in-Some.is in
    let p : get_or c.in-Some.field-0.now 3 0 ≡ get_or c.args.work.now (node_words * c.args.i + 3) 0 = row_word _ _ _ c.row.ensures _ c.in-Some.is 3 (omega arith) in
    let n : eqb (get_or c.in-Some.field-0.now 3 0) c.args.v ≡ false = ne_eqb _ _ c.if-phandle-v.false in
    n ∙ simp (h, ne_eqb _ _ (λ e. c.if-phandle-v.false (p ∙ e)), and_none)
