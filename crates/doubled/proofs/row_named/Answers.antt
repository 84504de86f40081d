-- `row_named` meets its contract.
use mathlib.Core.Path.{◌≡◌, sym, ap, ◌∙◌}
use Prim.Native.Nat.{ℕ, ◌*◌, ◌+◌, ◌-◌, ◌≤◌, ◌<◌}
use native.Mathlib.Omega.{arith}
use lib.ListN.{get_or, take, drop, length-drop}
use lib.Seq.{take_all}
use borrow.Author.Tests.{ne_eqb, eq-eqb, lt-leb, le-leb}
use Rattle.rules.specs.Ceilings.{node_words}
use Rattle.doubled.specs.Siblings.{named_at, row_named}
use Rattle.doubled.proofs.Rows.{row_none, row_some, row_word, row_begin}
use Rattle.doubled.proofs.row_named.Goals as goal
use Rattle.doubled.proofs.row_named.Goals.{then-above-parent-via-then-above-parent, then-above-parent-via-else-above-parent+then-begin-block}

pub returns-in_default : goal.returns-in_default
unfolding row_named
returns-in_default c = simp (row_none _ _ _ c.row.ensures c.in_default.is)

pub returns-then-above-parent : goal.returns-then-above-parent
unfolding row_named node_words
returns-then-above-parent c =
    let h = row_some _ _ _ c.row.ensures _ c.in-Some.is in
    let a : get_or c.in-Some.field-0.now 1 0 ≡ get_or c.args.work.now (node_words * c.args.j + 1) 0 = row_word _ _ _ c.row.ensures _ c.in-Some.is 1 (omega arith) in
    elim c.then-above-parent.branch [
      | then-above-parent-via-then-above-parent w ↦ simp (h, ne_eqb _ _ (λ e. w.if-above-parent.true (a ∙ e)))
      | then-above-parent-via-else-above-parent+then-begin-block w ↦
          let b : get_or c.args.work.now (node_words * c.args.j) 0 < c.args.block.now.place = rw (row_begin _ _ _ c.row.ensures _ c.in-Some.is) at w.if-begin-block.true in
          simp (h, eq-eqb _ _ (sym a ∙ w.if-above-parent.false), lt-leb _ _ b)
    ]

pub returns : goal.returns
unfolding row_named node_words
returns c =
    let h = row_some _ _ _ c.row.ensures _ c.in-Some.is in
    let a : get_or c.in-Some.field-0.now 1 0 ≡ get_or c.args.work.now (node_words * c.args.j + 1) 0 = row_word _ _ _ c.row.ensures _ c.in-Some.is 1 (omega arith) in
    let z : get_or c.in-Some.field-0.now 0 0 ≡ get_or c.args.work.now (node_words * c.args.j) 0 = row_begin _ _ _ c.row.ensures _ c.in-Some.is in
    let b : c.args.block.now.place ≤ get_or c.args.work.now (node_words * c.args.j) 0 = rw z at c.if-begin-block.false in
    let n : ℕ = get_or c.args.work.now (node_words * c.args.j) 0 - c.args.block.now.place + 4 in
    let q : c.part.result.now ≡ take 18446744073709551615 (drop (get_or c.in-Some.field-0.now 0 0 - c.args.block.now.place + 4) c.args.block.now.structure.now) = c.part.ensures in
    simp (h, eq-eqb _ _ (sym a ∙ c.if-above-parent.false), le-leb _ _ b)
    (c.named_at.ensures
    ∙ ap (named_at c.args.name.now)
    (rw z at q ∙ take_all 18446744073709551615 (drop n c.args.block.now.structure.now) (omega (arith, length-drop n c.args.block.now.structure.now))))
