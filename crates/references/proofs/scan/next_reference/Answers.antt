use mathlib.Core.Path.{sym, ap, ◌∙◌}
use native.Mathlib.Omega.{arith}
use Rattle.rules.specs.Laws.Lent.{block_lent}
use Rattle.rules.specs.Laws.Tabled.{look_in}
use Rattle.references.specs.Rows.{meaning}
use Rattle.references.proofs.Scans.{scanned_odd, scanned_past, scanned_skip, scanned_here}
use Rattle.references.proofs.scan.next_reference.Goals as goal

pub returns-then-value-ne0 : goal.returns-then-value-ne0
returns-then-value-ne0 c =
    let t = c.args.tree.now in
    scanned_odd (block_lent t.block) t.work.now t.count (meaning c.args.cells) c.args.value.now c.args.i c.if-value-ne0.true

pub returns-in-Some : goal.returns-in-Some
returns-in-Some c =
    let t = c.args.tree.now in
    scanned_here (block_lent t.block) t.work.now t.count (meaning c.args.cells) c.args.value.now c.if-value-ne0.false c.args.i c.loop-at.at c.loop-at.invariant
    c.loop-at-test.true (omega arith) c.in-Some.m c.cells_at.result
    (ap (look_in t.work.now t.count) (sym c.word.ensures) ∙ sym c.in-Some.ensures) c.cells_at.ensures c.refers.result c.refers.ensures

pub loop-at-preserved : goal.loop-at-preserved
loop-at-preserved c =
    let t = c.args.tree.now in
    scanned_skip (block_lent t.block) t.work.now t.count (meaning c.args.cells) c.args.value.now c.if-value-ne0.false c.args.i c.loop-at.at c.loop-at.invariant
    c.loop-at-test.true (ap (look_in t.work.now t.count) (sym c.word.ensures) ∙ sym c.in_default.ensures)

pub returns : goal.returns
returns c =
    let t = c.args.tree.now in
    scanned_past (block_lent t.block) t.work.now t.count (meaning c.args.cells) c.args.value.now c.if-value-ne0.false c.args.i c.loop-at.at c.loop-at.invariant c.loop-at-test.false
