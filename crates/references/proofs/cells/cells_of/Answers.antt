use mathlib.Core.Path.{sym, ap, ◌∙◌}
use native.Mathlib.Omega.{arith}
use Rattle.rules.specs.Octets.{Bytes, word_at}
use Rattle.rules.specs.Laws.Lent.{block_lent}
use Rattle.tokens.proofs.Properties.{behind_inside, here_ahead}
use Rattle.references.specs.Rows.{meaning, is_named}
use Rattle.references.proofs.Counts.{count_first, count_end, count-value, count-on}
use Rattle.references.proofs.cells.cells_of.Goals as goal

pub loop-property-init : goal.loop-property-init
loop-property-init c =
    let b = block_lent c.args.block.now in
    (omega (arith, c.behind-at.ensures, behind_inside b.structure c.args.begin), count_first b (meaning c.args.cells) c.args.begin c.behind-at.result c.behind-at.ensures)

pub returns : goal.returns
returns c =
    let b = block_lent c.args.block.now in
    sym (c.loop-property.invariant.1 ∙ count_end b (meaning c.args.cells) c.loop-property.at c.loop-property.invariant.0 c.property_at.result c.property_at.ensures c.in_default.is)

pub returns-then-is_cells : goal.returns-then-is_cells
returns-then-is_cells c =
    let b = block_lent c.args.block.now in
    let o = meaning c.args.cells in
    sym (c.loop-property.invariant.1 ∙ count-value b o c.loop-property.at c.loop-property.invariant.0 c.property_at.result c.property_at.ensures c.in-Some.property c.in-Some.is
    (ap (is_named o) (sym c.string_at.ensures) ∙ sym c.is_cells.ensures ∙ c.if-is_cells.true)
    ∙ sym (c.word.ensures ∙ ap (λ (v : Bytes). word_at v 0) c.part-value.ensures))

pub loop-property-smaller : goal.loop-property-smaller
loop-property-smaller c =
    omega (arith, here_ahead c.args.block.now.structure.now c.loop-property.at c.property_at.result c.property_at.ensures c.in-Some.property c.in-Some.is)

pub loop-property-preserved : goal.loop-property-preserved
loop-property-preserved c =
    let b = block_lent c.args.block.now in
    let o = meaning c.args.cells in (
      (here_ahead b.structure c.loop-property.at c.property_at.result c.property_at.ensures c.in-Some.property c.in-Some.is).1,
      c.loop-property.invariant.1 ∙ count-on b o c.loop-property.at c.loop-property.invariant.0 c.property_at.result c.property_at.ensures c.in-Some.property c.in-Some.is
          (ap (is_named o) (sym c.string_at.ensures) ∙ sym c.is_cells.ensures ∙ c.if-is_cells.false),
    )
