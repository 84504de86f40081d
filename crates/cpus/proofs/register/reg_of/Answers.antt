use mathlib.Core.Path.{sym, ap, ◌∙◌}
use native.Mathlib.Omega.{arith}
use Rattle.rules.specs.Octets.{ascii, same}
use Rattle.rules.specs.Laws.Lent.{block_lent}
use Rattle.tokens.proofs.Properties.{behind_inside, here_ahead}
use Rattle.cpus.specs.Registers.{meaning, number_in}
use Rattle.cpus.proofs.Registers.{reg_first, reg_end, reg-value, reg-on}
use Rattle.cpus.proofs.register.reg_of.Goals as goal

pub loop-property-init : goal.loop-property-init
loop-property-init c =
    let b = block_lent c.args.block.now in
    (omega (arith, c.behind-at.ensures, behind_inside b.structure c.args.begin), reg_first b c.args.begin c.behind-at.result c.behind-at.ensures)

pub returns : goal.returns
returns c =
    sym (c.loop-property.invariant.1 ∙ reg_end (block_lent c.args.block.now) c.loop-property.at c.loop-property.invariant.0 c.property_at.result c.property_at.ensures c.in_default.is)

pub returns-then-same : goal.returns-then-same
unfolding ascii
returns-then-same c =
    sym (c.loop-property.invariant.1 ∙ reg-value (block_lent c.args.block.now) c.loop-property.at c.loop-property.invariant.0 c.property_at.result c.property_at.ensures c.in-Some.property c.in-Some.is
    (ap (same (ascii "reg")) (sym c.string_at.ensures) ∙ sym c.same.ensures ∙ c.if-same.true)
    ∙ sym (ap meaning (c.number_in.ensures ∙ ap number_in c.part.ensures)))

pub loop-property-smaller : goal.loop-property-smaller
loop-property-smaller c =
    omega (arith, here_ahead c.args.block.now.structure.now c.loop-property.at c.property_at.result c.property_at.ensures c.in-Some.property c.in-Some.is)

pub loop-property-preserved : goal.loop-property-preserved
unfolding ascii
loop-property-preserved c =
    let b = block_lent c.args.block.now in (
      (here_ahead b.structure c.loop-property.at c.property_at.result c.property_at.ensures c.in-Some.property c.in-Some.is).1,
      c.loop-property.invariant.1 ∙ reg-on b c.loop-property.at c.loop-property.invariant.0 c.property_at.result c.property_at.ensures c.in-Some.property c.in-Some.is
          (ap (same (ascii "reg")) (sym c.string_at.ensures) ∙ sym c.same.ensures ∙ c.if-same.false),
    )
