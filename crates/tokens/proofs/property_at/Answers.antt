use mathlib.Core.Path.{sym, ◌∙◌}
use native.Mathlib.Omega.{arith}
use Rattle.rules.proofs.Laws.Tokens.{item_ahead}
use Rattle.tokens.proofs.Properties.{property_stop, property_nop, property_here, property_past}
use Rattle.tokens.proofs.property_at.Goals as goal

pub returns : goal.returns
returns c = sym (c.loop-kind.invariant ∙ property_stop c.args.structure.now c.loop-kind.at c.token_at.result c.token_at.ensures c.in_default.not-Item)

pub loop-kind-smaller : goal.loop-kind-smaller
loop-kind-smaller c = omega (arith, item_ahead c.args.structure.now c.loop-kind.at c.token_at.result c.in-Item.kind c.in-Item.next c.token_at.ensures c.in-Item.is)

pub loop-kind-preserved : goal.loop-kind-preserved
loop-kind-preserved c = c.loop-kind.invariant ∙ property_nop c.args.structure.now c.loop-kind.at c.token_at.result c.token_at.ensures c.in-Item.kind c.in-Item.next c.in-Item.is c.in-Nop.is

pub returns-in-Prop : goal.returns-in-Prop
returns-in-Prop c = sym (c.loop-kind.invariant ∙ property_here c.args.structure.now c.loop-kind.at c.token_at.result c.token_at.ensures c.in-Item.kind c.in-Item.next c.in-Item.is _ _ _ c.in-Prop.is)

pub returns-in-Begin : goal.returns-in-Begin
returns-in-Begin c =
    sym (
    c.loop-kind.invariant
    ∙ property_past c.args.structure.now c.loop-kind.at c.token_at.result c.token_at.ensures c.in-Item.kind c.in-Item.next c.in-Item.is c.in-Begin.is
    )
