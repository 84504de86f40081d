-- `node` meets its contract.
use mathlib.Core.Path.{refl, sym, ap, ap₂, ◌∙◌}
use mathlib.Core.Bool.{Bool}
use mathlib.Core.List.{[], ◌∷◌}
use Prim.Native.Nat.{◌+◌}
use Rattle.rules.specs.Outcome.{◌then◌, first}
use Rattle.rules.specs.Tree.{doubled_props}
use Rattle.doubled.specs.Passes.{props_at}
use Rattle.doubled.specs.Siblings.{sibling_below}
use Rattle.doubled.proofs.node.Goals as goal

pub returns-then-sibling_below : goal.returns-then-sibling_below
returns-then-sibling_below c =
    let q = sym (c.sibling_below.ensures ∙ ap₂ (sibling_below c.args.block.now.structure.now c.args.block.now.place c.args.work.now c.args.i) c.row_parent.ensures c.part-name.ensures) ∙ c.if-sibling_below.true in
    record { judged = λ h p. sym (ap (λ (x : Bool). first (record { fails = x; number = 10; place = p + c.args.at } ∷ []) then doubled_props [] (props_at c.args.block.now.structure.now c.args.block.now.strings.now p c.args.next)) q); inside = c.requires.0; kept = λ c. refl }

pub returns : goal.returns
returns c =
    let q = sym (c.sibling_below.ensures ∙ ap₂ (sibling_below c.args.block.now.structure.now c.args.block.now.place c.args.work.now c.args.i) c.row_parent.ensures c.part-name.ensures) ∙ c.if-sibling_below.false in
    record { judged = λ h p. c.doubled_props.ensures.judged h p ∙ sym (ap (λ (x : Bool). first (record { fails = x; number = 10; place = p + c.args.at } ∷ []) then doubled_props [] (props_at c.args.block.now.structure.now c.args.block.now.strings.now p c.args.next)) q); inside = c.doubled_props.ensures.inside; kept = c.doubled_props.ensures.kept }
