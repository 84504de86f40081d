-- `sibling_below` meets its contract: the search over the rows from the parent's on.
use mathlib.Core.Path.{refl, ◌∙◌}
use Prim.Native.Nat.{◌-◌}
use Rattle.std.proofs.Common.{rules, tests}
use Rattle.std.proofs.lemmas.Iterator.{YieldsList-from_range}
use Rattle.std.proofs.lemmas.Iterator.Search.{any_from_yields_List}
use Rattle.doubled.specs.Siblings.{row_named}
use Rattle.doubled.proofs.Twins.{siblings_any}
use Rattle.doubled.proofs.sibling_below.Goals as goal

pub returns : goal.returns
returns c =
    any_from_yields_List (λ j. row_named c.args.block.now.structure.now c.args.block.now.place c.args.work.now j c.args.parent c.args.name.now) _ _ _ c.any.ensures.ran (YieldsList-from_range c.args.parent c.args.i (c.args.i - c.args.parent) refl refl) (λ x b q k. search (rules, tests))
    ∙ siblings_any c.args.block.now.structure.now c.args.block.now.place c.args.work.now c.args.parent c.args.name.now c.args.i
