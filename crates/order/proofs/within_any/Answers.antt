-- `within_any` meets its contract: node by node.
use mathlib.Core.Bool.{◌||◌}
use mathlib.Core.Path.{◌∙◌}
use Prim.Native.Nat.{ℕ}
use lib.Dec.{eqb}
use Rattle.std.proofs.Common.{rules, tests}
use Rattle.std.proofs.lemmas.Iterator.{YieldsList-from_slice}
use Rattle.std.proofs.lemmas.Iterator.Search.{any_from_yields_List}
use Rattle.rules.specs.Tree.{frame}
use Rattle.rules.specs.Laws.Lent.{tree_lent}
use Rattle.order.proofs.Tests.{within_one}
use Rattle.order.proofs.within_any.Goals as goal

pub returns : goal.returns
returns c =
    let f = frame (tree_lent c.args.tree.now) in
    let called = any_from_yields_List (λ (p : ℕ). eqb c.args.i p || f.below p c.args.i) _ _ c.any.result c.any.ensures.ran (YieldsList-from_slice c.args.nodes.now c.iter.ensures.rest) (λ x b q k. search (rules, tests)) in
    called ∙ within_one f c.args.nodes.now c.args.i
