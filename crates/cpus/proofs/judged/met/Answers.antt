-- `met` meets its contract: the search over the nodes in turn.
use mathlib.Core.Path.{refl, ◌∙◌}
use mathlib.Core.Bool.{◌&&◌}
use mathlib.Core.List.{[], ◌∷◌}
use native.Mathlib.Omega.{arith}
use Rattle.std.proofs.Common.{rules, tests}
use Rattle.std.proofs.lemmas.Iterator.{YieldsList-from_range}
use Rattle.std.proofs.lemmas.Iterator.Search.{any_from_yields_List}
use Rattle.rules.specs.Tree.{node, frame}
use Rattle.rules.specs.Copy.{cpu_child, reg_of, is_id}
use Rattle.rules.specs.Laws.Lent.{block_lent, tree_lent}
use Rattle.cpus.proofs.Searches.{met_any}
use Rattle.cpus.proofs.judged.met.Goals as goal

pub returns : goal.returns
returns c =
    let t = tree_lent c.args.tree.now in
    any_from_yields_List (λ i. cpu_child (frame t) i && is_id (c.args.id ∷ []) (reg_of (node t i))) _ _ c.any.result c.any.ensures.ran (YieldsList-from_range 0 c.args.tree.now.count c.args.tree.now.count refl (omega arith)) (λ x b q k. search (rules, tests))
    ∙ met_any (block_lent c.args.tree.now.block) c.args.tree.now.work.now c.args.tree.now.count c.args.id
