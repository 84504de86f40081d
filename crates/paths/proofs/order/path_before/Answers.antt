-- `path_before` meets its contract: one node is above the other, or the names at the fork decide.
use mathlib.Core.Path.{sym, ap₂, ◌∙◌}
use mathlib.Core.Bool.{not}
use mathlib.Core.List.{◌++◌}
use native.Mathlib.Omega.{arith}
use lib.Dec.{eqb}
use Rattle.rules.specs.Octets.{Bytes, before}
use Rattle.rules.specs.Laws.Lent.{block_lent, tree_lent}
use Rattle.rules.proofs.Laws.Tabled.{tree_length}
use Rattle.paths.specs.Order.{slash}
use Rattle.paths.proofs.Ways.{fork_above, fork_below, fork_names}
use Rattle.paths.proofs.order.path_before.Goals as goal

pub returns-in_default : goal.returns-in_default
returns-in_default c =
    let t = c.args.tree.now in
    let l = tree_length (block_lent t.block) t.work.now t.count 0 in
    λ w g h. let m = c.parting-fork.ensures w g h in
    sym (fork_above (tree_lent t) w c.args.i c.args.j (omega arith) (omega arith) m.0 c.parting-fork.result m.1 c.in_default.is)

pub returns-in_default-left : goal.returns-in_default-left
returns-in_default-left c =
    let t = c.args.tree.now in
    let l = tree_length (block_lent t.block) t.work.now t.count 0 in
    λ w g h. let m = c.parting-fork.ensures w g h in
    sym (fork_below (tree_lent t) w c.args.i c.args.j (omega arith) (omega arith) m.0 c.parting-fork.result m.1 c.in-Some.right c.in-Some.is c.in_default-left.is)

pub returns : goal.returns
returns c =
    let t = c.args.tree.now in
    let l = tree_length (block_lent t.block) t.work.now t.count 0 in
    λ w g h. let m = c.parting-fork.ensures w g h in
    c.name_before.ensures
    ∙ ap₂ (λ (n o : Bytes). before (n ++ slash (not (eqb c.in-Some-left.left c.args.i))) (o ++ slash (not (eqb c.in-Some.right c.args.j)))) c.name.ensures c.name-2.ensures
    ∙ sym (fork_names (tree_lent t) w c.args.i c.args.j (omega arith) (omega arith) m.0 c.parting-fork.result m.1 c.in-Some.right c.in-Some.is c.in-Some-left.left c.in-Some-left.is)
