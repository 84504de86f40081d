-- `up` meets its contract.
use mathlib.Core.Path.{sym, ap, ◌∙◌}
use Rattle.rules.specs.Tree.{Node}
use Rattle.rules.specs.Laws.Lent.{block_lent}
use Rattle.rules.proofs.Laws.Tabled.{node_in_lem, node_out}
use Rattle.paths.proofs.nodes.up.Goals as goal

pub returns-then-tree-i : goal.returns-then-tree-i
returns-then-tree-i c = let t = c.args.tree.now in sym (ap (λ (n : Node). n.parent) (node_out (block_lent t.block) t.work.now t.count c.args.i c.if-tree-i.true))

pub returns : goal.returns
returns c = let t = c.args.tree.now in c.cell.ensures ∙ sym (ap (λ (n : Node). n.parent) (node_in_lem (block_lent t.block) t.work.now t.count c.args.i c.if-tree-i.false))
