-- `name` meets its contract.
use mathlib.Core.Path.{sym, ap, ◌∙◌}
use Prim.Native.Nat.{ℕ, ◌+◌}
use native.Mathlib.Omega.{arith}
use Rattle.rules.specs.Events.{string_at}
use Rattle.rules.specs.Tree.{Node}
use Rattle.rules.specs.Laws.Lent.{block_lent}
use Rattle.rules.proofs.Laws.Tabled.{node_in_lem, node_out}
use Rattle.paths.proofs.Climbs.{string_within}
use Rattle.paths.proofs.nodes.name.Goals as goal

pub returns-then-tree-i : goal.returns-then-tree-i
returns-then-tree-i c = let t = c.args.tree.now in sym (ap (λ (n : Node). n.name) (node_out (block_lent t.block) t.work.now t.count c.args.i c.if-tree-i.true))

pub returns : goal.returns
returns c =
    let t = c.args.tree.now in
    c.string_at.ensures
    ∙ string_within t.block.structure.now (c.begin_of.result + 4) c.saturating_add.result 18446744073709551615 c.saturating_add.ensures (omega arith)
    ∙ ap (λ (k : ℕ). string_at t.block.structure.now (k + 4)) c.begin_of.ensures
    ∙ sym (ap (λ (n : Node). n.name) (node_in_lem (block_lent t.block) t.work.now t.count c.args.i c.if-tree-i.false))
