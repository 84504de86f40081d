use mathlib.Core.Path.{sym, ap}
use Prim.Native.Nat.{ℕ, ◌+◌, ◌-◌}
use native.Mathlib.Omega.{arith}
use lib.ListN.{length}
use Rattle.rules.specs.Ceilings.{blob_ceiling, node_ceiling}
use Rattle.rules.specs.Tree.{spell}
use Rattle.rules.specs.Laws.Lent.{block_lent, tree_lent}
use Rattle.paths.proofs.Climbs.{spell_none, spell_root, path_root}
use Rattle.paths.proofs.Spellings.{name_short, path_out, spell_length}
use Rattle.paths.proofs.spelling.path_len.Goals.{then-i-eq0-via-then-i-eq0, then-i-eq0-via-else-i-eq0+then-tree-i}
use Rattle.paths.proofs.spelling.path_len.Goals as goal

pub returns-then-i-eq0 : goal.returns-then-i-eq0
returns-then-i-eq0 c =
    let t = c.args.tree.now in
    elim c.then-i-eq0.branch [
      | then-i-eq0-via-then-i-eq0 w ↦ sym (ap length (path_root (tree_lent t) c.args.i w.if-i-eq0.true))
      | then-i-eq0-via-else-i-eq0+then-tree-i w ↦ sym (ap length (path_out (block_lent t.block) t.work.now t.count c.args.i w.if-i-eq0.false w.if-tree-i.true))
    ]

pub returns-then-at-eq0 : goal.returns-then-at-eq0
returns-then-at-eq0 c = omega (arith, c.loop.invariant.1, ap length (spell_root (tree_lent c.args.tree.now) (c.args.i - c.loop.counter) c.loop.at c.if-at-eq0.true))

pub overflow_add-len : goal.overflow_add-len
unfolding blob_ceiling node_ceiling
overflow_add-len c =
    let t = c.args.tree.now in
    omega (arith, c.loop.invariant.0, ap length c.name.ensures, name_short (block_lent t.block) t.work.now t.count c.loop.at)

pub overflow_add-len-in-loop : goal.overflow_add-len-in-loop
unfolding blob_ceiling node_ceiling
overflow_add-len-in-loop c =
    let t = c.args.tree.now in
    omega (arith, c.loop.invariant.0, ap length c.name.ensures, name_short (block_lent t.block) t.work.now t.count c.loop.at)

pub loop-preserved : goal.loop-preserved
unfolding blob_ceiling node_ceiling
loop-preserved c =
    let t = c.args.tree.now in
    let on : ℕ = c.args.i - (c.loop.counter + 1) in (
      omega (arith, c.loop.invariant.0, ap length c.name.ensures, name_short (block_lent t.block) t.work.now t.count c.loop.at),
      omega (arith, c.loop.invariant.1, ap length c.name.ensures, spell_length (tree_lent t) (c.args.i - c.loop.counter) on c.loop.at (omega arith) c.if-at-eq0.false, ap (λ (m : ℕ). length (spell (tree_lent t) on m)) c.up-at.ensures),
    )

pub returns : goal.returns
returns c = omega (arith, c.loop.invariant.1, ap length (spell_none (tree_lent c.args.tree.now) (c.args.i - c.loop.counter) c.loop.at (omega arith)))
