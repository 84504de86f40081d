use mathlib.Core.Path.{sym, ◌∙◌}
use Prim.Native.Nat.{◌+◌, ◌-◌}
use native.Mathlib.Omega.{arith}
use Rattle.rules.specs.Laws.Lent.{tree_lent}
use Rattle.paths.proofs.Climbs.{climb_none, climb_root, climb_hit, climb_on}
use Rattle.paths.proofs.nodes.below.Goals as goal

pub returns-then-at-eq0 : goal.returns-then-at-eq0
returns-then-at-eq0 c = sym (c.loop.invariant ∙ climb_root (tree_lent c.args.tree.now) (c.args.m - c.loop.counter) c.args.p c.loop.at c.if-at-eq0.true)

pub returns-then-at-p : goal.returns-then-at-p
returns-then-at-p c =
    sym (c.loop.invariant ∙ climb_hit (tree_lent c.args.tree.now) (c.args.m - c.loop.counter) (c.args.m - (c.loop.counter + 1)) c.args.p c.loop.at c.up-at.result (omega arith) c.if-at-eq0.false c.up-at.ensures c.if-at-p.true)

pub loop-preserved : goal.loop-preserved
loop-preserved c =
    c.loop.invariant ∙ climb_on (tree_lent c.args.tree.now) (c.args.m - c.loop.counter) (c.args.m - (c.loop.counter + 1)) c.args.p c.loop.at c.up-at.result (omega arith) c.if-at-eq0.false c.up-at.ensures c.if-at-p.false

pub returns : goal.returns
returns c = sym (c.loop.invariant ∙ climb_none (tree_lent c.args.tree.now) (c.args.m - c.loop.counter) c.args.p c.loop.at (omega arith))
