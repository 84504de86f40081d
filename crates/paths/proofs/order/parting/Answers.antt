use native.Mathlib.Omega.{arith}
use Rattle.rules.specs.Laws.Lent.{block_lent, tree_lent}
use Rattle.rules.proofs.Laws.Tabled.{tree_length}
use Rattle.paths.proofs.Ways.{fork_start, fork_right, fork_left}
use Rattle.paths.proofs.order.parting.Goals as goal

pub loop-a-init : goal.loop-a-init
loop-a-init c =
    let t = c.args.tree.now in
    let l = tree_length (block_lent t.block) t.work.now t.count 0 in
    λ w g h. fork_start (tree_lent t) w c.args.i c.args.j (omega arith) (omega arith)

pub loop-a-preserved-then-a-b : goal.loop-a-preserved-then-a-b
loop-a-preserved-then-a-b c =
    λ w g h. fork_right (tree_lent c.args.tree.now) w c.args.i c.args.j c.loop-a.a c.loop-a.b c.loop-a.fork (c.loop-a.invariant w g h) c.above-b.result
    c.if-a-b.true c.above-b.ensures.near (c.above-b.ensures.less (omega arith))

pub loop-a-preserved : goal.loop-a-preserved
loop-a-preserved c =
    λ w g h. fork_left (tree_lent c.args.tree.now) w c.args.i c.args.j c.loop-a.a c.loop-a.b c.loop-a.fork (c.loop-a.invariant w g h) c.above-a.result
    (omega arith) c.above-a.ensures.near (c.above-a.ensures.less (omega arith))
