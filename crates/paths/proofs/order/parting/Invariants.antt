-- `parting` meets its contract. The invariant: the ways from both nodes up to here have not met.
use Prim.Native.Nat.{◌+◌, ◌<◌}
use Rattle.rules.specs.Laws.Paths.{Formed}
use Rattle.rules.specs.Laws.Lent.{tree_lent}
use Rattle.paths.specs.Order.{Forked}
use Rattle.paths.proofs.order.parting.Given as goal

abbrev pub invariant-loop-a : goal.invariant-loop-a
invariant-loop-a l = Formed (tree_lent l.tree) → l.i < l.tree.count → l.j < l.tree.count → Forked (tree_lent l.tree) l.i l.j l.a l.b l.fork

abbrev pub decreases-loop-a : goal.decreases-loop-a
decreases-loop-a l = l.a + l.b
