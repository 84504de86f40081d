-- `below` meets its contract. The invariant: from here, with the steps that are left, one comes to p exactly if one does from m.
use mathlib.Core.Path.{◌≡◌}
use Prim.Native.Nat.{◌-◌}
use Rattle.rules.specs.Tree.{below, climb}
use Rattle.rules.specs.Laws.Lent.{tree_lent}
use Rattle.paths.proofs.nodes.below.Given as goal

abbrev pub invariant-loop : goal.invariant-loop
invariant-loop l = below (tree_lent l.tree) l.p l.m ≡ climb (tree_lent l.tree) (l.m - l.counter) l.p l.at
