-- `cpus_judged` meets its contract. The invariant: the nodes from here on, judged, are all of them judged.
use mathlib.Core.Path.{◌≡◌}
use Prim.Native.Nat.{◌-◌}
use Rattle.rules.specs.Tree.{numbers_from}
use Rattle.rules.specs.Derivation.{cpus_from}
use Rattle.rules.specs.Laws.Lent.{tree_lent}
use Rattle.cpus.proofs.judged.cpus_judged.Given as goal

abbrev pub invariant-loop-i : goal.invariant-loop-i
invariant-loop-i l =
    cpus_from (tree_lent l.tree) (numbers_from 0 l.tree.count) ≡ cpus_from (tree_lent l.tree) (numbers_from l.i (l.tree.count - l.i))
