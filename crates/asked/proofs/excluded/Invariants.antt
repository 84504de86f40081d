-- `excluded` meets its contract. The invariant: the nodes laid, and those that the rest of the list names, are the whole.
use Rattle.rules.specs.Tree.{frame}
use Rattle.rules.specs.Laws.Lent.{tree_lent}
use Rattle.given.specs.Entries.{paths_left}
use Rattle.asked.proofs.Turns.{Left}
use Rattle.asked.proofs.excluded.Given as goal

abbrev pub invariant-loop-given : goal.invariant-loop-given
invariant-loop-given l = Left (frame (tree_lent l.tree)) l.list l.initial.out l.out (paths_left l.given-iterator) l.n
