-- `ids_judged` meets its contract. The invariant: the rest of the ids, judged, are all of them judged.
use mathlib.Core.Path.{◌≡◌}
use lib.ListN.{drop}
use Rattle.rules.specs.Derivation.{ids_from}
use Rattle.rules.specs.Laws.Lent.{tree_lent}
use Rattle.cpus.proofs.judged.ids_judged.Given as goal

abbrev pub invariant-loop-at : goal.invariant-loop-at
invariant-loop-at l = ids_from (tree_lent l.tree) 0 l.ids ≡ ids_from (tree_lent l.tree) l.at (drop l.at l.ids)
