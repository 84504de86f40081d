-- `paths_judged` meets its contract. The invariant: the rest of the list, judged from here, is the whole list judged.
use mathlib.Core.Path.{◌≡◌}
use Rattle.rules.specs.Derivation.{given, paths_judged}
use Rattle.given.specs.Entries.{paths_left}
use Rattle.given.proofs.paths_judged.Given as goal

abbrev pub invariant-loop-index : goal.invariant-loop-index
invariant-loop-index l =
    (goal.iterator-loop-index).can_next l.index-iterator
    × (goal.iterator-loop-index).is_finite l.index-iterator
    × (paths_judged 0 (given l.list) ≡ paths_judged l.index-iterator.count (paths_left l.index-iterator.iter))
