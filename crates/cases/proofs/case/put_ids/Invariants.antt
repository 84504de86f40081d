-- `put_ids` meets its contract: the front holds the numbers, and the rest is what it was.
use mathlib.Core.Path.{◌≡◌}
use mathlib.Core.List.{◌++◌}
use lib.ListN.{drop}
use Rattle.cases.specs.Case.{ids_in}
use Rattle.cases.proofs.case.put_ids.Given as goal

abbrev pub invariant-loop-i : goal.invariant-loop-i
invariant-loop-i l = l.ids ≡ ids_in l.raw 0 l.i ++ drop l.i l.initial.ids
