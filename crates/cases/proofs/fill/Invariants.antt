-- `fill` meets its contract: the front is filled, and the rest is what it was.
use mathlib.Core.Path.{◌≡◌}
use mathlib.Core.List.{◌++◌}
use lib.ListN.{drop, replicate}
use Rattle.cases.proofs.fill.Given as goal

abbrev pub invariant-loop-place : goal.invariant-loop-place
invariant-loop-place g l = l.s ≡ replicate l.place-index l.x ++ drop l.place-index l.initial.s
