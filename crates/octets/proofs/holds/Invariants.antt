-- `holds` meets its contract. The invariant: the answer is that for what is left of s from i on.
use mathlib.Core.Path.{◌≡◌}
use lib.ListN.{drop}
use Rattle.rules.specs.Octets.{holds}
use Rattle.octets.proofs.holds.Given as goal

abbrev pub invariant-loop-i : goal.invariant-loop-i
invariant-loop-i l = holds l.p l.s ≡ holds l.p (drop l.i l.s)
