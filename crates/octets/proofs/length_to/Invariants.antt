-- `length_to` meets its contract. The invariant: the bytes passed, with those before the first such byte from i on, are those before
-- the first of all.
use Rattle.std.proofs.Common.{◌≡◌, ◌+◌, drop}
use Rattle.rules.specs.Octets.{length_to}
use Rattle.octets.proofs.length_to.Given as goal

abbrev pub invariant-loop-i : goal.invariant-loop-i
invariant-loop-i l = l.i + length_to l.value (drop l.i l.left) ≡ length_to l.value l.left
