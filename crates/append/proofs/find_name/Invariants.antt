-- `find_name` meets its contract. The invariant: the offset is the place reached and the offset from there on.
use mathlib.Core.Path.{◌≡◌}
use Prim.Native.Nat.{◌+◌, ◌-◌, ◌≤◌}
use lib.ListN.{length, drop}
use Rattle.rules.specs.Writer.{name_offset}
use Rattle.append.proofs.find_name.Given as goal

abbrev pub invariant-loop-at : goal.invariant-loop-at
invariant-loop-at l = (l.at ≤ length l.strings) × (name_offset l.name l.strings ≡ l.at + name_offset l.name (drop l.at l.strings))

abbrev pub decreases-loop-at : goal.decreases-loop-at
decreases-loop-at l = length l.strings - l.at
