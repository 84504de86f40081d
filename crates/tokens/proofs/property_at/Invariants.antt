-- `property_at` meets its contract. The invariant: NOPs were passed, so that the next property from here on is the one from there on.
use mathlib.Core.Path.{◌≡◌}
use Prim.Native.Nat.{◌-◌}
use lib.ListN.{length}
use Rattle.tokens.specs.Properties.{property_at}
use Rattle.tokens.proofs.property_at.Given as goal

abbrev pub invariant-loop-kind : goal.invariant-loop-kind
invariant-loop-kind l = property_at l.structure l.from ≡ property_at l.structure l.at

abbrev pub decreases-loop-kind : goal.decreases-loop-kind
decreases-loop-kind l = length l.structure - l.at
