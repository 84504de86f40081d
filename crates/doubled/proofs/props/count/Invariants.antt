-- `count` meets its contract. The invariant: those that were counted, and those from here on, are all.
use mathlib.Core.Path.{◌≡◌}
use Prim.Native.Nat.{ℕ, ◌+◌, ◌-◌, ◌≤◌}
use lib.ListN.{length}
use Rattle.rules.specs.Octets.{Bytes}
use Rattle.doubled.specs.Passes.{props_at}
use Rattle.doubled.proofs.props.count.Given as goal

abbrev pub invariant-loop-property : goal.invariant-loop-property
invariant-loop-property l = (l.at ≤ length l.structure) × (l.n ≤ l.at) × ((strings : Bytes) (p : ℕ) → l.n + length (props_at l.structure strings p l.at) ≡ length (props_at l.structure strings p l.from))

abbrev pub decreases-loop-property : goal.decreases-loop-property
decreases-loop-property l = length l.structure - l.at
