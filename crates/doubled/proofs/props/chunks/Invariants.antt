-- `chunks` meets its contract. The invariant: what is left, and then what was found behind it, judges as the whole.
use mathlib.Core.List.{[]}
use mathlib.Core.Path.{◌≡◌}
use Prim.Native.Nat.{ℕ, ◌≤◌}
use lib.ListN.{length, take}
use Rattle.rules.specs.Outcome.{◌then◌}
use Rattle.rules.specs.Tree.{doubled_props}
use Rattle.doubled.specs.Passes.{props_at, verdict, Inside}
use Rattle.doubled.specs.Sorted.{taken, Framed}
use Rattle.doubled.proofs.props.chunks.Given as goal

abbrev pub invariant-loop-left : goal.invariant-loop-left
invariant-loop-left l =
    (l.left ≤ l.all) × (l.here ≤ length l.block.structure.now) × Inside l.block.structure.now l.found × (length l.work ≡ length l.initial.work) × Framed l.initial.work (taken l.all) l.work × ((p : ℕ) → (doubled_props [] (take l.left (props_at l.block.structure.now l.block.strings.now p l.here)) then verdict 10 p l.found) ≡ doubled_props [] (props_at l.block.structure.now l.block.strings.now p l.from))

abbrev pub decreases-loop-left : goal.decreases-loop-left
decreases-loop-left l = l.left
