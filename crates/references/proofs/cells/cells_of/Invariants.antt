-- `cells_of` meets its contract. The invariant: what is asked for of the node is what is asked for from here on.
use mathlib.Core.Path.{◌≡◌}
use Prim.Native.Nat.{◌-◌, ◌≤◌}
use lib.ListN.{length}
use Rattle.rules.specs.Laws.Lent.{block_lent}
use Rattle.rules.specs.Laws.Tabled.{props_at, count_named}
use Rattle.references.specs.Rows.{meaning}
use Rattle.references.proofs.Counts.{count_at}
use Rattle.references.proofs.cells.cells_of.Given as goal

abbrev pub invariant-loop-property : goal.invariant-loop-property
invariant-loop-property l =
    (l.at ≤ length l.block.structure.now)
    × (count_named (meaning l.cells) (props_at (block_lent l.block) l.begin) ≡ count_at (block_lent l.block) (meaning l.cells) l.at)

abbrev pub decreases-loop-property : goal.decreases-loop-property
decreases-loop-property l = length l.block.structure.now - l.at
