-- `reg_of` meets its contract. The invariant: what `reg` of the node says is what it says from here on.
use mathlib.Core.Path.{◌≡◌}
use Prim.Native.Nat.{◌-◌, ◌≤◌}
use lib.ListN.{length}
use Rattle.rules.specs.Laws.Lent.{block_lent}
use Rattle.rules.specs.Laws.Tabled.{props_at}
use Rattle.cpus.specs.Registers.{reg_in}
use Rattle.cpus.proofs.Registers.{reg_at}
use Rattle.cpus.proofs.register.reg_of.Given as goal

abbrev pub invariant-loop-property : goal.invariant-loop-property
invariant-loop-property l =
    (l.at ≤ length l.block.structure.now) × (reg_in (props_at (block_lent l.block) l.begin) ≡ reg_at (block_lent l.block) l.at)

abbrev pub decreases-loop-property : goal.decreases-loop-property
decreases-loop-property l = length l.block.structure.now - l.at
