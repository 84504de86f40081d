-- `shared` meets its contract. The invariant: from here on, the walk judges and writes as the definition does.
use mathlib.Core.Path.{◌≡◌}
use Prim.Native.Nat.{ℕ, ◌-◌, ◌≤◌}
use lib.ListN.{length}
use Rattle.rules.specs.Blob.{block_of}
use Rattle.rules.specs.Laws.Events.{events_at}
use Rattle.doubled.specs.Passes.{nodes_in}
use Rattle.passes.specs.Rows.{rows_from}
use Rattle.passes.proofs.Phandles.{rows_rest}
use Rattle.passes.proofs.shared.shared.Given as goal

abbrev pub invariant-loop-kind : goal.invariant-loop-kind
invariant-loop-kind l =
    (l.at ≤ length l.block.structure.now) × (l.search.number ≤ l.at) × (length l.work ≡ length l.initial.work) × ((p : ℕ) → rows_rest l.search.wants l.search.number l.work (events_at (block_of p l.block.structure.now l.block.strings.now) l.at) ≡ rows_from l.initial.work 0 (nodes_in l.block.structure.now l.block.strings.now p))

abbrev pub decreases-loop-kind : goal.decreases-loop-kind
decreases-loop-kind l = length l.block.structure.now - l.at
