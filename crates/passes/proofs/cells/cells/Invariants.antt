-- `cells` meets its contract. The invariant: from here on, with what is known of the node, the walk judges as the definition does.
use mathlib.Core.Path.{◌≡◌}
use Prim.Native.Nat.{ℕ, ◌-◌, ◌≤◌}
use lib.ListN.{length}
use Rattle.rules.specs.Tree.{words_judged}
use Rattle.rules.specs.Laws.Events.{events_at}
use Rattle.doubled.specs.Passes.{nodes_in}
use Rattle.passes.proofs.Watched.{words_rest}
use Rattle.rules.specs.Blob.{block_of}
use Rattle.passes.proofs.cells.cells.Given as goal

abbrev pub invariant-loop-kind : goal.invariant-loop-kind
invariant-loop-kind l =
    (l.at ≤ length l.block.structure.now) × ((p : ℕ) → words_rest l.seen (events_at (block_of p l.block.structure.now l.block.strings.now) l.at) ≡ words_judged (nodes_in l.block.structure.now l.block.strings.now p))

abbrev pub decreases-loop-kind : goal.decreases-loop-kind
decreases-loop-kind l = length l.block.structure.now - l.at
