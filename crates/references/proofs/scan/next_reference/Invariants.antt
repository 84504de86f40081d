-- `next_reference` meets its contract. The invariant: the references from i on are those from the present word on.
use mathlib.Core.Path.{◌≡◌}
use Rattle.rules.specs.Laws.Lent.{block_lent}
use Rattle.references.specs.Rows.{meaning}
use Rattle.references.specs.Scan.{scan_in}
use Rattle.references.proofs.scan.next_reference.Given as goal

abbrev pub invariant-loop-at : goal.invariant-loop-at
invariant-loop-at l =
    scan_in (block_lent l.tree.block) l.tree.work.now l.tree.count (meaning l.cells) l.value l.i
    ≡ scan_in (block_lent l.tree.block) l.tree.work.now l.tree.count (meaning l.cells) l.value l.at
