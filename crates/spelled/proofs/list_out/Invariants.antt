-- `list_out` meets its contract. The invariant: the paths of the nodes so far are laid.
use mathlib.Core.Path.{◌≡◌}
use Prim.Native.Nat.{◌+◌, ◌*◌, ◌≤◌}
use lib.ListN.{length}
use Rattle.rules.specs.Octets.{lay}
use Rattle.rules.proofs.Laws.Kept.{longest}
use Rattle.rules.specs.Laws.Lent.{tree_lent}
use Rattle.spelled.proofs.Spelt.{first_paths}
use Rattle.spelled.proofs.list_out.Given as goal

abbrev pub invariant-loop-i : goal.invariant-loop-i
invariant-loop-i l =
    (l.at ≤ l.i-index * (longest + 1))
    × (l.at ≡ length (first_paths (tree_lent l.tree) l.i-items l.i-index))
    × (l.out ≡ lay l.initial.out 0 (first_paths (tree_lent l.tree) l.i-items l.i-index))
