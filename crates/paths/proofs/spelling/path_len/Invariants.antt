-- `path_len` meets its contract. The invariant: what has been counted, with what is left of the path, is the whole.
use mathlib.Core.Path.{◌≡◌}
use Prim.Native.Nat.{◌+◌, ◌-◌, ◌*◌, ◌≤◌}
use lib.ListN.{length}
use Rattle.rules.specs.Tree.{path, spell}
use Rattle.rules.specs.Laws.Lent.{tree_lent}
use Rattle.paths.proofs.spelling.path_len.Given as goal

abbrev pub invariant-loop : goal.invariant-loop
invariant-loop l =
    (l.len ≤ l.counter * 1048577) × (l.len + length (spell (tree_lent l.tree) (l.i - l.counter) l.at) ≡ length (path (tree_lent l.tree) l.i))
