-- `has_path` meets its contract. The invariant: what is left of the node's path is what is left of p exactly if the whole is p.
use mathlib.Core.Path.{◌≡◌}
use Prim.Native.Nat.{◌-◌}
use Rattle.rules.specs.Octets.{same}
use Rattle.rules.specs.Tree.{path, spell}
use Rattle.rules.specs.Laws.Lent.{tree_lent}
use Rattle.paths.proofs.lookup.has_path.Given as goal

abbrev pub invariant-loop : goal.invariant-loop
invariant-loop l = same (path (tree_lent l.tree) l.i) l.p ≡ same (spell (tree_lent l.tree) (l.i - l.counter) l.at) l.rest
