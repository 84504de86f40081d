-- `spell` meets its contract. The invariant: from `end` on the rest of the path stands in the buffer.
use Prim.Native.Nat.{◌-◌}
use Rattle.rules.specs.Laws.Lent.{tree_lent}
use Rattle.paths.proofs.Spellings.{Laid}
use Rattle.paths.proofs.spelling.spell.Given as goal

abbrev pub invariant-loop : goal.invariant-loop
invariant-loop l = Laid (tree_lent l.tree) l.i (l.i - l.counter) l.node l.end l.at l.initial.out l.out
