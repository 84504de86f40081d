-- `spell` meets its contract. The invariant: what stands behind the place are the last digits, and the rest is still to come.
use Rattle.printed.proofs.Spelling.{Spelling}
use Rattle.printed.proofs.spell.Given as goal

abbrev pub invariant-loop-rest : goal.invariant-loop-rest
invariant-loop-rest l = Spelling l.n l.rest l.text l.first

abbrev pub decreases-loop-rest : goal.decreases-loop-rest
decreases-loop-rest l = l.first
