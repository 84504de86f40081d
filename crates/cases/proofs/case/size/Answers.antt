-- `size` meets its contract.
use mathlib.Core.Path.{ap, ◌∙◌}
use native.Mathlib.Omega.{arith}
use Rattle.cases.specs.Case.{id_bytes, size_of}
use borrow.Author.Tests.{eq-eqb, ne_eqb, lt-ltb, le-ltb}
use Rattle.cases.proofs.case.size.Goals as goal
use Rattle.cases.proofs.case.size.Goals.{in_default-via-then-k-lt6, in_default-via-else-k-lt6+else-k-lt10}

pub returns-in-6 : goal.returns-in-6
unfolding size_of
returns-in-6 c = rw (eq-eqb _ _ c.in-6.is) (c.id_bytes.ensures ∙ ap id_bytes c.number.ensures)

pub returns-in-7 : goal.returns-in-7
unfolding size_of
returns-in-7 c = rw (ne_eqb c.args.k 6 (λ e. omega arith), le-ltb c.args.k 6 (omega arith), lt-ltb c.args.k 10 (omega arith))

pub returns-in_default : goal.returns-in_default
unfolding size_of
returns-in_default c = elim c.in_default.branch [
  | in_default-via-then-k-lt6 w ↦ rw (ne_eqb c.args.k 6 (λ e. omega arith), lt-ltb c.args.k 6 (omega arith)) c.number-in_default.ensures
  | in_default-via-else-k-lt6+else-k-lt10 w ↦ rw (ne_eqb c.args.k 6 (λ e. omega arith), le-ltb c.args.k 6 (omega arith), le-ltb c.args.k 10 (omega arith)) c.number-in_default.ensures
]
