-- `names_cpu` meets its contract: one test after the other.
use Rattle.rules.specs.Octets.{ascii}
use Rattle.cpus.proofs.children.names_cpu.Goals as goal

pub returns-then-same : goal.returns-then-same
unfolding ascii
returns-then-same c = simp (← c.same.ensures, c.if-same.true)

pub returns-else-same : goal.returns-else-same
unfolding ascii
returns-else-same c = simp (← c.same.ensures, c.if-same.false, c.begins.ensures)
