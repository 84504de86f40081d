-- `begin_at` meets its contract: the name ends inside, so that no sum wraps.
use native.Mathlib.Omega.{arith}
use lib.ListN.{drop, length-drop}
use borrow.Author.Tests.{le-leb, lt-leb}
use Rattle.rules.specs.Tokens.{begin_at}
use Rattle.rules.proofs.Laws.Octets.{nul_le}
use Rattle.tokens.proofs.begin_at.Goals as goal

pub overflow_add-next : goal.overflow_add-next
overflow_add-next c = omega (arith, c.nul-len.ensures, nul_le (drop c.args.b c.args.structure.now), length-drop c.args.b c.args.structure.now)

pub overflow_add-next-2 : goal.overflow_add-next-2
overflow_add-next-2 c = omega (arith, c.nul-len.ensures, nul_le (drop c.args.b c.args.structure.now), length-drop c.args.b c.args.structure.now)

pub overflow_mul-next : goal.overflow_mul-next
overflow_mul-next c = omega (arith, c.nul-len.ensures, nul_le (drop c.args.b c.args.structure.now), length-drop c.args.b c.args.structure.now)

pub overflow_add-next-3 : goal.overflow_add-next-3
overflow_add-next-3 c = omega (arith, c.nul-len.ensures, nul_le (drop c.args.b c.args.structure.now), length-drop c.args.b c.args.structure.now)

pub returns-then-next-structure : goal.returns-then-next-structure
unfolding begin_at
returns-then-next-structure c = simp (← c.nul-len.ensures, le-leb _ _ c.if-next-structure.true)

pub returns-else-next-structure : goal.returns-else-next-structure
unfolding begin_at
returns-else-next-structure c = simp (← c.nul-len.ensures, lt-leb _ _ c.if-next-structure.false)
