-- `given` meets its contract: the length, then the phandle that is known.
use borrow.Author.Tests.{eq-eqb, ne_eqb}
use Rattle.passes.specs.Cells.{on_given}
use Rattle.passes.proofs.Watched.{unknown, other, again}
use borrow.Enum.Refused.{opened}
use Rattle.passes.proofs.cells.given.Goals as goal

pub returns-then-value-ne4 : goal.returns-then-value-ne4
unfolding on_given
returns-then-value-ne4 c = simp (ne_eqb _ _ c.if-value-ne4.true)

pub returns-in-Given : goal.returns-in-Given
unfolding on_given
returns-in-Given c = simp (eq-eqb _ _ c.if-value-ne4.false, ← c.word-v.ensures, other c.args.seen c.in-Given.known c.word-v.result c.in-Given.is c.if-known-v.true)

pub returns-in_default : goal.returns-in_default
unfolding on_given
returns-in_default c = simp (eq-eqb _ _ c.if-value-ne4.false, ← c.word-v.ensures, again c.args.seen c.in-Given.known c.word-v.result c.in-Given.is c.if-known-v.false)

pub returns-in_default-2 : goal.returns-in_default-2
unfolding on_given
returns-in_default-2 c = simp (eq-eqb _ _ c.if-value-ne4.false, ← c.word-v.ensures, unknown c.args.seen c.word-v.result (opened c.in_default.in_default-own.keys2))
