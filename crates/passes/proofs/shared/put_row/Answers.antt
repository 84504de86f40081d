-- `put_row` meets its contract.
use borrow.Author.Tests.{le-ltb, lt-ltb}
use Rattle.rules.specs.Ceilings.{node_words}
use Rattle.passes.specs.Rows.{row_given}
use Rattle.passes.proofs.shared.put_row.Goals as goal

pub returns-then-work-i : goal.returns-then-work-i
unfolding row_given node_words
returns-then-work-i c = simp (le-ltb _ _ c.if-work-i.true)

pub returns : goal.returns
unfolding row_given node_words
returns c = simp (lt-ltb _ _ c.if-work-i.false)
