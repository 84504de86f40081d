-- `prop_at` meets its contract.
use borrow.Author.Tests.{le-leb, lt-leb}
use Rattle.rules.specs.Tokens.{prop_at}
use Rattle.tokens.proofs.prop_at.Goals as goal

pub returns-then-structure-value : goal.returns-then-structure-value
unfolding prop_at
returns-then-structure-value c = simp (lt-leb _ _ c.if-structure-value.true)

pub returns-then-next-structure : goal.returns-then-next-structure
unfolding prop_at
returns-then-next-structure c = simp (← c.word-len.ensures, ← c.word-name.ensures, le-leb _ _ c.if-structure-value.false, le-leb _ _ c.if-next-structure.true)

pub returns-else-next-structure : goal.returns-else-next-structure
unfolding prop_at
returns-else-next-structure c = simp (← c.word-len.ensures, ← c.word-name.ensures, le-leb _ _ c.if-structure-value.false, lt-leb _ _ c.if-next-structure.false)
