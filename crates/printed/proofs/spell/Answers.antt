use native.Mathlib.Omega.{arith}
use Rattle.printed.proofs.Spelling.{spelling_none, spelling_more, spelling_last}
use Rattle.printed.proofs.spell.Goals as goal

pub loop-rest-init : goal.loop-rest-init
loop-rest-init c = spelling_none c.args.n c.args.text.now (omega arith) (omega arith)

pub loop-rest-preserved : goal.loop-rest-preserved
loop-rest-preserved c = rw c.digit.ensures (spelling_more c.loop-rest.invariant c.loop-rest-test.true)

pub returns : goal.returns
returns c = (c.loop-rest.invariant.inside, rw c.digit-2.ensures (spelling_last c.loop-rest.invariant c.loop-rest-test.false))
