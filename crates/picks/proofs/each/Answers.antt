use mathlib.Core.Path.{ap, ◌∙◌}
use native.Mathlib.Omega.{arith}
use lib.ListN.{length}
use Rattle.picks.proofs.Coding.{coded_more, coded_end, turned_length}
use Rattle.rules.specs.Laws.Lent.{block_lent}
use Rattle.picks.proofs.each.Goals as goal

pub loop-i-preserved : goal.loop-i-preserved
loop-i-preserved c = (
  omega (arith, c.loop-i-test.true),
  ap length c.pick.ensures ∙ turned_length (block_lent c.args.block.now) c.loop-i.work c.args.count c.args.excl.now c.args.ids.now c.loop-i.i ∙ c.loop-i.invariant.1,
  λ ws n k m. coded_more (block_lent c.args.block.now) ws c.args.count k c.args.excl.now c.args.ids.now n c.loop-i.work c.loop-i.i c.loop-i-test.true (c.loop-i.invariant.2 ws n k m) _ c.pick.ensures,
)

pub returns : goal.returns
returns c = λ ws n k m. coded_end (block_lent c.args.block.now) ws c.args.count k c.args.excl.now c.args.ids.now n c.loop-i.work c.loop-i.i c.loop-i.invariant.0 (omega (arith, c.loop-i-test.false)) (c.loop-i.invariant.2 ws n k m)
