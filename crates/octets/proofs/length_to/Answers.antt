use Rattle.std.proofs.Common.{ap, arith}
use Rattle.rules.specs.Octets.{length_to}
use Rattle.rules.proofs.Laws.Octets.{to_here, to_more, to_end}
use Rattle.octets.proofs.length_to.Goals as goal

pub returns-then-b-value : goal.returns-then-b-value
returns-then-b-value c = let left = c.rest-left.result.now in omega (arith, to_here c.args.value left c.loop-i.i (omega arith) c.if-b-value.true, ap (length_to c.args.value) c.rest-left.ensures)

pub loop-i-preserved : goal.loop-i-preserved
loop-i-preserved c = omega (arith, to_more c.args.value c.rest-left.result.now c.loop-i.i (omega arith) c.if-b-value.false)

pub returns : goal.returns
returns c = omega (arith, to_end c.args.value c.rest-left.result.now c.loop-i.i (omega arith), ap (length_to c.args.value) c.rest-left.ensures)
