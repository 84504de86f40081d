use Rattle.std.proofs.Common.{◌∙◌, arith}
use Rattle.printed.specs.Text.{length_lines}
use Rattle.printed.proofs.Laying.{line_more, lines_done}
use Rattle.printed.proofs.put_lines.Goals as goal

pub loop-p-preserved : goal.loop-p-preserved
loop-p-preserved c = (omega arith, rw (c.loop-p.invariant.1, c.in_line.ensures) (line_more c.args.out.now c.args.at c.args.list.now c.loop-p.p (omega arith) (omega arith)))

pub returns : goal.returns
returns c = record {
  left = c.loop-p.invariant.1 ∙ lines_done c.args.out.now c.args.at c.args.list.now c.loop-p.p (omega arith);
  after = omega (arith, length_lines c.args.list.now);
}
