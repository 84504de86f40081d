-- `in_line` meets its contract.
use mathlib.Core.Path.{sym}
use Rattle.printed.specs.Text.{in_line_nul, in_line_other}
use Rattle.printed.proofs.in_line.Goals as goal

pub returns-then-b-eq0 : goal.returns-then-b-eq0
returns-then-b-eq0 c = sym (in_line_nul c.args.b c.if-b-eq0.true)

pub returns-else-b-eq0 : goal.returns-else-b-eq0
returns-else-b-eq0 c = sym (in_line_other c.args.b c.if-b-eq0.false)
