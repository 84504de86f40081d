-- `Lines::of` meets its contract.
use mathlib.Core.Path.{sym}
use Rattle.rules.proofs.Laws.Program.{lines_all}
use Rattle.request.proofs.Lines.of.Goals as goal

pub returns : goal.returns
returns c = sym (lines_all c.args.input.now)
