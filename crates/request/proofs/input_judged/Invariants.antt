-- `input_judged` meets its contract. The invariant: the rest of the lines, judged from here, is the whole input judged.
use mathlib.Core.Path.{◌≡◌}
use Rattle.rules.specs.Program.{input_judged, lines_judged}
use Rattle.request.specs.Lines.{lines_left}
use Rattle.request.proofs.input_judged.Given as goal

abbrev pub invariant-loop-offset : goal.invariant-loop-offset
invariant-loop-offset l = input_judged l.input ≡ lines_judged (lines_left l.offset-iterator)
