-- `paths_in` meets its contract. The invariant: what the lines so far add is laid, and what the others add is the rest of the list.
use Rattle.rules.specs.Program.{lines_of}
use Rattle.rules.proofs.Laws.Program.{Laying}
use Rattle.request.specs.Answers.{list_in}
use Rattle.request.specs.Lines.{lines_left}
use Rattle.request.proofs.paths_in.Given as goal

abbrev pub invariant-loop-text : goal.invariant-loop-text
invariant-loop-text l =
    Laying (list_in l.list (lines_of l.input)) l.initial.out l.out l.laid (list_in l.list (lines_left l.text-iterator))
