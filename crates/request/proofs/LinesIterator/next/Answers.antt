-- `next` keeps the trait's promise: a line is the first of those that are left, and the others are left then.
use mathlib.Core.Path.{◌≡◌, sym, ap, ◌∙◌}
use mathlib.Core.List.{[], ◌∷◌}
use Rattle.std.proofs.Common.{arith, rules}
use lib.ListN.{length}
use Rattle.std.specs.Prelude.{Some, None}
use Rattle.rules.specs.Octets.{Bytes}
use Rattle.request.specs.Lines.{answer_tells, lines_left}
use Rattle.request.proofs.LinesIterator.next.Goals as goal

pub returns-in_err-line-clause-steps : goal.returns-in_err-line-clause-steps
returns-in_err-line-clause-steps c =
    let w = c.args.self.now in
    let e : lines_left w ≡ [] = answer_tells w.input.now w.at c.line_at.result None c.line_at.ensures (c.in_err-line.was) in
    rw c.from_residual.ensures (e, e)

pub returns-clause-steps : goal.returns-clause-steps
returns-clause-steps c =
    let w = c.args.self.now in
    (answer_tells w.input.now w.at c.line_at.result (Some c.in_ok-line.line) c.line_at.ensures (c.in_ok-line.was)).3
    ∙ ap (λ (text : Bytes). record { offset = w.at; text = text } ∷ lines_left (record { input = w.input; at = c.in_ok-line.line.next })) (sym c.part.ensures)

pub returns-clause-goes : goal.returns-clause-goes
returns-clause-goes c =
    let w = c.args.self.now in
    let e = (answer_tells w.input.now w.at c.line_at.result (Some c.in_ok-line.line) c.line_at.ensures (c.in_ok-line.was)).3 in
    record { on = λ _. (search rules, search rules, omega (arith, ap length e)); keeps = search rules; rests = search rules }
