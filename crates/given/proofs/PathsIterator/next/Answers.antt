-- `next` keeps the trait's promise: a path is the first of those that are left, and the others are left then.
use mathlib.Core.Path.{◌≡◌, sym, ap, ◌∙◌}
use mathlib.Core.List.{[], ◌∷◌}
use lib.ListN.{length}
use Rattle.std.proofs.Common.{arith, rules}
use Rattle.std.specs.Prelude.{Some, None}
use Rattle.rules.specs.Octets.{Bytes}
use Rattle.given.specs.Entries.{answer_tells, paths_left}
use Rattle.given.proofs.PathsIterator.next.Goals as goal

pub returns-in_err-entry-clause-steps : goal.returns-in_err-entry-clause-steps
returns-in_err-entry-clause-steps c =
    let w = c.args.self.now in
    let e : paths_left w ≡ [] = answer_tells w.list.now w.at c.entry_at.result None c.entry_at.ensures c.in_err-entry.was in
    rw c.from_residual.ensures (e, e)

pub returns-clause-steps : goal.returns-clause-steps
returns-clause-steps c =
    let w = c.args.self.now in
    let entry = c.in_ok-entry.entry in
    (answer_tells w.list.now w.at c.entry_at.result (Some entry) c.entry_at.ensures c.in_ok-entry.was).2
    ∙ ap (λ (path : Bytes). record { offset = w.at; path = path; is_closed = entry.closed } ∷ paths_left (record { list = w.list; at = entry.next })) (sym c.part.ensures)

pub returns-clause-goes : goal.returns-clause-goes
returns-clause-goes c =
    let w = c.args.self.now in
    let e = (answer_tells w.list.now w.at c.entry_at.result (Some c.in_ok-entry.entry) c.entry_at.ensures c.in_ok-entry.was).2 in
    record { on = λ _. (search rules, search rules, omega (arith, ap length e)); keeps = search rules; rests = search rules }
