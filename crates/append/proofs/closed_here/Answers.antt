-- `closed_here` meets its contract.
use mathlib.Core.Path.{◌≡◌, sym, ◌∙◌}
use mathlib.Core.Bool.{true, false}
use native.Mathlib.Omega.{arith}
use Rattle.rules.specs.Octets.{begins, closed}
use Rattle.rules.proofs.Laws.Octets.{begins_short}
use Rattle.rules.proofs.Laws.Writer.{begins_closed, length_closed}
use Rattle.octets.proofs.Slices.{begins_taken}
use Rattle.append.proofs.closed_here.Goals as goal

pub returns-then-s-n : goal.returns-then-s-n
returns-then-s-n c = sym (begins_short (closed c.args.name.now) c.args.s.now (omega (arith, length_closed c.args.name.now)))

pub returns-then-same_short : goal.returns-then-same_short
returns-then-same_short c =
    let e : begins c.args.name.now c.args.s.now ≡ true = sym (begins_taken c.args.name.now c.args.s.now) ∙ sym c.if-same_short.ensures in
    sym (begins_closed c.args.name.now c.args.s.now c.if-s-n.false ∙ rw e)

pub returns-else-same_short : goal.returns-else-same_short
returns-else-same_short c =
    let e : begins c.args.name.now c.args.s.now ≡ false = sym (begins_taken c.args.name.now c.args.s.now) ∙ sym c.if-same_short.ensures in
    c.if-same_short.false ∙ sym (begins_closed c.args.name.now c.args.s.now c.if-s-n.false ∙ rw e)
