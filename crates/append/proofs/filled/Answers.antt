-- `filled` meets its contract: where the bytes reach the end, the zeros make no difference.
use mathlib.Core.Path.{refl, ◌∙◌}
use native.Mathlib.Omega.{arith}
use Rattle.rules.specs.Octets.{zeros}
use Rattle.rules.proofs.Laws.Octets.{lay_more}
use Rattle.rules.proofs.Laws.Writer.{laid_on}
use Rattle.append.proofs.filled.Goals as goal

pub returns-then-bytes-saturating_sub : goal.returns-then-bytes-saturating_sub
returns-then-bytes-saturating_sub c = laid_on c.args.«data».now c.args.at c.args.bytes.now (zeros c.args.n) c.put.ensures refl c.put_zeros.ensures

pub returns-else-bytes-saturating_sub : goal.returns-else-bytes-saturating_sub
returns-else-bytes-saturating_sub c =
    let d = c.args.«data».now in
    let bs = c.args.bytes.now in
    c.put.ensures ∙ lay_more d c.args.at bs (zeros c.args.n) (omega (arith, c.if-bytes-saturating_sub.false, c.put.auto.d, c.saturating_sub.ensures))
