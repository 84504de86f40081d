-- `begin` meets its contract: the token, then the name with its NUL and padding.
use mathlib.Core.Path.{◌≡◌, sym}
use Prim.Native.Nat.{◌+◌, ◌-◌, ◌%◌}
use native.Mathlib.Omega.{arith}
use lib.ListN.{length}
use Rattle.rules.specs.Octets.{be32, padded}
use Rattle.rules.specs.Writer.{begin_bytes}
use Rattle.rules.proofs.Laws.Octets.{lay_past, length_be32}
use Rattle.rules.proofs.Laws.Writer.{laid_on, filled_closed}
use Rattle.append.proofs.begin.Goals as goal

pub returns-then-data-at : goal.returns-then-data-at
returns-then-data-at c = sym (lay_past c.args.«data».now c.args.at (begin_bytes c.args.name.now) c.if-data-at.true)

pub returns : goal.returns
unfolding begin_bytes
returns c =
    let s = c.args.name.now in
    let z : 4 - length s % 4 ≡ padded (length s + 1) - length s = omega arith in
    rw (filled_closed s, ← z)
    (laid_on c.args.«data».now c.args.at (be32 1) _ c.put_word.ensures (omega (arith, length_be32 1)) c.filled.ensures)
