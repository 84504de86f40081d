-- `property_string` meets its contract: three words, then the string with its NUL and padding.
use mathlib.Core.Path.{◌≡◌, sym}
use Prim.Native.Nat.{◌+◌, ◌-◌, ◌%◌}
use native.Mathlib.Omega.{arith}
use lib.ListN.{length}
use Rattle.rules.specs.Octets.{closed, padded}
use Rattle.rules.specs.Writer.{property_bytes}
use Rattle.rules.proofs.Laws.Octets.{lay_past}
use Rattle.rules.proofs.Laws.Writer.{laid_on, head_bytes, length_head, property_bytes_lem, length_closed, filled_closed}
use Rattle.append.proofs.property_string.Goals as goal

pub returns-then-data-at : goal.returns-then-data-at
returns-then-data-at c = sym (lay_past c.args.«data».now c.args.at (property_bytes c.args.nameoff (closed c.args.value.now)) c.if-data-at.true)

pub returns : goal.returns
returns c =
    let v = c.args.value.now in
    let z : 4 - length v % 4 ≡ padded (length v + 1) - length v = omega arith in
    rw (property_bytes_lem c.args.nameoff (closed v), length_closed v, filled_closed v, ← z)
    (laid_on c.args.«data».now c.args.at (head_bytes (length v + 1) c.args.nameoff) _ c.property_head.ensures (omega (arith, length_head (length v + 1) c.args.nameoff)) c.filled.ensures)
