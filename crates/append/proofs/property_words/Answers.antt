-- `property_words` meets its contract: three words, then the numbers, which need no padding.
use mathlib.Core.Path.{◌≡◌, sym, ap, ◌∙◌}
use Prim.Native.Nat.{ℕ, ◌*◌, ◌/◌}
use native.Mathlib.Nat.{mul_assoc}
use native.Mathlib.Omega.{arith}
use lib.ListN.{length}
use Rattle.rules.specs.Writer.{property_bytes}
use Rattle.rules.proofs.Laws.Octets.{lay_past}
use Rattle.rules.proofs.Laws.Writer.{laid_on, head_bytes, length_head, property_bytes_lem, filled_whole}
use Rattle.append.proofs.property_words.Goals as goal

pub returns-then-data-at : goal.returns-then-data-at
returns-then-data-at g c = sym (lay_past c.args.«data».now c.args.at (property_bytes c.args.nameoff (g.T.Word.bytes c.args.words.now)) c.if-data-at.true)

pub returns : goal.returns
returns g c =
    let ws = c.args.words.now in
    let bs = g.T.Word.bytes ws in
    let size = g.T.Word.SIZE in
    let whole : size ≡ size / 4 * 4 = omega (arith, g.met.T.Word.whole) in
    let long = g.met.T.Word.wide ws in
    let quads = long ∙ ap (λ (k : ℕ). length ws * k) whole ∙ sym (mul_assoc (length ws) (size / 4) 4) in
    rw (property_bytes_lem c.args.nameoff bs, filled_whole bs (length ws * (size / 4)) quads, long)
    (laid_on c.args.«data».now c.args.at (head_bytes (length ws * size) c.args.nameoff) _ (rw c.size_of.ensures.bytes at c.property_head.ensures) (omega (arith, length_head (length ws * size) c.args.nameoff)) c.words.ensures)
