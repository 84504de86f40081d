-- `line_at` meets its contract.
use Prim.Native.Nat.{◌-◌, ◌≤◌, ◌<◌}
use native.Mathlib.Omega.{arith}
use lib.ListN.{length}
use borrow.Author.Tests.{lt-ltb, le-ltb}
use Rattle.rules.proofs.Laws.Program.{lines_inside}
use Rattle.request.specs.Lines.{text_of, line_at}
use Rattle.request.proofs.line_at.Goals as goal

pub returns-then-input-at : goal.returns-then-input-at
unfolding line_at
returns-then-input-at c = simp (le-ltb _ _ c.if-input-at.true)

pub overflow_add-end : goal.overflow_add-end
overflow_add-end c = omega (arith, c.length_to-len.ensures, lines_inside c.args.input.now c.args.at c.if-input-at.false)

pub returns-then-end-input : goal.returns-then-end-input
unfolding line_at text_of
returns-then-end-input c =
    let h : c.length_to-len.result < length c.args.input.now - c.args.at = omega arith in
    simp (lt-ltb _ _ c.if-input-at.false, ← c.length_to-len.ensures, lt-ltb _ _ h)

pub returns-else-end-input : goal.returns-else-end-input
unfolding line_at text_of
returns-else-end-input c =
    let h : length c.args.input.now - c.args.at ≤ c.length_to-len.result = omega arith in
    simp (lt-ltb _ _ c.if-input-at.false, ← c.length_to-len.ensures, le-ltb _ _ h)
