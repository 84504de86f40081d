use mathlib.Core.Path.{◌≡◌, sym, ap, ◌∙◌}
use Prim.Native.Nat.{ℕ, ◌+◌, ◌-◌, ◌*◌, ◌≤◌, ◌<◌}
use Rattle.std.proofs.Common.{arith, rules, ◌⊎◌, inl, inr}
use lib.ListN.{drop}
use Rattle.rules.specs.Octets.{byte_at}
use Rattle.rules.proofs.Laws.Program.{decimal_none, decimal_some, decimal_from, decimal_more, decimal_low, decimal_high, decimal_big, decimal_done}
use Rattle.request.proofs.decimal.Goals as goal

pub returns-then-is_empty : goal.returns-then-is_empty
returns-then-is_empty c = sym (decimal_none c.args.digits.now (search rules))

pub loop-b-init : goal.loop-b-init
loop-b-init c = (omega arith, decimal_some c.args.digits.now (search rules))

pub returns-then-not-is_ascii_digit : goal.returns-then-not-is_ascii_digit
returns-then-not-is_ascii_digit c =
    let i = c.loop-b.b-index in
    let b = byte_at c.args.digits.now i in
    let o : (b < 48) ⊎ (57 < b) = c.if-not-is_ascii_digit.ensures.cases in
    elim o [
      | inl p ↦ sym (c.loop-b.invariant.1 ∙ decimal_low c.args.digits.now i c.loop-b.n c.loop-b-test.true p)
      | inr p ↦ sym (c.loop-b.invariant.1 ∙ decimal_high c.args.digits.now i c.loop-b.n c.loop-b-test.true p)
    ]

pub returns-in_err-checked_mul : goal.returns-in_err-checked_mul
returns-in_err-checked_mul c =
    let d : (48 ≤ byte_at c.args.digits.now c.loop-b.b-index) × (byte_at c.args.digits.now c.loop-b.b-index ≤ 57) = c.if-not-is_ascii_digit.ensures.cases in
    rw c.from_residual.ensures
    (sym (c.loop-b.invariant.1 ∙ decimal_more c.args.digits.now c.loop-b.b-index c.loop-b.n c.loop-b-test.true d.0 d.1 ∙ decimal_big _ _ (omega (arith, c.in_err-checked_mul.ensures))))

pub returns-in_err-n : goal.returns-in_err-n
returns-in_err-n c =
    let d : (48 ≤ byte_at c.args.digits.now c.loop-b.b-index) × (byte_at c.args.digits.now c.loop-b.b-index ≤ 57) = c.if-not-is_ascii_digit.ensures.cases in
    rw c.from_residual-in_err-n.ensures
    (sym (c.loop-b.invariant.1 ∙ decimal_more c.args.digits.now c.loop-b.b-index c.loop-b.n c.loop-b-test.true d.0 d.1 ∙ decimal_big _ _ (omega (arith, c.in_err-n.ensures, c.from.ensures, c.in_ok-checked_mul.ensures))))

pub loop-b-preserved : goal.loop-b-preserved
loop-b-preserved c =
    let s = c.args.digits.now in
    let i = c.loop-b.b-index in
    let d : (48 ≤ byte_at s i) × (byte_at s i ≤ 57) = c.if-not-is_ascii_digit.ensures.cases in
    let e : c.loop-b.n * 10 + (byte_at s i - 48) ≡ c.in_ok-n.n = omega (arith, c.in_ok-n.ensures, c.from.ensures, c.in_ok-checked_mul.ensures) in
    (omega (arith, c.in_ok-n.ensures), c.loop-b.invariant.1 ∙ decimal_more s i c.loop-b.n c.loop-b-test.true d.0 d.1 ∙ ap (λ (n : ℕ). decimal_from n (drop (i + 1) s)) e)

pub returns : goal.returns
returns c = sym (c.loop-b.invariant.1 ∙ decimal_done c.args.digits.now c.loop-b.b-index c.loop-b.n (omega arith) c.loop-b.invariant.0)
