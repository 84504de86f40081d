-- A search over numbers in turn, as a test of those below an end.
use mathlib.Core.Path.{◌≡◌, sym, ap, ◌∙◌}
use mathlib.Core.Bool.{Bool, ◌||◌}
use Prim.Native.Nat.{ℕ, zero, suc, ◌+◌}
use native.Mathlib.Omega.{arith}
use Rattle.std.specs.List.{list_any, range_with_len}
use Rattle.rules.proofs.Laws.Tests.{or_nothing, or_assoc}

-- one number more, behind the others
pub any_more : (f : ℕ → Bool) (a n : ℕ) → list_any f (range_with_len a (suc n)) ≡ list_any f (range_with_len a n) || f (a + n)
any_more f a zero = or_nothing (f a) ∙ ap f (let e : a ≡ a + 0 = omega arith in e)
any_more f a (suc n) =
    ap (λ (b : Bool). f a || b) (any_more f (a + 1) n)
    ∙ sym (or_assoc (f a) (list_any f (range_with_len (a + 1) n)) (f (a + 1 + n)))
    ∙ ap (λ (k : ℕ). list_any f (range_with_len a (suc n)) || f k) (let e : a + 1 + n ≡ a + suc n = omega arith in e)
