-- `has_nul` meets its contract.
use mathlib.Core.Path.{◌≡◌, sym, ◌∙◌}
use mathlib.Core.List.{[], ◌∷◌}
use Prim.Native.Nat.{ℕ, suc}
use native.Mathlib.Omega.{arith}
use lib.Dec.{eqb}
use lib.ListN.{length}
use borrow.Author.Tests.{lt-ltb, le-ltb}
use Rattle.std.specs.List.{list_any}
use Rattle.rules.specs.Octets.{Bytes, has_nul, nul_in}
use Rattle.rules.proofs.Laws.Tests.{by_test, ltb_cong}
use Rattle.rules.proofs.Laws.Octets.{nul_stop, nul_on}
use Rattle.judge.proofs.has_nul.Goals as goal

any_is_nul : (s : Bytes) → list_any (λ (y : ℕ). eqb y 0) s ≡ has_nul s
any_is_nul [] = sym (le-ltb _ 0 (omega arith))
any_is_nul (b ∷ s) =
    by_test (eqb b 0)
    (λ e. rw (nul_stop b s e, e) (sym (lt-ltb 0 (length (b ∷ s)) (omega arith))))
    (λ e. rw (nul_on b s e, e) (any_is_nul s ∙ ltb_cong (nul_in s) (length s) (suc (nul_in s)) (suc (length s)) (λ h. omega arith) (λ h. omega arith)))

pub returns : goal.returns
returns c = c.contains.ensures.value ∙ any_is_nul c.args.s.now
