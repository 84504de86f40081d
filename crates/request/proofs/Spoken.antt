-- What a line says, by its first two bytes.
use mathlib.Core.Path.{◌≡◌, refl, sym}
use mathlib.Core.Bool.{true, false}
use mathlib.Core.List.{[], ◌∷◌}
use Prim.Native.Nat.{ℕ, ◌≤◌, ◌<◌}
use native.Mathlib.Omega.{arith}
use lib.Dec.{eqb}
use lib.ListN.{length, drop}
use borrow.Author.Tests.{eq-eqb, ne_eqb, eqb-true}
use Rattle.rules.specs.Octets.{Bytes, byte_at, has_nul, ascii, begins}
use Rattle.rules.specs.Program.{configures, excludes, other, decimal_said, line_said}
use Rattle.rules.proofs.Laws.Tests.{by_test}

-- a letter and a space in front
two : (a : ℕ) (text : Bytes) → 2 ≤ length text → byte_at text 0 ≡ a → byte_at text 1 ≡ 32 → begins (a ∷ 32 ∷ []) text ≡ true
unfolding begins
two a [] h p q = absurd (let z : ⊥ = omega arith in z)
two a (x ∷ []) h p q = absurd (let z : ⊥ = omega arith in z)
two a (x ∷ y ∷ r) h p q = rw (eq-eqb a x (sym p), eq-eqb 32 y (sym q))

not_two : (a : ℕ) (text : Bytes) → (byte_at text 0 ≡ a → byte_at text 1 ≡ 32 → ⊥) → begins (a ∷ 32 ∷ []) text ≡ false
unfolding begins
not_two a [] f = refl
not_two a (x ∷ []) f = by_test (eqb a x) (λ e. rw e) (λ e. rw e)
not_two a (x ∷ y ∷ r) f = by_test (eqb a x) (λ e. rw (e, ne_eqb 32 y (λ z. f (sym (eqb-true a x e)) (sym z)))) (λ e. rw e)

short : (a : ℕ) (text : Bytes) → length text < 2 → begins (a ∷ 32 ∷ []) text ≡ false
unfolding begins
short a [] h = refl
short a (x ∷ []) h = by_test (eqb a x) (λ e. rw e) (λ e. rw e)
short a (x ∷ y ∷ r) h = absurd (let z : ⊥ = omega arith in z)

pub says_nul : (text : Bytes) → has_nul text ≡ true → other ≡ line_said text
unfolding line_said
says_nul text n = rw n

module _ (text : Bytes) (n : has_nul text ≡ false) where
  pub says_short : length text < 2 → other ≡ line_said text
  unfolding line_said ascii
  says_short h = rw (n, short 99 text h, short 120 text h, short 105 text h)

  pub says_other : (byte_at text 0 ≡ 99 → byte_at text 1 ≡ 32 → ⊥) → (byte_at text 0 ≡ 120 → byte_at text 1 ≡ 32 → ⊥) → (byte_at text 0 ≡ 105 → byte_at text 1 ≡ 32 → ⊥) → other ≡ line_said text
  unfolding line_said ascii
  says_other c x i = rw (n, not_two 99 text c, not_two 120 text x, not_two 105 text i)

  module _ (h : 2 ≤ length text) (space : byte_at text 1 ≡ 32) where
    pub says_c : byte_at text 0 ≡ 99 → configures (drop 2 text) ≡ line_said text
    unfolding line_said ascii
    says_c e = rw (n, two 99 text h e space)

    pub says_x : byte_at text 0 ≡ 120 → excludes (drop 2 text) ≡ line_said text
    unfolding line_said ascii
    says_x e = rw (n, not_two 99 text (λ p q. omega arith), two 120 text h e space)

    pub says_i : byte_at text 0 ≡ 105 → decimal_said (drop 2 text) ≡ line_said text
    unfolding line_said ascii
    says_i e = rw (n, not_two 99 text (λ p q. omega arith), not_two 120 text (λ p q. omega arith), two 105 text h e space)
