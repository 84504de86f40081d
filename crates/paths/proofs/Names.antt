-- Byte order of names with what follows them.
use mathlib.Core.Path.{◌≡◌, refl, sym, ap₂, ◌∙◌}
use mathlib.Core.Bool.{Bool, true, false}
use mathlib.Core.List.Memᴰ
use mathlib.Core.List.{[], ◌∷◌, ◌++◌}
use Prim.Native.Nat.{ℕ}
use native.Mathlib.Omega.{arith}
use lib.Dec.{eqb, ltb}
use Rattle.std.proofs.Common.{Ordering}
use Rattle.std.specs.Ordering.{nat_cmp, is_lt}
use Rattle.std.specs.Cmp.Lexicographic.{slice_cmp}
use Rattle.std.proofs.lemmas.Cmp.{same_from_slice_cmp}
use Rattle.std.proofs.lemmas.Bool.Decides.{nat_tests}
use borrow.Author.Tests.{eqb-true, eqb-false, eq-eqb, ne_eqb, le-ltb}
use Rattle.rules.specs.Octets.{Bytes, before}
use Rattle.rules.specs.Listing.{◌∈◌}
use Rattle.rules.proofs.Laws.Tests.{by_test, or_nothing}
use Rattle.paths.specs.Order.{slash}

pub before_none : (s : Bytes) → before s [] ≡ false
unfolding before
before_none [] = refl
before_none (x ∷ s) = refl

pub before_nil : (y : ℕ) (s : Bytes) → before [] (y ∷ s) ≡ true
unfolding before
before_nil y s = refl

before_differ : (x y : ℕ) (r s : Bytes) → (x ≡ y → ⊥) → before (x ∷ r) (y ∷ s) ≡ ltb x y
unfolding before
before_differ x y r s n = rw (ne_eqb x y n) (or_nothing (ltb x y))

pub before_same : (x y : ℕ) (r s : Bytes) → x ≡ y → before (x ∷ r) (y ∷ s) ≡ before r s
unfolding before
before_same x y r s e = rw (eq-eqb x y e, le-ltb x y (omega arith))

before_last : (x y : ℕ) (r : Bytes) → before (x ∷ r) (y ∷ []) ≡ ltb x y
unfolding before
before_last x y r = by_test (eqb x y)
    (λ e. let f : x ≡ y = eqb-true x y e in rw (e, before_none r, le-ltb x y (omega arith)))
    (λ e. rw e (or_nothing (ltb x y)))

-- the same bytes in front make no difference
pub before_front : (a r s : Bytes) → before (a ++ r) (a ++ s) ≡ before r s
before_front [] r s = refl
before_front (x ∷ a) r s = before_same x x (a ++ r) (a ++ s) refl ∙ before_front a r s

-- the library's order of byte strings
pub less_before : (s o : Bytes) (r : Ordering) → r ≡ slice_cmp nat_cmp s o → is_lt r ≡ before s o
unfolding before
less_before = same_from_slice_cmp nat_cmp is_lt before refl (λ _ _. refl) (λ _ _. refl) (λ x y xs ys o h. grind (arith, nat_tests))

-- ---- whatever follows

-- what follows a name is nothing, or a slash and more
abbrev pub Follows : Bool → Bytes → Type 0
Follows true x = (y : Bytes) × (x ≡ 47 ∷ y)
Follows false x = x ≡ []

first_slash : (c : ℕ) (s : Bytes) (more : Bool) (x : Bytes) → (47 ≡ c → ⊥) → Follows more x → before x (c ∷ s) ≡ before (slash more) (c ∷ s)
unfolding before
first_slash c s false x n e = rw e
first_slash c s true x n e = rw (e.1, ne_eqb 47 c n)

last_slash : (c : ℕ) (s : Bytes) (more : Bool) (x : Bytes) → (47 ≡ c → ⊥) → Follows more x → before (c ∷ s) x ≡ before (c ∷ s) (slash more)
unfolding before
last_slash c s false x n e = rw e
last_slash c s true x n e =
    let d : eqb c 47 ≡ false = ne_eqb c 47 (λ q. n (sym q)) in
    rw (e.1, d)

-- OF TWO NAMES THAT DIFFER, WITHOUT SLASHES, ONLY THE NEXT BYTE MATTERS
pub names_order : (n o : Bytes) (more other : Bool) (x y : Bytes) → (47 ∈ n → ⊥) → (47 ∈ o → ⊥) → (n ≡ o → ⊥) → Follows more x → Follows other y
    → before (n ++ x) (o ++ y) ≡ before (n ++ slash more) (o ++ slash other)
names_order [] [] more other x y f g d p q = absurd (d refl)
names_order [] (c ∷ o) more other x y f g d p q =
    let e : 47 ≡ c → ⊥ = λ z. g (Memᴰ.head z) in
    first_slash c (o ++ y) more x e p ∙ by more
  where
    by : (m : Bool) → before (slash m) (c ∷ (o ++ y)) ≡ before (slash m) (c ∷ (o ++ slash other))
    by true = before_differ 47 c [] (o ++ y) (λ z. g (Memᴰ.head z)) ∙ sym (before_differ 47 c [] (o ++ slash other) (λ z. g (Memᴰ.head z)))
    by false = before_nil c (o ++ y) ∙ sym (before_nil c (o ++ slash other))
names_order (c ∷ n) [] more other x y f g d p q =
    let e : 47 ≡ c → ⊥ = λ z. f (Memᴰ.head z) in
    last_slash c (n ++ x) other y e q ∙ by other
  where
    by : (m : Bool) → before (c ∷ (n ++ x)) (slash m) ≡ before (c ∷ (n ++ slash more)) (slash m)
    by true = before_last c 47 (n ++ x) ∙ sym (before_last c 47 (n ++ slash more))
    by false = before_none (c ∷ (n ++ x)) ∙ sym (before_none (c ∷ (n ++ slash more)))
names_order (c ∷ n) (e ∷ o) more other x y f g d p q = by_test (eqb c e)
    (λ t. let z : c ≡ e = eqb-true c e t in
    before_same c e (n ++ x) (o ++ y) z
    ∙ names_order n o more other x y (λ m. f (Memᴰ.tail m)) (λ m. g (Memᴰ.tail m)) (λ w. d (ap₂ (λ (a : ℕ) (l : Bytes). a ∷ l) z w)) p q
    ∙ sym (before_same c e (n ++ slash more) (o ++ slash other) z))
    (λ t. before_differ c e (n ++ x) (o ++ y) (eqb-false c e t) ∙ sym (before_differ c e (n ++ slash more) (o ++ slash other) (eqb-false c e t)))
