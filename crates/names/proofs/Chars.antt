-- The definitions' words in those of std's methods, and tests in a row.
use Rattle.std.specs.Prelude.{◌≡◌, refl, Bool, true, false, ◌&&◌, ◌||◌, List, [], ◌∷◌, ℕ, eqb, leb, ltb, length, drop, Option, Some, None, unwrap_or}
use Rattle.std.proofs.Common.{sym, ap, ap₂, ◌∙◌, arith, inl, inr, ltb-true, ltb-false, eqb-true, le-leb, drop_of_length-le}
use Rattle.std.proofs.lemmas.Bool.{eqb-false, lt-leb}
use Rattle.std.specs.Slice.{IsGetRangeResult}
use denote.Ref.{Bor}
use Rattle.std.specs.List.{list_all, list_any}
use Rattle.std.specs.Ordering.{nat_cmp, is_le}
use Rattle.rules.specs.Names.{within}
use Rattle.rules.specs.Lists.{one_of, every}
use Rattle.rules.proofs.Laws.Octets.{take_rest}
use Rattle.rules.proofs.Laws.Tests.{by_test, eqb_sym}

-- `contains`
pub any_one_of : (c : ℕ) (xs : List ℕ) → list_any (λ y. eqb y c) xs ≡ one_of c xs
unfolding one_of
any_one_of c [] = refl
any_one_of c (x ∷ xs) = ap₂ (λ (a b : Bool). a || b) (eqb_sym x c) (any_one_of c xs)

-- `all`
pub all_every : (f : ℕ → Bool) (xs : List ℕ) → list_all f xs ≡ every f xs
unfolding every
all_every f [] = refl
all_every f (x ∷ xs) = ap (λ (b : Bool). f x && b) (all_every f xs)

-- `(low..=high).contains(&n)`
is_le_leb : (m n : ℕ) → is_le (nat_cmp m n) ≡ leb m n
is_le_leb m n = by_test (ltb m n)
    (λ t. rw (t, le-leb m n (omega (arith, ltb-true m n t))))
    (λ t. by_test (eqb m n)
    (λ e. rw (t, e, le-leb m n (omega (arith, eqb-true m n e))))
    (λ e. let other = eqb-false m n e in rw (t, e, lt-leb m n (omega (arith, ltb-false m n t)))))

pub in_range : (low high n : ℕ) → is_le (nat_cmp low n) && is_le (nat_cmp n high) ≡ within low high n
in_range low high n = ap₂ (λ (a b : Bool). a && b) (is_le_leb low n) (is_le_leb n high)

-- `a && b` where a passes, and where it does not
pub and_then : {r a b : Bool} → a ≡ true → r ≡ b → r ≡ a && b
and_then p q = rw p q

pub and_else : {r a : Bool} (b : Bool) → r ≡ a → r ≡ false → r ≡ a && b
and_else {a = a} b p q = let n : a ≡ false = cc in q ∙ rw n

pub or_then : {r a : Bool} (b : Bool) → a ≡ true → r ≡ true → r ≡ a || b
or_then b p q = q ∙ rw p

pub or_else : {r a b : Bool} → a ≡ false → r ≡ b → r ≡ a || b
or_else p q = rw p q

-- `s.get(k..).unwrap_or(&[])`
pub rest_or_nothing : (s : List ℕ) (k : ℕ) (nothing : Bor (List ℕ)) (r : Option (Bor (List ℕ))) → nothing.now ≡ [] → IsGetRangeResult s k (length s) r → (unwrap_or r nothing).now ≡ drop k s
rest_or_nothing s k nothing None e h = e ∙ sym (drop_of_length-le s {i = k} (elim h.0 [ inl p ↦ omega arith | inr p ↦ omega arith ]))
rest_or_nothing s k nothing (Some x) e h = h.0.2 ∙ take_rest k s
