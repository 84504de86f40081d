-- The laws of lists of numbers: membership, what passes a test, lists without repeats and how long such a list can be, what is new.
use Rattle.std.specs.Prelude.{◌≡◌, ◌⊎◌, Bool, false, ◌||◌, ℕ, zero, suc, ◌+◌, ◌≤◌, ◌<◌, length, get_or, drop, eqb}
use Rattle.std.proofs.Math.Path.{refl}
use Rattle.std.proofs.Common.{sym, ap, ◌∙◌, arith, drop_of_length-le, add-one, eqb-true, eq-eqb, ne_eqb}
use Rattle.std.proofs.Math.Logic.{inl, inr}
use Rattle.std.proofs.Math.Bool.{true}
use mathlib.Core.List.Memᴰ
use mathlib.Core.List.{List, [], ◌∷◌, ◌++◌, map, reverse, reverse_aux, reverse-reverse}
use Rattle.std.proofs.Math.Seq.{drop-cons}
use Rattle.std.proofs.lemmas.Bool.{eqb-false}
use Rattle.rules.specs.Lists.{one_of, every, any, keep, fresh}
use Rattle.rules.specs.Tree.{numbers_from, Frame, numbers}
use Rattle.rules.specs.Listing.{◌∈◌}
use Rattle.rules.proofs.Laws.Tests.{by_test, never, or_cases, or_left, or_right, or_false, or_shift, or_four, and_true, not_passed}
use Rattle.rules.specs.Laws.Lists.{Distinct, none, more}

-- ---- the test for membership

pub one_of_mem : (x : ℕ) (l : List ℕ) → one_of x l ≡ true → x ∈ l
unfolding one_of
one_of_mem x [] h = never true refl (sym h)
one_of_mem x (y ∷ ys) h = go (or_cases (eqb x y) (one_of x ys) h) (one_of_mem x ys)
  where
    go : (eqb x y ≡ true) ⊎ (one_of x ys ≡ true) → (one_of x ys ≡ true → x ∈ ys) → x ∈ y ∷ ys
    go (inl e) k = Memᴰ.head (eqb-true x y e)
    go (inr e) k = Memᴰ.tail (k e)

pub mem_one_of : {x : ℕ} {l : List ℕ} → x ∈ l → one_of x l ≡ true
unfolding one_of
mem_one_of {x} (Memᴰ.head {x = y} {xs = ys} e) = or_left (eqb x y) (one_of x ys) (eq-eqb x y e)
mem_one_of {x} (Memᴰ.tail {x = y} {xs = ys} m) = or_right (eqb x y) (one_of x ys) (mem_one_of m)

pub one_of_not : (x : ℕ) (l : List ℕ) → one_of x l ≡ false → x ∈ l → ⊥
one_of_not x l h m = never (one_of x l) (mem_one_of m) h

pub not_one_of : (x : ℕ) (l : List ℕ) → (x ∈ l → ⊥) → one_of x l ≡ false
not_one_of x l h = not_passed (one_of x l) (λ e. h (one_of_mem x l e))

-- an element of a list of which every one passes

-- place by place, for a loop
module _ (x : ℕ) (l : List ℕ) (i : ℕ) where
  pub one_of_end : length l ≤ i → one_of x (drop i l) ≡ false
  unfolding one_of
  one_of_end h = rw (drop_of_length-le l h)

  pub one_of_here : i < length l → get_or l i 0 ≡ x → one_of x (drop i l) ≡ true
  unfolding one_of
  one_of_here h e = rw (drop-cons l i 0 h) (or_left (eqb x (get_or l i 0)) (one_of x (drop (suc i) l)) (eq-eqb x (get_or l i 0) (sym e)))

  pub one_of_past : i < length l → (get_or l i 0 ≡ x → ⊥) → one_of x (drop i l) ≡ one_of x (drop (i + 1) l)
  unfolding one_of
  one_of_past h e = rw (add-one, drop-cons l i 0 h) (rw (ne_eqb x (get_or l i 0) (λ q. e (sym q))))

pub one_any : (x : ℕ) (l : List ℕ) → one_of x l ≡ any (eqb x) l
unfolding one_of any
one_any x [] = refl
one_any x (y ∷ l) = rw (one_any x l)

pub any_last : (f : ℕ → Bool) (l : List ℕ) (j : ℕ) → any f (l ++ (j ∷ [])) ≡ (f j || any f l)
unfolding any
any_last f [] j = refl
any_last f (x ∷ l) j = rw (any_last f l j) (or_shift (f x) (f j) (any f l))

pub one_last : (i : ℕ) (l : List ℕ) (j : ℕ) → one_of i (l ++ (j ∷ [])) ≡ (eqb i j || one_of i l)
one_last i l j = one_any i (l ++ (j ∷ [])) ∙ any_last (eqb i) l j ∙ ap (λ (b : Bool). eqb i j || b) (sym (one_any i l))

pub every_mem : (f : ℕ → Bool) {x : ℕ} {l : List ℕ} → x ∈ l → every f l ≡ true → f x ≡ true
unfolding every
every_mem f (Memᴰ.head {x = y} {xs = ys} e) h = rw e (and_true (f y) (every f ys) h).0
every_mem f (Memᴰ.tail {x = y} {xs = ys} m) h = every_mem f m (and_true (f y) (every f ys) h).1

-- numbers below n, and n itself, are below the next
pub small_more : (l : List ℕ) (n : ℕ) → ((x : ℕ) → x ∈ l → x < n) → (x : ℕ) → x ∈ n ∷ l → x < suc n
small_more l n h x m = elim (Memᴰ.cases_cons m) [ inl e ↦ omega arith | inr k ↦ omega (arith, h x k) ]

-- the element at a place
pub mem_at {ℓ} : {A : Type ℓ} (l : List A) (i : ℕ) (z : A) → i < length l → get_or l i z ∈ l
mem_at [] i z h = absurd (omega arith)
mem_at (x ∷ l) zero z h = Memᴰ.head refl
mem_at (x ∷ l) (suc i) z h = Memᴰ.tail (mem_at l i z (omega arith))

pub map_at {ℓ κ} : {A : Type ℓ} {B : Type κ} (f : A → B) (l : List A) (i : ℕ) (a : A) (b : B) → i < length l → get_or (map f l) i b ≡ f (get_or l i a)
map_at f [] i a b h = absurd (omega arith)
map_at f (x ∷ l) zero a b h = refl
map_at f (x ∷ l) (suc i) a b h = map_at f l i a b (omega arith)

-- ---- one that passes

module _ (f : ℕ → Bool) where
  pub any_yes : (l : List ℕ) → any f l ≡ true → (z : ℕ) × (z ∈ l) × (f z ≡ true)
  unfolding any
  any_yes [] e = never true refl (sym e)
  any_yes (x ∷ xs) e = elim (or_cases (f x) (any f xs) e) [
    | inl h ↦ (x, Memᴰ.head refl, h)
    | inr h ↦ let r = any_yes xs h in (r.0, Memᴰ.tail r.1, r.2)
  ]

  pub yes_any : {z : ℕ} {l : List ℕ} → z ∈ l → f z ≡ true → any f l ≡ true
  unfolding any
  yes_any (Memᴰ.head {x = x} {xs = xs} q) e = or_left (f x) (any f xs) (rw q at e)
  yes_any (Memᴰ.tail {x = x} {xs = xs} m) e = or_right (f x) (any f xs) (yes_any m e)

  pub any_no : {z : ℕ} {l : List ℕ} → z ∈ l → any f l ≡ false → f z ≡ false
  unfolding any
  any_no (Memᴰ.head {x = x} {xs = xs} q) e = rw q (or_false (f x) (any f xs) e).0
  any_no (Memᴰ.tail {x = x} {xs = xs} m) e = any_no m (or_false (f x) (any f xs) e).1

  pub no_any : (l : List ℕ) → ((z : ℕ) → z ∈ l → f z ≡ false) → any f l ≡ false
  unfolding any
  no_any [] h = refl
  no_any (x ∷ xs) h = rw (h x (Memᴰ.head refl), no_any xs (λ z m. h z (Memᴰ.tail m)))

-- the same test on each element
pub any_same : (f g : ℕ → Bool) (l : List ℕ) → ((z : ℕ) → z ∈ l → f z ≡ g z) → any f l ≡ any g l
unfolding any
any_same f g [] h = refl
any_same f g (x ∷ xs) h = rw (h x (Memᴰ.head refl), any_same f g xs (λ z m. h z (Memᴰ.tail m)))

-- one test or the other
pub any_or : (f g : ℕ → Bool) (l : List ℕ) → any (λ (x : ℕ). f x || g x) l ≡ (any f l || any g l)
unfolding any
any_or f g [] = refl
any_or f g (x ∷ xs) = rw (any_or f g xs) (or_four (f x) (g x) (any f xs) (any g xs))

-- ---- no number twice

pub distinct_append : (k l : List ℕ) → Distinct k → Distinct l → ((x : ℕ) → x ∈ k → x ∈ l → ⊥) → Distinct (k ++ l)
distinct_append [] l none e apart = e
distinct_append (x ∷ k) l (more h d) e apart = more new (distinct_append k l d e (λ z p q. apart z (Memᴰ.tail p) q))
  where
    new : x ∈ k ++ l → ⊥
    new m = elim (Memᴰ.append_cases k m) [ inl p ↦ h p | inr q ↦ apart x (Memᴰ.head refl) q ]

-- two places hold two numbers
pub distinct_at : {l : List ℕ} → Distinct l → (i j : ℕ) → i < j → j < length l → get_or l i 0 ≡ get_or l j 0 → ⊥
distinct_at none i j g h e = omega arith
distinct_at (more n d) i zero g h e = omega arith
distinct_at (more {x = x} {l = l} n d) zero (suc j) g h e = n (Memᴰ.cast e (mem_at l j 0 (omega arith)))
distinct_at (more n d) (suc i) (suc j) g h e = distinct_at d i j (omega arith) (omega arith) e

-- l with one element taken out
strike : {x : ℕ} {l : List ℕ} → x ∈ l → List ℕ
strike (Memᴰ.head {xs = xs} e) = xs
strike (Memᴰ.tail {x = y} m) = y ∷ strike m

length_strike : {x : ℕ} {l : List ℕ} (m : x ∈ l) → length l ≡ suc (length (strike m))
unfolding strike
length_strike (Memᴰ.head e) = refl
length_strike (Memᴰ.tail m) = ap suc (length_strike m)

mem_strike : {x z : ℕ} {l : List ℕ} (m : x ∈ l) → z ∈ l → (z ≡ x → ⊥) → z ∈ strike m
unfolding strike
mem_strike {x} {z} (Memᴰ.head {x = y} {xs = xs} e) k ne =
    elim (Memᴰ.cases_cons k) [ inl p ↦ absurd (ne (p ∙ sym e)) | inr q ↦ q ]
mem_strike {x} {z} (Memᴰ.tail {x = y} {xs = xs} m) k ne = go (λ q. mem_strike m q ne) (Memᴰ.cases_cons k)
  where
    go : (z ∈ xs → z ∈ strike m) → (z ≡ y) ⊎ (z ∈ xs) → z ∈ y ∷ strike m
    go f (inl p) = Memᴰ.head p
    go f (inr q) = Memᴰ.tail (f q)

-- a list without repeats is no longer than one that holds all its elements
pub distinct_length : (l m : List ℕ) → Distinct l → ((x : ℕ) → x ∈ l → x ∈ m) → length l ≤ length m
distinct_length [] m none sub = omega arith
distinct_length (x ∷ l) m (more h d) sub =
    let k : x ∈ m = sub x (Memᴰ.head refl) in
    let r : length l ≤ length (strike k) =
    distinct_length l (strike k) d (λ z p. mem_strike k (sub z (Memᴰ.tail p)) (λ e. h (Memᴰ.cast (sym e) p))) in
    omega (arith, length_strike k)

-- ---- the numbers from `from` on, n of them

pub length_numbers : (from n : ℕ) → length (numbers_from from n) ≡ n
unfolding numbers_from
length_numbers from zero = refl
length_numbers from (suc n) = ap suc (length_numbers (suc from) n)

pub mem_numbers : (from n x : ℕ) → from ≤ x → x < from + n → x ∈ numbers_from from n
unfolding numbers_from
mem_numbers from zero x g h = absurd (omega arith)
mem_numbers from (suc n) x g h = by_test (eqb x from)
    (λ e. Memᴰ.head (eqb-true x from e))
    (λ e. let ne : x ≡ from → ⊥ = eqb-false x from e in Memᴰ.tail (mem_numbers (suc from) n x (omega arith) (omega arith)))

pub numbers_mem : (from n x : ℕ) → x ∈ numbers_from from n → (from ≤ x) × (x < from + n)
unfolding numbers_from
numbers_mem from zero x m = absurd (Memᴰ.not-nil m)
numbers_mem from (suc n) x m = elim (Memᴰ.cases_cons m) [
  | inl e ↦ (omega arith, omega arith)
  | inr k ↦ let r = numbers_mem (suc from) n x k in (omega arith, omega arith)
]

pub distinct_numbers : (from n : ℕ) → Distinct (numbers_from from n)
unfolding numbers_from
distinct_numbers from zero = none
distinct_numbers from (suc n) =
    more (λ (m : from ∈ numbers_from (suc from) n). omega (arith, (numbers_mem (suc from) n from m).0)) (distinct_numbers (suc from) n)

-- a list without repeats of numbers below n has n of them at most
pub distinct_below : (l : List ℕ) (n : ℕ) → Distinct l → ((x : ℕ) → x ∈ l → x < n) → length l ≤ n
distinct_below l n d h =
    omega (arith, distinct_length l (numbers_from 0 n) d (λ x m. mem_numbers 0 n x (omega arith) (omega (arith, h x m))), length_numbers 0 n)

-- ---- reversed

mem_reverse_aux : {x : ℕ} (l r : List ℕ) → (x ∈ l) ⊎ (x ∈ r) → x ∈ reverse_aux l r
mem_reverse_aux [] r (inl m) = absurd (Memᴰ.not-nil m)
mem_reverse_aux [] r (inr m) = m
mem_reverse_aux (y ∷ l) r (inl m) =
    mem_reverse_aux l (y ∷ r) (elim (Memᴰ.cases_cons m) [ inl e ↦ inr (Memᴰ.head e) | inr k ↦ inl k ])
mem_reverse_aux (y ∷ l) r (inr m) = mem_reverse_aux l (y ∷ r) (inr (Memᴰ.tail m))

pub mem_reverse : {x : ℕ} {l : List ℕ} → x ∈ l → x ∈ reverse l
mem_reverse {x} {l} m = mem_reverse_aux l [] (inl m)

pub of_reverse : {x : ℕ} (l : List ℕ) → x ∈ reverse l → x ∈ l
of_reverse {x} l m = rw reverse-reverse at (mem_reverse {l = reverse l} m)

-- ---- those that pass

module _ (f : ℕ → Bool) where
  pub keep_yes : (x : ℕ) (xs : List ℕ) → f x ≡ true → keep f (x ∷ xs) ≡ x ∷ keep f xs
  unfolding keep
  keep_yes x xs e = rw (e, keep)

  pub keep_no : (x : ℕ) (xs : List ℕ) → f x ≡ false → keep f (x ∷ xs) ≡ keep f xs
  unfolding keep
  keep_no x xs e = rw (e, keep)

  pub keep_of : (l : List ℕ) (z : ℕ) → z ∈ keep f l → (z ∈ l) × (f z ≡ true)
  unfolding keep
  keep_of [] z m = absurd (Memᴰ.not-nil m)
  keep_of (x ∷ xs) z m = by_test (f x)
      (λ e. elim (Memᴰ.cases_cons (rw (keep_yes x xs e) at m)) [
        | inl q ↦ (Memᴰ.head q, rw q e)
        | inr k ↦ let r = keep_of xs z k in (Memᴰ.tail r.0, r.1)
      ])
      (λ e. let r = keep_of xs z (rw (keep_no x xs e) at m) in (Memᴰ.tail r.0, r.1))

  pub of_keep : {z : ℕ} {l : List ℕ} → z ∈ l → f z ≡ true → z ∈ keep f l
  unfolding keep
  of_keep (Memᴰ.head {x = x} {xs = xs} q) e = rw (keep_yes x xs (rw q at e)) (Memᴰ.head q)
  of_keep {z} (Memᴰ.tail {x = x} {xs = xs} m) e = by_test (f x)
      (λ h. rw (keep_yes x xs h) (Memᴰ.tail (of_keep m e)))
      (λ h. rw (keep_no x xs h) (of_keep m e))

  pub keep_distinct : {l : List ℕ} → Distinct l → Distinct (keep f l)
  unfolding keep
  keep_distinct none = none
  keep_distinct (more {x = x} {l = l} h d) = by_test (f x)
      (λ e. rw (keep_yes x l e) (more (λ m. h (keep_of l x m).0) (keep_distinct d)))
      (λ e. rw (keep_no x l e) (keep_distinct d))

-- ---- what is new

-- a node below `size` is one of those that pass exactly if it passes
pub one_keep : (p : ℕ → Bool) (f : Frame) (x : ℕ) → x < f.size → one_of x (keep p (numbers f)) ≡ p x
one_keep p f x h = by_test (p x)
    (λ e. mem_one_of (of_keep p (mem_numbers 0 f.size x (omega arith) (omega arith)) e) ∙ sym e)
    (λ e. not_one_of x (keep p (numbers f)) (λ m. never (p x) (keep_of p (numbers f) x m).1 e) ∙ sym e)

pub fresh_known : (noted ts : List ℕ) (t : ℕ) → one_of t noted ≡ true → fresh noted (t ∷ ts) ≡ fresh noted ts
unfolding fresh
fresh_known noted ts t e = rw (e, fresh)

pub fresh_new : (noted ts : List ℕ) (t : ℕ) → one_of t noted ≡ false → fresh noted (t ∷ ts) ≡ t ∷ fresh (t ∷ noted) ts
unfolding fresh
fresh_new noted ts t e = rw (e, fresh)

-- by the test on the first number
module _
    (P : List ℕ → List ℕ → List ℕ → Type 0)
    (stop : (noted : List ℕ) → P noted [] [])
    (skip : (noted ts : List ℕ) (t : ℕ) → t ∈ noted → P noted ts (fresh noted ts) → P noted (t ∷ ts) (fresh noted ts))
    (take : (noted ts : List ℕ) (t : ℕ) → (t ∈ noted → ⊥) → P (t ∷ noted) ts (fresh (t ∷ noted) ts) → P noted (t ∷ ts) (t ∷ fresh (t ∷ noted) ts)) where
  pub fresh_ind : (noted ts : List ℕ) → P noted ts (fresh noted ts)
  unfolding fresh
  fresh_ind noted [] = stop noted
  fresh_ind noted (t ∷ ts) = by_test (one_of t noted)
      (λ e. rw (fresh_known noted ts t e) (skip noted ts t (one_of_mem t noted e) (fresh_ind noted ts)))
      (λ e. rw (fresh_new noted ts t e) (take noted ts t (one_of_not t noted e) (fresh_ind (t ∷ noted) ts)))

-- what `new` is, of the numbers ts and of what was noted before
pub record Fresh (noted ts new : List ℕ) : Type 0 where
  pub among : (x : ℕ) → x ∈ new → x ∈ ts
  pub all : (x : ℕ) → x ∈ ts → (x ∈ new) ⊎ (x ∈ noted)
  pub apart : (x : ℕ) → x ∈ new → x ∈ noted → ⊥
  pub once : Distinct new

fresh_stop : (noted : List ℕ) → Fresh noted [] []
fresh_stop noted = record { among = λ x m. m; all = λ x m. inl m; apart = λ x m k. Memᴰ.not-nil m; once = none }

fresh_skip : (noted ts : List ℕ) (t : ℕ) → t ∈ noted → Fresh noted ts (fresh noted ts) → Fresh noted (t ∷ ts) (fresh noted ts)
fresh_skip noted ts t h f =
    record {
      among = λ x m. Memᴰ.tail (f.among x m);
      all = λ x m. elim (Memᴰ.cases_cons m) [ inl e ↦ inr (Memᴰ.cast e h) | inr k ↦ f.all x k ];
      apart = f.apart;
      once = f.once;
    }

fresh_take : (noted ts : List ℕ) (t : ℕ) → (t ∈ noted → ⊥) → Fresh (t ∷ noted) ts (fresh (t ∷ noted) ts)
    → Fresh noted (t ∷ ts) (t ∷ fresh (t ∷ noted) ts)
fresh_take noted ts t h f =
    record {
      among = λ x m. elim (Memᴰ.cases_cons m) [ inl e ↦ Memᴰ.head e | inr k ↦ Memᴰ.tail (f.among x k) ];
      all = λ x m. elim (Memᴰ.cases_cons m) [ inl e ↦ inl (Memᴰ.head e) | inr k ↦ later x (f.all x k) ];
      apart = λ x m k. elim (Memᴰ.cases_cons m) [ inl e ↦ h (Memᴰ.cast (sym e) k) | inr j ↦ f.apart x j (Memᴰ.tail k) ];
      once = more (λ m. f.apart t m (Memᴰ.head refl)) f.once;
    }
  where
    later : (x : ℕ) → (x ∈ fresh (t ∷ noted) ts) ⊎ (x ∈ t ∷ noted) → (x ∈ t ∷ fresh (t ∷ noted) ts) ⊎ (x ∈ noted)
    later x (inl m) = inl (Memᴰ.tail m)
    later x (inr m) = elim (Memᴰ.cases_cons m) [ inl e ↦ inl (Memᴰ.head e) | inr k ↦ inr k ]

pub fresh_is : (noted ts : List ℕ) → Fresh noted ts (fresh noted ts)
fresh_is = fresh_ind Fresh fresh_stop fresh_skip fresh_take
