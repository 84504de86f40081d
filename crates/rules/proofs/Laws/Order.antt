-- The byte order of byte strings, a strict total order, and lists sorted by it.
use Rattle.std.specs.Prelude.{◌≡◌, ◌⊎◌, Bool, false, ◌&&◌, eqb, ltb, length, get_or, take, drop}
use Rattle.std.proofs.Math.Path.{refl}
use Rattle.std.proofs.Common.{sym, ap, ap₂, ◌∙◌, arith, eqb-true, eq-eqb, ltb-true, ltb-false, lt-ltb}
use Rattle.std.proofs.Math.Logic.{inl, inr}
use Rattle.std.proofs.Math.Bool.{true}
use mathlib.Core.List.Memᴰ
use mathlib.Core.List.{List, [], ◌∷◌, ◌++◌}
use Prim.Native.Nat.{ℕ, zero, suc, ◌≤◌, ◌<◌}
use Rattle.rules.specs.Octets.{Bytes, before}
use Rattle.rules.specs.Lists.{keep, insert, sort}
use Rattle.rules.specs.Listing.{◌∈◌}
use Rattle.rules.proofs.Laws.Tests.{by_test, never, or_cases, or_left, or_right, and_true}
use Rattle.rules.proofs.Laws.Lists.{keep_of, keep_yes, keep_no, mem_at}

-- what it says of two heads
before_cons : (x y : ℕ) (k l : Bytes) → before (x ∷ k) (y ∷ l) ≡ true → (x < y) ⊎ ((x ≡ y) × (before k l ≡ true))
unfolding before
before_cons x y k l h = elim (or_cases (ltb x y) (eqb x y && before k l) h) [
  | inl e ↦ inl (ltb-true x y e)
  | inr e ↦ let b = and_true (eqb x y) (before k l) e in inr (eqb-true x y b.0, b.1)
]

cons_before : (x y : ℕ) (k l : Bytes) → (x < y) ⊎ ((x ≡ y) × (before k l ≡ true)) → before (x ∷ k) (y ∷ l) ≡ true
unfolding before
cons_before x y k l (inl h) = or_left (ltb x y) (eqb x y && before k l) (lt-ltb x y h)
cons_before x y k l (inr h) = or_right (ltb x y) (eqb x y && before k l) (rw (eq-eqb x y h.0) h.1)

pub before_irrefl : (k : Bytes) → before k k ≡ true → ⊥
unfolding before
before_irrefl [] h = never true refl (sym h)
before_irrefl (x ∷ k) h = elim (before_cons x x k k h) [ inl e ↦ omega arith | inr e ↦ before_irrefl k e.1 ]

pub before_trans : (k l m : Bytes) → before k l ≡ true → before l m ≡ true → before k m ≡ true
unfolding before
before_trans [] [] m p q = never true refl (sym p)
before_trans [] (y ∷ l) [] p q = q
before_trans [] (y ∷ l) (z ∷ m) p q = refl
before_trans (x ∷ k) [] m p q = never true refl (sym p)
before_trans (x ∷ k) (y ∷ l) [] p q = q
before_trans (x ∷ k) (y ∷ l) (z ∷ m) p q = cons_before x z k m (go (before_cons x y k l p) (before_cons y z l m q) (before_trans k l m))
  where
    go : (x < y) ⊎ ((x ≡ y) × (before k l ≡ true)) → (y < z) ⊎ ((y ≡ z) × (before l m ≡ true))
        → (before k l ≡ true → before l m ≡ true → before k m ≡ true)
        → (x < z) ⊎ ((x ≡ z) × (before k m ≡ true))
    go (inl a) (inl b) ih = inl (omega arith)
    go (inl a) (inr b) ih = inl (omega arith)
    go (inr a) (inl b) ih = inl (omega arith)
    go (inr a) (inr b) ih = inr (a.0 ∙ b.0, ih a.1 b.1)

not_before : (x y : ℕ) (k l : Bytes) → before (x ∷ k) (y ∷ l) ≡ false → (y ≤ x) × (x ≡ y → before k l ≡ false)
not_before x y k l p = (
  by_test (ltb x y) (λ e. never (before (x ∷ k) (y ∷ l)) (cons_before x y k l (inl (ltb-true x y e))) p) (λ e. ltb-false x y e),
  λ e. by_test (before k l) (λ b. never (before (x ∷ k) (y ∷ l)) (cons_before x y k l (inr (e, b))) p) (λ b. b),
)

pub before_total : (k l : Bytes) → before k l ≡ false → before l k ≡ false → k ≡ l
unfolding before
before_total [] [] p q = refl
before_total [] (y ∷ l) p q = never true refl p
before_total (x ∷ k) [] p q = never true refl q
before_total (x ∷ k) (y ∷ l) p q =
    let a = not_before x y k l p in
    let b = not_before y x l k q in
    let e : x ≡ y = omega arith in
    ap₂ (λ (z : ℕ) (m : Bytes). z ∷ m) e (before_total k l (a.1 e) (b.1 (sym e)))

-- ---- sorted lists

module _ {A : Type 0} (key : A → Bytes) where
  -- each element's key comes before those of all later ones
  pub data Ascending : List A → Type 0 where
    empty : Ascending []
    put : {x : A} {l : List A} → ((y : A) → y ∈ l → before (key x) (key y) ≡ true) → Ascending l → Ascending (x ∷ l)

  -- no two elements have one key
  pub data Keyed : List A → Type 0 where
    unkeyed : Keyed []
    keyed : {x : A} {l : List A} → ((y : A) → y ∈ l → key x ≡ key y → ⊥) → Keyed l → Keyed (x ∷ l)

  insert_past : (x y : A) (ys : List A) → before (key y) (key x) ≡ true → insert key x (y ∷ ys) ≡ y ∷ insert key x ys
  unfolding insert
  insert_past x y ys e = rw (e, insert)

  insert_here : (x y : A) (ys : List A) → before (key y) (key x) ≡ false → insert key x (y ∷ ys) ≡ x ∷ y ∷ ys
  unfolding insert
  insert_here x y ys e = rw (e, insert)

  insert_of : (x : A) (l : List A) (z : A) → z ∈ insert key x l → z ∈ x ∷ l
  unfolding insert
  insert_of x [] z m = m
  insert_of x (y ∷ ys) z m = by_test (before (key y) (key x))
      (λ e. elim (Memᴰ.cases_cons (rw (insert_past x y ys e) at m)) [
        | inl q ↦ Memᴰ.tail (Memᴰ.head q)
        | inr k ↦ swap (insert_of x ys z k)
      ])
      (λ e. rw (insert_here x y ys e) at m)
    where
      swap : z ∈ x ∷ ys → z ∈ x ∷ y ∷ ys
      swap k = elim (Memᴰ.cases_cons k) [ inl q ↦ Memᴰ.head q | inr j ↦ Memᴰ.tail (Memᴰ.tail j) ]

  of_insert : (x : A) (l : List A) (z : A) → z ∈ x ∷ l → z ∈ insert key x l
  unfolding insert
  of_insert x [] z m = m
  of_insert x (y ∷ ys) z m = by_test (before (key y) (key x))
      (λ e. rw (insert_past x y ys e) (go (of_insert x ys z) (Memᴰ.cases_cons m)))
      (λ e. rw (insert_here x y ys e) m)
    where
      go : (z ∈ x ∷ ys → z ∈ insert key x ys) → (z ≡ x) ⊎ (z ∈ y ∷ ys) → z ∈ y ∷ insert key x ys
      go ih (inl q) = Memᴰ.tail (ih (Memᴰ.head q))
      go ih (inr k) = elim (Memᴰ.cases_cons k) [ inl q ↦ Memᴰ.head q | inr j ↦ Memᴰ.tail (ih (Memᴰ.tail j)) ]

  -- the sorted list has the elements of the list
  pub sort_of : (l : List A) (z : A) → z ∈ sort key l → z ∈ l
  unfolding sort
  sort_of [] z m = m
  sort_of (x ∷ xs) z m =
      elim (Memᴰ.cases_cons (insert_of x (sort key xs) z m)) [ inl q ↦ Memᴰ.head q | inr k ↦ Memᴰ.tail (sort_of xs z k) ]

  pub of_sort : (l : List A) (z : A) → z ∈ l → z ∈ sort key l
  unfolding sort
  of_sort [] z m = m
  of_sort (x ∷ xs) z m =
      of_insert x (sort key xs) z (elim (Memᴰ.cases_cons m) [ inl q ↦ Memᴰ.head q | inr k ↦ Memᴰ.tail (of_sort xs z k) ])

  insert_ascending : (x : A) {l : List A} → ((y : A) → y ∈ l → key x ≡ key y → ⊥) → Ascending l → Ascending (insert key x l)
  unfolding insert
  insert_ascending x h empty = put (λ y m. absurd (Memᴰ.not-nil m)) empty
  insert_ascending x h (put {x = y} {l = ys} f a) = by_test (before (key y) (key x))
      (λ e. rw (insert_past x y ys e) (put (λ z m. past e z (Memᴰ.cases_cons (insert_of x ys z m)))
      (insert_ascending x (λ z m. h z (Memᴰ.tail m)) a)))
      (λ e. rw (insert_here x y ys e) (put (λ z m. first (least e) z (Memᴰ.cases_cons m)) (put f a)))
    where
      past : before (key y) (key x) ≡ true → (z : A) → (z ≡ x) ⊎ (z ∈ ys) → before (key y) (key z) ≡ true
      past e z (inl q) = rw q e
      past e z (inr k) = f z k

      least : before (key y) (key x) ≡ false → before (key x) (key y) ≡ true
      least e = by_test (before (key x) (key y)) (λ b. b) (λ b. absurd (h y (Memᴰ.head refl) (before_total (key x) (key y) b e)))

      first : before (key x) (key y) ≡ true → (z : A) → (z ≡ y) ⊎ (z ∈ ys) → before (key x) (key z) ≡ true
      first b z (inl q) = rw q b
      first b z (inr k) = before_trans (key x) (key y) (key z) b (f z k)

  pub sort_ascending : {l : List A} → Keyed l → Ascending (sort key l)
  unfolding sort
  sort_ascending unkeyed = empty
  sort_ascending (keyed {x = x} {l = l} h k) = insert_ascending x (λ y m. h y (sort_of l y m)) (sort_ascending k)

  -- a sorted list is known by its elements
  pub ascending_unique : {k l : List A} → Ascending k → Ascending l → ((x : A) → x ∈ k → x ∈ l) → ((x : A) → x ∈ l → x ∈ k) → k ≡ l
  ascending_unique empty empty p q = refl
  ascending_unique empty (put {x = y} f a) p q = absurd (Memᴰ.not-nil (q y (Memᴰ.head refl)))
  ascending_unique (put {x = x} f a) empty p q = absurd (Memᴰ.not-nil (p x (Memᴰ.head refl)))
  ascending_unique (put {x = x} {l = k} f a) (put {x = y} {l = l} g b) p q =
      ap₂ (λ (z : A) (m : List A). z ∷ m) heads (ascending_unique a b (λ z m. left z m (Memᴰ.cases_cons (p z (Memᴰ.tail m))))
      (λ z m. right z m (Memᴰ.cases_cons (q z (Memᴰ.tail m)))))
    where
      pick : (x ≡ y) ⊎ (x ∈ l) → (y ≡ x) ⊎ (y ∈ k) → x ≡ y
      pick (inl e) n = e
      pick (inr m) (inl e) = sym e
      pick (inr m) (inr n) = absurd (before_irrefl (key x) (before_trans (key x) (key y) (key x) (f y n) (g x m)))

      heads : x ≡ y
      heads = pick (Memᴰ.cases_cons (p x (Memᴰ.head refl))) (Memᴰ.cases_cons (q y (Memᴰ.head refl)))

      left : (z : A) → z ∈ k → (z ≡ y) ⊎ (z ∈ l) → z ∈ l
      left z m (inl e) = absurd (before_irrefl (key x) (rw (e ∙ sym heads) at (f z m)))
      left z m (inr j) = j

      right : (z : A) → z ∈ l → (z ≡ x) ⊎ (z ∈ k) → z ∈ k
      right z m (inl e) = absurd (before_irrefl (key y) (rw (e ∙ heads) at (g z m)))
      right z m (inr j) = j

-- ---- place by place

module _ {A : Type 0} (key : A → Bytes) where
  -- an element is inserted behind all that come before it
  pub insert_at : (x z : A) (l : List A) (k : ℕ) → ((i : ℕ) → i < k → before (key (get_or l i z)) (key x) ≡ true)
      → (k < length l → before (key (get_or l k z)) (key x) ≡ false) → insert key x l ≡ take k l ++ (x ∷ drop k l)
  unfolding insert
  insert_at x z [] zero h g = refl
  insert_at x z [] (suc k) h g = refl
  insert_at x z (y ∷ ys) zero h g = rw (g (omega arith), insert)
  insert_at x z (y ∷ ys) (suc k) h g =
      rw (h 0 (omega arith), insert)
      (ap (λ (m : List A). y ∷ m) (insert_at x z ys k (λ i b. h (suc i) (omega arith)) (λ b. g (omega arith))))

  pub insert_length : (x : A) (l : List A) → length (insert key x l) ≡ suc (length l)
  unfolding insert
  insert_length x [] = refl
  insert_length x (y ∷ ys) = by_test (before (key y) (key x))
      (λ e. rw (e, insert) (ap suc (insert_length x ys)))
      (λ e. rw (e, insert))

  -- an earlier place comes before a later one
  pub ascending_at : {l : List A} → Ascending key l → (z : A) (i j : ℕ) → i < j → j < length l → before (key (get_or l i z)) (key (get_or l j z)) ≡ true
  ascending_at empty z i j g h = absurd (omega arith)
  ascending_at (put f a) z i zero g h = absurd (omega arith)
  ascending_at (put {x = x} {l = l} f a) z zero (suc j) g h = f (get_or l j z) (mem_at l j z (omega arith))
  ascending_at (put f a) z (suc i) (suc j) g h = ascending_at a z i j (omega arith) (omega arith)

-- what passes a test keeps its order
pub keep_ascending : (key : ℕ → Bytes) (f : ℕ → Bool) {l : List ℕ} → Ascending key l → Ascending key (keep f l)
unfolding keep
keep_ascending key f empty = empty
keep_ascending key f (put {x = x} {l = l} h a) = by_test (f x)
    (λ e. rw (keep_yes f x l e) (put (λ y m. h y (keep_of f l y m).0) (keep_ascending key f a)))
    (λ e. rw (keep_no f x l e) (keep_ascending key f a))
