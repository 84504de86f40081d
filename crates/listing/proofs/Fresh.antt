-- What is new depends on which nodes are noted, and not on their order.
use mathlib.Core.Path.{◌≡◌, refl, sym, ap, ◌∙◌}
use mathlib.Core.Logic.{inl, inr}
use mathlib.Core.Bool.{Bool, false, ◌||◌}
use mathlib.Core.List.Memᴰ
use mathlib.Core.List.{List, [], ◌∷◌, ◌++◌, append_assoc, append-nil, reverse, reverse-append}
use Prim.Native.Nat.{ℕ, zero, suc}
use lib.Dec.{eqb}
use Rattle.rules.specs.Lists.{one_of, fresh}
use Rattle.rules.specs.Listing.{◌∈◌, work, gather}
use Rattle.rules.proofs.Laws.Tests.{by_test, both_ways}
use Rattle.rules.proofs.Laws.Lists.{one_of_mem, mem_one_of, fresh_known, fresh_new}

-- the same numbers, in any order
abbrev pub Alike : (a b : List ℕ) → Type 0
Alike a b = (x : ℕ) → one_of x a ≡ one_of x b

pub alike_by : (a b : List ℕ) → ((x : ℕ) → x ∈ a → x ∈ b) → ((x : ℕ) → x ∈ b → x ∈ a) → Alike a b
alike_by a b f g x = both_ways (one_of x a) (one_of x b) (λ e. mem_one_of (f x (one_of_mem x a e))) (λ e. mem_one_of (g x (one_of_mem x b e)))

turned : (a b : List ℕ) (x : ℕ) → x ∈ a ++ b → x ∈ b ++ a
turned a b x m = elim (Memᴰ.append_cases a m) [ inl k ↦ Memᴰ.append_right b k | inr k ↦ Memᴰ.append_left a k ]

pub alike_swap : (a b : List ℕ) → Alike (a ++ b) (b ++ a)
alike_swap a b = alike_by (a ++ b) (b ++ a) (turned a b) (turned b a)

pub alike_cons : (t : ℕ) (a b : List ℕ) → Alike a b → Alike (t ∷ a) (t ∷ b)
unfolding one_of
alike_cons t a b m x = ap (λ (o : Bool). eqb x t || o) (m x)

pub alike_front : (n a b : List ℕ) → Alike a b → Alike (n ++ a) (n ++ b)
alike_front [] a b m = m
alike_front (t ∷ n) a b m = alike_cons t (n ++ a) (n ++ b) (alike_front n a b m)

alike_middle : (t : ℕ) (l n : List ℕ) → Alike (t ∷ (l ++ n)) (l ++ (t ∷ n))
alike_middle t l n x = alike_cons t (l ++ n) (n ++ l) (alike_swap l n) x ∙ alike_swap (t ∷ n) l x

pub fresh_same : (a b : List ℕ) → Alike a b → (ts : List ℕ) → fresh a ts ≡ fresh b ts
unfolding fresh
fresh_same a b m [] = refl
fresh_same a b m (t ∷ ts) = by_test (one_of t a)
    (λ e. fresh_known a ts t e ∙ fresh_same a b m ts ∙ sym (fresh_known b ts t (sym (m t) ∙ e)))
    (λ e. fresh_new a ts t e ∙ ap (λ (l : List ℕ). t ∷ l) (fresh_same (t ∷ a) (t ∷ b) (alike_cons t a b m) ts) ∙ sym (fresh_new b ts t (sym (m t) ∙ e)))

pub fresh_none : (l : List ℕ) → fresh l [] ≡ []
unfolding fresh
fresh_none l = refl

-- a new one, listed last
pub fresh_last : (l ts : List ℕ) (t : ℕ) → one_of t l ≡ false → fresh l (t ∷ ts) ≡ t ∷ fresh (l ++ (t ∷ [])) ts
fresh_last l ts t e = fresh_new l ts t e ∙ ap (λ (n : List ℕ). t ∷ n) (fresh_same (t ∷ l) (l ++ (t ∷ [])) (alike_swap (t ∷ []) l) ts)

pub fresh_append : (l ts us : List ℕ) → fresh l (ts ++ us) ≡ fresh l ts ++ fresh (l ++ fresh l ts) us
unfolding fresh
fresh_append l [] us = ap (λ (k : List ℕ). fresh k us) (sym (append-nil l))
fresh_append l (t ∷ ts) us = by_test (one_of t l)
    (λ e. fresh_known l (ts ++ us) t e ∙ fresh_append l ts us ∙ ap (λ (n : List ℕ). n ++ fresh (l ++ n) us) (sym (fresh_known l ts t e)))
    (λ e. let n : List ℕ = fresh (t ∷ l) ts in
    fresh_new l (ts ++ us) t e
    ∙ ap (λ (k : List ℕ). t ∷ k) (fresh_append (t ∷ l) ts us ∙ ap (λ (k : List ℕ). n ++ k) (fresh_same (t ∷ (l ++ n)) (l ++ (t ∷ n)) (alike_middle t l n) us))
    ∙ ap (λ (k : List ℕ). k ++ fresh (l ++ k) us) (sym (fresh_new l ts t e)))

-- ---- the work list

module _ (of : ℕ → List ℕ) where
  pub work_same : (fuel : ℕ) (stack a b : List ℕ) → Alike a b → work of fuel stack a ≡ work of fuel stack b
  unfolding work
  work_same zero stack a b m = refl
  work_same (suc fuel) [] a b m = refl
  work_same (suc fuel) (n ∷ stack) a b m =
      let new : List ℕ = fresh a (of n) in
      ap (λ (l : List ℕ). new ++ l) (work_same fuel (reverse new ++ stack) (new ++ a) (new ++ b) (alike_front new a b m))
      ∙ ap (λ (l : List ℕ). l ++ work of fuel (reverse l ++ stack) (l ++ b)) (fresh_same a b m (of n))

  pub work_none : (fuel : ℕ) (noted : List ℕ) → work of fuel [] noted ≡ []
  unfolding work
  work_none zero noted = refl
  work_none (suc fuel) noted = refl

  -- a turn: the last of the stack is taken, and what is new is listed and stacked last
  pub work_turn : (fuel n : ℕ) (stack noted : List ℕ)
      → noted ++ work of (suc fuel) (reverse (stack ++ (n ∷ []))) noted
      ≡ noted ++ fresh noted (of n) ++ work of fuel (reverse (stack ++ fresh noted (of n))) (noted ++ fresh noted (of n))
  unfolding work
  work_turn fuel n stack noted =
      let new : List ℕ = fresh noted (of n) in
      ap (λ (l : List ℕ). noted ++ work of (suc fuel) l noted) (reverse-append stack (n ∷ []))
      ∙ ap (λ (l : List ℕ). noted ++ (new ++ l))
      (work_same fuel (reverse new ++ reverse stack) (new ++ noted) (noted ++ new) (alike_swap new noted)
      ∙ ap (λ (l : List ℕ). work of fuel l (noted ++ new)) (sym (reverse-append stack new)))
      ∙ sym (append_assoc noted new (work of fuel (reverse (stack ++ new)) (noted ++ new)))

-- ---- what is gathered

module _ (of : ℕ → List ℕ) where
  pub gather_same : (a b : List ℕ) → Alike a b → (cs : List ℕ) → gather of a cs ≡ gather of b cs
  unfolding gather
  gather_same a b m [] = refl
  gather_same a b m (c ∷ cs) =
      let new : List ℕ = fresh a (of c) in
      ap (λ (l : List ℕ). new ++ l) (gather_same (new ++ a) (new ++ b) (alike_front new a b m) cs)
      ∙ ap (λ (l : List ℕ). l ++ gather of (l ++ b) cs) (fresh_same a b m (of c))

  pub gather_none : (noted : List ℕ) → gather of noted [] ≡ []
  unfolding gather
  gather_none noted = refl

  pub gather_turn : (c : ℕ) (cs noted : List ℕ)
      → noted ++ gather of noted (c ∷ cs) ≡ noted ++ fresh noted (of c) ++ gather of (noted ++ fresh noted (of c)) cs
  unfolding gather
  gather_turn c cs noted =
      let new : List ℕ = fresh noted (of c) in
      ap (λ (l : List ℕ). noted ++ (new ++ l)) (gather_same (new ++ noted) (noted ++ new) (alike_swap new noted) cs)
      ∙ sym (append_assoc noted new (gather of (noted ++ new) cs))
