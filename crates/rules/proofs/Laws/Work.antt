-- The laws of the worklist: it finds exactly what is reached from its starts, each once.
use Rattle.std.specs.Prelude.{refl, ◌⊎◌, ◌↔◌, length}
use Rattle.std.proofs.Math.Logic.{inl, inr}
use mathlib.Core.List.Memᴰ
use mathlib.Core.List.{List, [], ◌∷◌, ◌++◌, reverse}
use Prim.Native.Nat.{ℕ, zero, suc, ◌+◌, ◌≤◌, ◌<◌}
use Rattle.std.proofs.Common.{arith, length-append}
use Rattle.std.proofs.lemmas.List.{length-reverse}
use Rattle.rules.specs.Lists.{fresh}
use Rattle.rules.specs.Listing.{◌∈◌, work, found}
use Rattle.rules.specs.Laws.Lists.{Distinct, none}
use Rattle.rules.proofs.Laws.Lists.{distinct_append, distinct_below, mem_reverse, of_reverse, Fresh, fresh_is}

-- reached: a start number, or a target of a reached one
pub data Reach (of : ℕ → List ℕ) (start : List ℕ) : ℕ → Type 0 where
  started : {n : ℕ} → n ∈ start → Reach of start n
  target : {n m : ℕ} → Reach of start n → m ∈ of n → Reach of start m

module _ (of : ℕ → List ℕ) (P : ℕ → Type 0) (step : (n m : ℕ) → P n → m ∈ of n → P m) where
  -- what holds of the stack and is handed on to targets holds of the next stack
  pub stack_step : (n : ℕ) (stack noted : List ℕ) → ((x : ℕ) → x ∈ n ∷ stack → P x)
      → (x : ℕ) → x ∈ reverse (fresh noted (of n)) ++ stack → P x
  stack_step n stack noted h x m = elim (Memᴰ.append_cases (reverse (fresh noted (of n))) m) [
    | inl k ↦ step n x (h n (Memᴰ.head refl)) ((fresh_is noted (of n)).among x (of_reverse (fresh noted (of n)) k))
    | inr k ↦ h x (Memᴰ.tail k)
  ]

  -- and of all that is found
  pub work_sound : (fuel : ℕ) (stack noted : List ℕ) → ((x : ℕ) → x ∈ stack → P x) → (x : ℕ) → x ∈ work of fuel stack noted → P x
  unfolding work
  work_sound zero stack noted h x m = absurd (Memᴰ.not-nil m)
  work_sound (suc fuel) [] noted h x m = absurd (Memᴰ.not-nil m)
  work_sound (suc fuel) (n ∷ stack) noted h x m =
      let new : List ℕ = fresh noted (of n) in
      elim (Memᴰ.append_cases new m) [
        | inl k ↦ step n x (h n (Memᴰ.head refl)) ((fresh_is noted (of n)).among x k)
        | inr k ↦ work_sound fuel (reverse new ++ stack) (new ++ noted) (stack_step n stack noted h) x k
      ]

-- a stack and what is noted, on the way: each noted number is on the stack or done, and the fuel is enough
pub record Inv (of : ℕ → List ℕ) (count fuel : ℕ) (stack noted : List ℕ) : Type 0 where
  pub done : (n : ℕ) → n ∈ noted → (n ∈ stack) ⊎ ((m : ℕ) → m ∈ of n → m ∈ noted)
  pub once : Distinct noted
  pub small : (x : ℕ) → x ∈ noted → x < count
  pub enough : length stack + count ≤ fuel + length noted

-- the result holds all targets of what it holds
abbrev pub Closed : (ℕ → List ℕ) → List ℕ → List ℕ → Type 0
Closed of noted out = (n m : ℕ) → (n ∈ noted) ⊎ (n ∈ out) → m ∈ of n → (m ∈ noted) ⊎ (m ∈ out)

module _ (of : ℕ → List ℕ) (count : ℕ) (range : (n m : ℕ) → m ∈ of n → m < count) where
  inv_step : (fuel n : ℕ) (stack noted : List ℕ) → Inv of count (suc fuel) (n ∷ stack) noted
      → Inv of count fuel (reverse (fresh noted (of n)) ++ stack) (fresh noted (of n) ++ noted)
  inv_step fuel n stack noted i = record { done = done; once = once; small = small; enough = enough }
    where
      new : List ℕ
      new = fresh noted (of n)

      f : Fresh noted (of n) new
      f = fresh_is noted (of n)

      seen : (m : ℕ) → (m ∈ new) ⊎ (m ∈ noted) → m ∈ new ++ noted
      seen m (inl k) = Memᴰ.append_left noted k
      seen m (inr k) = Memᴰ.append_right new k

      old : (x : ℕ) → (x ∈ n ∷ stack) ⊎ ((m : ℕ) → m ∈ of x → m ∈ noted)
          → (x ∈ reverse new ++ stack) ⊎ ((m : ℕ) → m ∈ of x → m ∈ new ++ noted)
      old x (inl k) =
          elim (Memᴰ.cases_cons k) [ inl e ↦ inr (λ m j. seen m (f.all m (rw e at j))) | inr j ↦ inl (Memᴰ.append_right (reverse new) j) ]
      old x (inr k) = inr (λ m j. Memᴰ.append_right new (k m j))

      done : (x : ℕ) → x ∈ new ++ noted → (x ∈ reverse new ++ stack) ⊎ ((m : ℕ) → m ∈ of x → m ∈ new ++ noted)
      done x m = elim (Memᴰ.append_cases new m) [ inl k ↦ inl (Memᴰ.append_left stack (mem_reverse k)) | inr k ↦ old x (i.done x k) ]

      once : Distinct (new ++ noted)
      once = distinct_append new noted f.once i.once f.apart

      small : (x : ℕ) → x ∈ new ++ noted → x < count
      small x m = elim (Memᴰ.append_cases new m) [ inl k ↦ range n x (f.among x k) | inr k ↦ i.small x k ]

      enough : length (reverse new ++ stack) + count ≤ fuel + length (new ++ noted)
      enough = simp (length-append, length-reverse) (omega (arith, i.enough))

  empty_closed : (stack noted : List ℕ) (fuel : ℕ) → Inv of count fuel stack noted → ((x : ℕ) → x ∈ stack → ⊥) → Closed of noted []
  empty_closed stack noted fuel i h n m (inl k) j = elim (i.done n k) [ inl s ↦ absurd (h n s) | inr c ↦ inl (c m j) ]
  empty_closed stack noted fuel i h n m (inr k) j = absurd (Memᴰ.not-nil k)

  -- with no fuel left the stack is empty
  spent : (stack noted : List ℕ) → Inv of count zero stack noted → (x : ℕ) → x ∈ stack → ⊥
  spent [] noted i x m = Memᴰ.not-nil m
  spent (y ∷ stack) noted i x m = omega (arith, i.enough, distinct_below noted count i.once i.small)

  work_closed : (fuel : ℕ) (stack noted : List ℕ) → Inv of count fuel stack noted → Closed of noted (work of fuel stack noted)
  unfolding work
  work_closed zero stack noted i x m h j = empty_closed stack noted zero i (spent stack noted i) x m h j
  work_closed (suc fuel) [] noted i x m h j = empty_closed [] noted (suc fuel) i (λ z k. Memᴰ.not-nil k) x m h j
  work_closed (suc fuel) (n ∷ stack) noted i x m h j =
      right (work_closed fuel (reverse new ++ stack) (new ++ noted) (inv_step fuel n stack noted i) x m (left h) j)
    where
      new : List ℕ
      new = fresh noted (of n)

      out : List ℕ
      out = work of fuel (reverse new ++ stack) (new ++ noted)

      left : (x ∈ noted) ⊎ (x ∈ new ++ out) → (x ∈ new ++ noted) ⊎ (x ∈ out)
      left (inl k) = inl (Memᴰ.append_right new k)
      left (inr k) = elim (Memᴰ.append_cases new k) [ inl l ↦ inl (Memᴰ.append_left noted l) | inr r ↦ inr r ]

      right : (m ∈ new ++ noted) ⊎ (m ∈ out) → (m ∈ noted) ⊎ (m ∈ new ++ out)
      right (inl k) = elim (Memᴰ.append_cases new k) [ inl l ↦ inr (Memᴰ.append_left out l) | inr r ↦ inl r ]
      right (inr k) = inr (Memᴰ.append_right new k)

  module _ (start : List ℕ) (once : Distinct start) (small : (x : ℕ) → x ∈ start → x < count) where
    found_inv : Inv of count count (reverse start) start
    found_inv = record { done = λ n m. inl (mem_reverse m); once = once; small = small; enough = simp length-reverse (omega arith) }

    found_all : {x : ℕ} → Reach of start x → (x ∈ start) ⊎ (x ∈ found of count start)
    unfolding found
    found_all (started m) = inl m
    found_all (target {n = n} {m = x} r m) = work_closed count (reverse start) start found_inv n x (found_all r) m

    -- THE WORKLIST IS RIGHT: it finds exactly what is reached
    pub found_iff : (x : ℕ) → (x ∈ start ++ found of count start) ↔ Reach of start x
    unfolding found
    found_iff x = (
      λ m. elim (Memᴰ.append_cases start m) [
        | inl k ↦ started k
        | inr k ↦
            work_sound of (Reach of start) (λ n z r j. target r j) count (reverse start) start (λ z j. started (of_reverse start j)) x k
      ],
      λ r. elim (found_all r) [ inl k ↦ Memᴰ.append_left (found of count start) k | inr k ↦ Memᴰ.append_right start k ],
    )

-- nothing is found twice, nor anything that was noted
module _ (of : ℕ → List ℕ) where
  pub work_once : (fuel : ℕ) (stack noted : List ℕ) → Distinct (work of fuel stack noted) × ((x : ℕ) → x ∈ work of fuel stack noted → x ∈ noted → ⊥)
  unfolding work
  work_once zero stack noted = (none, λ x m k. Memᴰ.not-nil m)
  work_once (suc fuel) [] noted = (none, λ x m k. Memᴰ.not-nil m)
  work_once (suc fuel) (n ∷ stack) noted =
      let new : List ℕ = fresh noted (of n) in
      let f : Fresh noted (of n) new = fresh_is noted (of n) in
      let out : List ℕ = work of fuel (reverse new ++ stack) (new ++ noted) in
      let r = work_once fuel (reverse new ++ stack) (new ++ noted) in (
        distinct_append new out f.once r.0 (λ x m k. r.1 x k (Memᴰ.append_left noted m)),
        λ x m k. elim (Memᴰ.append_cases new m) [ inl j ↦ f.apart x j k | inr j ↦ r.1 x j (Memᴰ.append_right new k) ],
      )
