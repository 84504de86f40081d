-- A turn of each loop, and its end; and that so many elements can be lent as there are.
use mathlib.Core.Path.{◌≡◌, refl, sym, ap, ◌∙◌}
use mathlib.Core.List.{List, [], ◌∷◌, ◌++◌, append-nil}
use Prim.Native.Nat.{ℕ, zero, suc, ◌+◌, ◌*◌, ◌≤◌, ◌<◌}
use native.Mathlib.Numerals.{add-one}
use native.Mathlib.Nat.{le_antisymm, add-zero, not-suc-le-zero, le_of_suc-le-suc}
use native.Mathlib.Omega.{arith}
use lib.ListN.{length, drop, set, replicate}
use lib.Seq.{drop-length, length-take-le}
use Rattle.std.specs.List.{fold, range_with_len}
use Rattle.rules.specs.Octets.{Bytes, long_at}
use Rattle.cases.specs.Case.{up_by, size_of, start_of, ids_in}
use Rattle.cases.specs.Digests.{mixed, digest_behind}
use Rattle.cases.specs.Lent.{filled, Lends}

-- ---- digests

-- by `fold`
pub digest_fold : (h : ℕ) (s : List ℕ) → fold mixed h s ≡ digest_behind h s
unfolding digest_behind
digest_fold h [] = refl
digest_fold h (x ∷ s) = digest_fold (mixed h x) s

-- ---- buffers

filled_suc : {A : Type 0} (s : List A) (x : A) (i : ℕ) → i < length s → set (replicate i x ++ drop i s) i x ≡ replicate (suc i) x ++ drop (suc i) s
filled_suc [] x i l = absurd (not-suc-le-zero l)
filled_suc (y ∷ s) x zero l = refl
filled_suc (y ∷ s) x (suc i) l = ap (λ t. x ∷ t) (filled_suc s x i (le_of_suc-le-suc l))

pub filled_more : {A : Type 0} (s : List A) (x : A) (i : ℕ) → i < length s → set (replicate i x ++ drop i s) i x ≡ replicate (i + 1) x ++ drop (i + 1) s
filled_more s x i l = rw (add-one i) (filled_suc s x i l)

pub filled_all : {A : Type 0} (s : List A) (x : A) (i : ℕ) → i ≤ length s → length s ≤ i → replicate i x ++ drop i s ≡ filled s x
unfolding filled
filled_all s x i l g = rw (le_antisymm l g, drop-length) (append-nil (replicate (length s) x))

pub lends : {A : Type 0} (s : List A) (n : ℕ) → n ≤ length s → Lends s n
lends s n l = (l, sym (length-take-le n s l))

-- ---- a case

start_more : (case : Bytes) (i : ℕ) → up_by (start_of case i) (size_of case i) ≡ start_of case (i + 1)
unfolding start_of
start_more case i = rw (add-one i)

-- by `fold`, from part i on
pub start_fold : (case : Bytes) (i n : ℕ) → fold (λ (at k : ℕ). up_by at (size_of case k)) (start_of case i) (range_with_len i n) ≡ start_of case (i + n)
start_fold case i zero = rw add-zero
start_fold case i (suc n) =
    let e : i + suc n ≡ i + 1 + n = omega arith in
    ap (λ (at : ℕ). fold (λ (at k : ℕ). up_by at (size_of case k)) at (range_with_len (i + 1) n)) (start_more case i)
    ∙ start_fold case (i + 1) n
    ∙ ap (start_of case) (sym e)

pub start_first : (case : Bytes) → start_of case 0 ≡ 48
unfolding start_of
start_first case = refl

pub ids_none : (raw : Bytes) (d : List ℕ) → d ≡ ids_in raw 0 0 ++ drop 0 d
unfolding ids_in
ids_none raw d = refl

ids_suc : (raw : Bytes) (d : List ℕ) (at i : ℕ) → i < length d →
    set (ids_in raw at i ++ drop i d) i (long_at raw (at + i * 8)) ≡ ids_in raw at (suc i) ++ drop (suc i) d
unfolding ids_in
ids_suc raw [] at i l = absurd (not-suc-le-zero l)
ids_suc raw (x ∷ d) at zero l = ap (λ (n : ℕ). long_at raw n ∷ d) (add-zero at)
ids_suc raw (x ∷ d) at (suc i) l =
    let e : at + suc i * 8 ≡ at + 8 + i * 8 = omega arith in
    rw (e) (ap (λ (t : List ℕ). long_at raw at ∷ t) (ids_suc raw d (at + 8) i (le_of_suc-le-suc l)))

pub ids_more : (raw : Bytes) (d : List ℕ) (i : ℕ) → i < length d →
    set (ids_in raw 0 i ++ drop i d) i (long_at raw (i * 8)) ≡ ids_in raw 0 (i + 1) ++ drop (i + 1) d
ids_more raw d i l =
    let e : 0 + i * 8 ≡ i * 8 = omega arith in
    rw (add-one i, ← e) (ids_suc raw d 0 i l)

pub ids_all : (raw : Bytes) (d : List ℕ) (i : ℕ) → i ≤ length d → length d ≤ i → ids_in raw 0 i ++ drop i d ≡ ids_in raw 0 (length d)
ids_all raw d i l g = rw (le_antisymm l g, drop-length) (append-nil (ids_in raw 0 (length d)))
