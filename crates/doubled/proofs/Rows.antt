-- The rows of the node table, as the chunks that they are.
use mathlib.Core.Path.{◌≡◌, refl, sym, ap, ◌∙◌}
use mathlib.Core.List.{List}
use Prim.Native.Nat.{ℕ, zero, suc, ◌+◌, ◌*◌, ◌/◌, ◌<◌}
use native.Mathlib.Omega.{arith}
use lib.ListN.{length, take, drop, get_or}
use lib.Dec.{ltb}
use borrow.Author.Tests.{ltb-true}
use denote.Ref.{Bor}
use Rattle.std.specs.Prelude.{Option, Some, None}
use mathlib.Core.Bool.{Bool, true, false}
use Rattle.std.proofs.Math.Nat.{mul-suc}
use Rattle.std.specs.Option.{MatchOption, option_copied}
use Rattle.std.specs.Slice.{IsItemAt}
use Rattle.std.specs.Simd.{first_chunks}
use Rattle.std.proofs.lemmas.List.{drop-drop, get_or-take, get_or-drop}
use Rattle.rules.specs.Ceilings.{node_words}
use Rattle.doubled.specs.Passes.{has_row, row_in}
use Rattle.doubled.specs.Siblings.{row_parent}

chunk_count : (n k : ℕ) (xs : List ℕ) → length (first_chunks n k xs) ≡ k
chunk_count n zero xs = refl
chunk_count n (suc k) xs = ap suc (chunk_count n k (drop n xs))

chunk_at : (n k : ℕ) (xs : List ℕ) (i : ℕ) (d : List ℕ) → i < k → get_or (first_chunks n k xs) i d ≡ take n (drop (n * i) xs)
chunk_at n zero xs i d h = absurd (let z : ⊥ = omega arith in z)
chunk_at n (suc k) xs zero d h = let e : n * 0 ≡ 0 = omega arith in rw e
chunk_at n (suc k) xs (suc i) d h =
    let e : n + n * i ≡ n * suc i = omega (arith, mul-suc n i) in
    chunk_at n k (drop n xs) i d (omega arith) ∙ ap (take n) (drop-drop (n * i) n xs ∙ ap (λ (j : ℕ). drop j xs) e)

pub row_is : (w : List ℕ) (i : ℕ) (rows : List (List ℕ)) (r : Option (Bor (List ℕ))) → rows ≡ first_chunks 4 (length w / 4) w → IsItemAt rows i r → option_copied r ≡ row_in w i
unfolding node_words
row_is w i rows (Some x) e h =
    let t : ltb i (length rows) ≡ true = sym h.0 in
    let u : ltb i (length w / 4) ≡ true = ap (ltb i) (sym (ap length e ∙ chunk_count 4 (length w / 4) w)) ∙ t in
    rw u (ap Some (h.1 ∙ ap (λ (l : List (List ℕ)). get_or l i x.now) e ∙ chunk_at 4 (length w / 4) w i x.now (ltb-true i (length w / 4) u)))
row_is w i rows None e h =
    let u : ltb i (length w / 4) ≡ false = ap (ltb i) (sym (ap length e ∙ chunk_count 4 (length w / 4) w)) ∙ sym h.0 in
    rw u

-- what a row says, where there is one
module _ (w : List ℕ) (i : ℕ) (r : Option (Bor (List ℕ))) (e : option_copied r ≡ row_in w i) where
  pub row_none : r ≡ None → has_row w i ≡ false
  row_none f = by (has_row w i) refl (sym (ap option_copied f) ∙ e)
    where
      by : (b : Bool) → has_row w i ≡ b → None ≡ row_in w i → b ≡ false
      by false p q = refl
      by true p q = let z : ◌≡◌ {A = Option (List ℕ)} None (Some (take node_words (drop (node_words * i) w))) = rw p at q in absurd (cc)

  module _ (x : Bor (List ℕ)) (f : r ≡ Some x) where
    pub row_some : has_row w i ≡ true
    row_some = by (has_row w i) refl (sym (ap option_copied f) ∙ e)
      where
        by : (b : Bool) → has_row w i ≡ b → Some x.now ≡ row_in w i → b ≡ true
        by true p q = refl
        by false p q = let z : ◌≡◌ {A = Option (List ℕ)} (Some x.now) None = rw p at q in absurd (cc)

    whole : x.now ≡ take node_words (drop (node_words * i) w)
    whole =
        let g : Some x.now ≡ row_in w i = sym (ap option_copied f) ∙ e in
        let z : Some x.now ≡ Some (take node_words (drop (node_words * i) w)) = rw row_some at g in cc

    pub row_word : (k : ℕ) → k < node_words → get_or x.now k 0 ≡ get_or w (node_words * i + k) 0
    row_word k h =
        ap (λ (l : List ℕ). get_or l k 0) whole
        ∙ get_or-take node_words (drop (node_words * i) w) k 0 h
        ∙ get_or-drop (node_words * i) w k 0

    pub row_begin : get_or x.now 0 0 ≡ get_or w (node_words * i) 0
    unfolding node_words
    row_begin = row_word 0 (omega arith) ∙ ap (λ (k : ℕ). get_or w k 0) (let z : node_words * i + 0 ≡ node_words * i = omega arith in z)

-- P is what is known where there is a row
pub parent_is : (P : Bor (List ℕ) → Type 0) (w : List ℕ) (i : ℕ) (r : Option (Bor (List ℕ))) (v : ℕ) → option_copied r ≡ row_in w i → MatchOption r (v ≡ 0) P
    → ((x : Bor (List ℕ)) → P x → v ≡ get_or x.now 1 0) → v ≡ row_parent w i
unfolding node_words
parent_is P w i None v e h f = let q : has_row w i ≡ false = row_none w i None e refl in h ∙ rw q
parent_is P w i (Some x) v e h f = let q : has_row w i ≡ true = row_some w i (Some x) e x refl in f x h ∙ row_word w i (Some x) e x refl 1 (omega arith) ∙ rw q
