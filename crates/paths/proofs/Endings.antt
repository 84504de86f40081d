-- A path matched from its end on.
use mathlib.Core.Path.{◌≡◌, refl, sym, ap, ap₂, ◌∙◌}
use mathlib.Core.Bool.{Bool, true, false}
use mathlib.Core.List.{[], ◌∷◌, ◌++◌, append_assoc}
use mathlib.Core.Logic.{◌≢◌}
use Prim.Native.Nat.{ℕ, ◌+◌, ◌-◌}
use native.Mathlib.Omega.{arith}
use lib.Dec.{eqb}
use borrow.Author.Tests.{ne_eqb}
use lib.ListN.{length, take, drop}
use denote.Ref.{Bor}
use Rattle.std.specs.Prelude.{Option, None, Some, MatchOption}
use Rattle.std.specs.Bool.{then_some}
use Rattle.std.specs.Cmp.Lexicographic.{pointwise}
use Rattle.std.proofs.lemmas.Bool.Decides.{Decides-eqb}
use Rattle.std.proofs.lemmas.List.{append_cancel_right}
use Rattle.std.proofs.lemmas.List.Prefix.{end_rest}
use Rattle.std.proofs.lemmas.Slice.Eq.{slice_eq-Decides}
use Rattle.rules.specs.Octets.{Bytes, same}
use Rattle.rules.proofs.Laws.Tests.{both_ways, never}
use Rattle.rules.proofs.Laws.Octets.{same_eq, eq_same, ne_same}

-- what `strip_suffix` says
abbrev pub Strips : Bytes → Bytes → Option (Bor Bytes) → Type 0
Strips s p r =
    MatchOption r (pointwise eqb (drop (length s - length p) s) p ≡ false)
    (λ x. (pointwise eqb (drop (length s - length p) s) p ≡ true) × (x.now ≡ take (length s - length p) s) × (length x.now + length p ≡ length s))

-- the answer tells what stands in front of a slash and this name
abbrev pub Fronts : Bytes → Bytes → Option (Bor Bytes) → Type 0
Fronts p n r = MatchOption r ((front : Bytes) → p ≢ front ++ 47 ∷ n) (λ front. p ≡ front.now ++ 47 ∷ n)

last_same : (a b : Bytes) (y z : ℕ) → a ++ y ∷ [] ≡ b ++ z ∷ [] → y ≡ z
last_same a b y z e =
    let s : Bytes = a ++ y ∷ [] in
    let g : y ∷ [] ≡ z ∷ [] = sym (end_rest s (y ∷ []) a refl) ∙ end_rest s (z ∷ []) b e in
    cc

-- a path cut where a name of this length stands at its end
module _ (p n f l : Bytes) (e : p ≡ f ++ l) (h : length l ≡ length n) where
  parts : (a : Bytes) → p ≡ a ++ 47 ∷ n → (f ≡ a ++ 47 ∷ []) × (l ≡ n)
  parts a g =
      let s : p ≡ (a ++ 47 ∷ []) ++ n = g ∙ sym (append_assoc a (47 ∷ []) n) in
      let m : l ≡ n = sym (end_rest p l f e) ∙ ap (λ (k : ℕ). drop (length p - k) p) h ∙ end_rest p n (a ++ 47 ∷ []) s in
      (append_cancel_right f (a ++ 47 ∷ []) n (ap (λ (k : Bytes). f ++ k) (sym m) ∙ sym e ∙ s), m)

  -- in front of the name stands x, and last in it y
  module _ (x : Bor Bytes) (y : ℕ) (k : f ≡ x.now ++ y ∷ []) where
    pub slashed : y ≡ 47 → (b : Bool) → b ≡ pointwise eqb l n → (r : Option (Bor Bytes)) → r ≡ then_some b x → Fronts p n r
    slashed v true m r q =
        let w : l ≡ n = (slice_eq-Decides Decides-eqb l n true m).0 refl in
        rw q (e ∙ ap₂ (λ (s t : Bytes). s ++ t) (k ∙ rw v) w ∙ append_assoc x.now (47 ∷ []) n)
    slashed v false m r q = rw q (λ a g. never false ((slice_eq-Decides Decides-eqb l n false m).1 (parts a g).1) refl)

    pub unslashed : (y ≡ 47 → ⊥) → (r : Option (Bor Bytes)) → r ≡ then_some (eqb y 47) x → Fronts p n r
    unslashed v r q = rw (q, ne_eqb y 47 v) (λ a g. v (last_same x.now a y 47 (sym k ∙ (parts a g).0)))

-- a string and what it ends in, against another
same_ends : (a b s : Bytes) → same (a ++ s) (b ++ s) ≡ same a b
same_ends a b s = both_ways (same (a ++ s) (b ++ s)) (same a b)
    (λ h. eq_same a b (append_cancel_right a b s (same_eq (a ++ s) (b ++ s) h)))
    (λ h. eq_same (a ++ s) (b ++ s) (ap (λ (x : Bytes). x ++ s) (same_eq a b h)))

module _ (p n a : Bytes) where
  pub fronts_not : Fronts p n None → same (a ++ 47 ∷ n) p ≡ false
  fronts_not h = ne_same (a ++ 47 ∷ n) p (λ e. h a (sym e))

  pub fronts_on : (x : Bor Bytes) → Fronts p n (Some x) → same (a ++ 47 ∷ n) p ≡ same a x.now
  fronts_on x h = ap (same (a ++ 47 ∷ n)) h ∙ same_ends a x.now (47 ∷ n)

pub same_none : (p : Bytes) → same [] p ≡ eqb (length p) 0
unfolding same
same_none [] = refl
same_none (x ∷ p) = sym (ne_eqb (length (x ∷ p)) 0 (λ e. let z : ⊥ = omega arith in z))
