-- A number spelled from its last digit on: what stands behind the next place are the digits that are done.
use mathlib.Core.Path.{◌≡◌, sym, ap, ◌∙◌}
use mathlib.Core.List.{◌∷◌}
use Prim.Native.Nat.{ℕ, zero, suc, ◌+◌, ◌-◌, ◌*◌, ◌/◌, ◌%◌, ◌^◌, ◌≤◌, ◌<◌}
use native.Mathlib.Nat.{pow-suc}
use native.Mathlib.Numerals.{add-one}
use native.Mathlib.Omega.{arith}
use lib.ListN.{length, take, drop, set, length-set, drop_of_length-le}
use lib.Seq.{length-take-le, drop_at, set_split}
use Rattle.rules.specs.Octets.{Bytes}
use Rattle.rules.specs.Program.{decimal}
use Rattle.rules.proofs.Laws.Program.{digits, digits_all, digits_last, digits_more}

-- of n, `rest` is still to be spelled, from the place `first` down
pub record Spelling (n rest : ℕ) (text : Bytes) (first : ℕ) : Type 0 where
  pub whole : decimal n ≡ digits rest (drop (first + 1) text)
  pub long : length text ≡ 20
  pub inside : first < 20
  pub small : rest < 10 ^ (first + 1)

drop_set : (l : Bytes) (i x : ℕ) → i < length l → drop i (set l i x) ≡ x ∷ drop (i + 1) l
drop_set l i x h = rw (set_split l i x h, add-one) (drop_at (take i l) _ i (length-take-le i l (omega arith)))

pub spelling_none : (n : ℕ) (text : Bytes) → length text ≡ 20 → n < 10 ^ 20 → Spelling n n text 19
spelling_none n text h k =
    record { whole = digits_all n ∙ ap (digits n) (sym (drop_of_length-le text {i = 20} (omega arith))); long = h; inside = omega arith; small = k }

-- with digits to come there is a place before this one
low : (rest first : ℕ) → 10 ≤ rest → rest < 10 ^ (first + 1) → 0 < first
low rest zero h k = absurd (let z : ⊥ = omega arith in z)
low rest (suc first) h k = omega arith

module _ {n rest : ℕ} {text : Bytes} {first : ℕ} (s : Spelling n rest text first) where
  pub spelling_place : 10 ≤ rest → 0 < first
  spelling_place h = low rest first h s.small

  pub spelling_more : 10 ≤ rest → Spelling n (rest / 10) (set text first (48 + rest % 10)) (first - 1)
  spelling_more h =
      let p = spelling_place h in
      let e : first - 1 + 1 ≡ first = omega arith in
      let b : 10 ^ (first + 1) ≡ 10 ^ first * 10 = rw (add-one first) (pow-suc 10 first) in
      record {
        whole =
            s.whole ∙ digits_more rest (drop (first + 1) text) h
            ∙ ap (digits (rest / 10)) (rw e (sym (drop_set text first (48 + rest % 10) (omega (arith, s.long, s.inside)))));
        long = length-set text first (48 + rest % 10) ∙ s.long;
        inside = omega (arith, s.inside);
        small = rw e (omega (arith, s.small, b));
      }

  pub spelling_last : rest < 10 → drop first (set text first (48 + rest % 10)) ≡ decimal n
  spelling_last h =
      let e : rest % 10 ≡ rest = omega arith in
      drop_set text first (48 + rest % 10) (omega (arith, s.long, s.inside)) ∙ rw e (sym (digits_last rest (drop (first + 1) text) h)) ∙ sym s.whole
