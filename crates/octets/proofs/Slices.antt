-- The definitions' words in those of std's methods of slices.
use Rattle.std.specs.Prelude.{◌≡◌, refl, true, ◌&&◌, ℕ, zero, suc, ◌+◌, ◌-◌, ◌*◌, ◌/◌, ◌%◌, ◌≤◌, ◌<◌, min, eqb, List, [], ◌∷◌, ◌++◌, length, get_or, take, drop, replicate}
use Rattle.std.proofs.Common.{sym, ap, ap₂, subst, ◌∙◌, arith, append_assoc, drop-drop, length-drop}
use Rattle.std.proofs.Math.Nat.{div-div-eq-div-mul}
use Rattle.std.proofs.Math.Seq.{paste-zero}
use Rattle.std.proofs.Math.Seq.{length-take-le}
use Rattle.std.proofs.lemmas.List.{length-replicate, take-replicate, take-append-drop}
use denote.Param.Members.{Mut, Called}
use Rattle.std.specs.Array.{IsFromFnResultFrom}
use Rattle.std.specs.Int.{w64, to_be_bytes}
use Rattle.std.specs.Cmp.Lexicographic.{pointwise}
use Rattle.rules.specs.Octets.{Bytes, be32, be64, lay, same, begins, ends}
use Rattle.rules.proofs.Laws.Octets.{same_eq, eq_same, ends_at, ends_short, ne_same, lay_paste, lay_past}
use Rattle.rules.proofs.Laws.Tests.{by_le}

-- `==`
pub pointwise_same : (a b : Bytes) → pointwise eqb a b ≡ same a b
unfolding same
pointwise_same [] [] = refl
pointwise_same [] (y ∷ b) = refl
pointwise_same (x ∷ a) [] = refl
pointwise_same (x ∷ a) (y ∷ b) = ap (λ t. eqb x y && t) (pointwise_same a b)

-- `starts_with`
pub pointwise_begins : (p s : Bytes) → pointwise eqb p (take (length p) s) ≡ begins p s
unfolding begins
pointwise_begins [] s = refl
pointwise_begins (x ∷ p) [] = refl
pointwise_begins (x ∷ p) (y ∷ s) = ap (λ t. eqb x y && t) (pointwise_begins p s)

-- the same, where the bytes are cut first
pub begins_taken : (p s : Bytes) → same p (take (length p) s) ≡ begins p s
begins_taken p s = sym (pointwise_same p (take (length p) s)) ∙ pointwise_begins p s

-- `ends_with`
pub pointwise_ends : (e s : Bytes) → pointwise eqb e (drop (length s - length e) s) ≡ ends e s
pointwise_ends e s =
    pointwise_same e (drop (length s - length e) s)
    ∙ by_le (length e) (length s)
    (λ h. sym (ends_at e s h))
    (λ h. let z : length s - length e ≡ 0 = omega arith in
    rw z (ne_same e s (λ q. let l = ap length q in omega arith) ∙ sym (ends_short e s h)))

-- `==` of both ends
module _ (n : ℕ) (a b : Bytes) where
  pub same_front : same a b ≡ true → pointwise eqb (take n a) (take n b) ≡ true
  same_front h = pointwise_same (take n a) (take n b) ∙ eq_same (take n a) (take n b) (ap (take n) (same_eq a b h))

  pub same_back : same a b ≡ true → pointwise eqb (drop (length a - n) a) (drop (length b - n) b) ≡ true
  same_back h = pointwise_same _ _ ∙ eq_same _ _ (ap (λ (l : Bytes). drop (length l - n) l) (same_eq a b h))

  pub same_length : same a b ≡ true → length a ≡ length b
  same_length h = ap length (same_eq a b h)

  -- n bytes from the front and n from the back are all of n to 2 n
  pub both_ends : length a ≡ length b → n ≤ length a → length a ≤ 2 * n → pointwise eqb (take n a) (take n b) ≡ true → pointwise eqb (drop (length a - n) a) (drop (length b - n) b) ≡ true → same a b ≡ true
  both_ends l h k f g =
      let p : take n a ≡ take n b = same_eq (take n a) (take n b) (sym (pointwise_same (take n a) (take n b)) ∙ f) in
      let q : drop (length a - n) a ≡ drop (length b - n) b = same_eq _ _ (sym (pointwise_same (drop (length a - n) a) (drop (length b - n) b)) ∙ g) in
      let r : drop n a ≡ drop n b = behind a h k ∙ ap₂ (λ (i : ℕ) (s : Bytes). drop (n - (i - n)) s) l q ∙ sym (behind b (omega (arith, l)) (omega (arith, l))) in
      eq_same a b (sym (take-append-drop n a) ∙ ap₂ (λ (s t : Bytes). s ++ t) p r ∙ take-append-drop n b)
    where
      behind : (s : Bytes) → n ≤ length s → length s ≤ 2 * n → drop n s ≡ drop (n - (length s - n)) (drop (length s - n) s)
      behind s i j = let e : length s - n + (n - (length s - n)) ≡ n = omega arith in ap (λ (m : ℕ). drop m s) (sym e) ∙ sym (drop-drop (n - (length s - n)) (length s - n) s)

-- what is written over `d[start..start + n]`
pub lay_mid : {A : Type 0} (d : List A) (at : ℕ) (src : List A) (start n : ℕ) → start ≡ min at (length d) → n ≡ min (length src) (length d - start) → take start d ++ (take n src ++ drop n (drop start d)) ≡ lay d at src
lay_mid d at src start n e f =
    sym (append_assoc (take start d) (take n src) (drop n (drop start d)))
    ∙ rw drop-drop
    (by_le at (length d)
    (λ h. let q : start ≡ at = omega arith in
    let m : n ≡ min (length src) (length d - at) = omega arith in
    rw (q, m) (sym (lay_paste d at src)))
    (λ h. let m : n ≡ 0 = omega arith in
    rw m (sym (paste-zero d start src)) ∙ sym (lay_past d at src (omega arith))))

pub fill_mid : {A : Type 0} (d : List A) (at n : ℕ) (x : A) (start m : ℕ) → start ≡ min at (length d) → m ≡ min n (length d - start) → take start d ++ (replicate (length (take m (drop start d))) x ++ drop m (drop start d)) ≡ lay d at (replicate n x)
fill_mid d at n x start m e f =
    let l : length (replicate n x) ≡ n = length-replicate n x in
    let k : length (take m (drop start d)) ≡ m = length-take-le m (drop start d) (omega (arith, length-drop start d)) in
    let t : take m (replicate n x) ≡ replicate m x = take-replicate m n x (omega arith) in
    rw k (rw t at (lay_mid d at (replicate n x) start m e (omega arith)))

-- `array::from_fn`, of a closure that changes nothing
pub from_fn_gives : {F B : Type 0} (g : Mut F (ℕ × Unit {0}) B) (h : ℕ → B) (f : F) (ys : List B) (i n : ℕ) → ((k : ℕ) (y : B) (q : F) → Called g f (k, tt) y q → (q ≡ f) × (y ≡ h k)) → IsFromFnResultFrom g f ys i n → (k : ℕ) (d : B) → i ≤ k → k < i + n → get_or ys k d ≡ h k
from_fn_gives g h f ys i zero learn e k d a b = absurd (omega arith)
from_fn_gives g h f ys i (suc n) learn (q, y, el, call, rest) k d a b =
    let t = learn i y q call in
    by_le k i
    (λ c. let s : k ≡ i = omega arith in rw s (el.1 d ∙ t.1))
    (λ c. from_fn_gives g h f ys (i + 1) n learn (subst (λ (p : _). IsFromFnResultFrom g p ys (i + 1) n) t.0 rest) k d (omega arith) (omega arith))

-- `to_be_bytes` of 64 bits
pub high_first : (v : ℕ) → to_be_bytes w64 v ≡ be64 v
unfolding be32 be64
high_first v =
    let h : (b : ℕ) → v / 4294967296 / b ≡ v / (4294967296 * b) = λ b. div-div-eq-div-mul v 4294967296 b in
    let a : v % 4294967296 / 16777216 % 256 ≡ v / 16777216 % 256 = omega arith in
    let b : v % 4294967296 / 65536 % 256 ≡ v / 65536 % 256 = omega arith in
    let c : v % 4294967296 / 256 % 256 ≡ v / 256 % 256 = omega arith in
    let e : v % 4294967296 % 256 ≡ v % 256 = omega arith in
    rw (h 16777216, h 65536, h 256, a, b, c, e)
