-- The laws of byte strings: what is laid into a buffer, numbers and their bytes, padding, NUL, comparing.
use Rattle.std.specs.Prelude.{◌≡◌, refl, ◌≢◌, true, false, ◌&&◌, ◌||◌, ℕ, zero, suc, ◌+◌, ◌-◌, ◌*◌, ◌/◌, ◌%◌, ◌≤◌, ◌<◌, min, eqb, set, get_or}
use Rattle.std.proofs.Math.Path.{sym, ap}
use Rattle.std.proofs.Common.{ap₂, ◌∙◌, add-zero, zero-add, add_assoc, div-add-mod', mod-eq_of_lt, add-one, take-append-drop, length-drop, take-add, take_at, drop_at, drop-drop, get_or-append-add, get_or-drop, get_or-set_same, get_or-set_other, drop-cons}
use mathlib.Core.List.{List, [], ◌∷◌, ◌++◌, append_assoc, append-nil, reverse, reverse-append, reverse-reverse}
use Rattle.std.proofs.Math.Nat.{div-div-eq-div-mul}
use native.Mathlib.Omega.{arith}
use Rattle.std.proofs.Math.Numerals.{add-two, add-three}
use Rattle.std.proofs.Math.ListN.{length, take, drop, length-append, length-take, drop_of_length-le, get_or-append, get_or-eq_default}
use Rattle.std.proofs.lemmas.List.{length-replicate, get_or-replicate, length-reverse, set_split}
use Rattle.std.proofs.Math.Seq.{length-take-le, take-length, take_all, take-take, take-append-le, take-append-add, drop-append_seam, take-append_seam, get_or-take, paste, paste-zero, paste-suc, append_snoc}
use Rattle.std.proofs.lemmas.List.Edits.{sets-eq}
use borrow.Author.Tests.{eq-eqb, ne_eqb, eqb-true, eqb-false, ltb-true}
use Rattle.rules.specs.Octets.{Bytes, AreBytes, byte_at, word_at, long_at, be32, be64, zeros, padded, filled, part, put, lay, length_to, nul_in, has_nul, same, begins, ends, holds}
use Rattle.rules.proofs.Laws.Tests.{by_test, by_le, never, both_ways, and_true, not_passed}

-- ---- parts

-- `&s[at..]`, as a check states it
pub take_rest {ℓ} : {A : Type ℓ} (at : ℕ) (s : List A) → take (length s - at) (drop at s) ≡ drop at s
take_rest at s = take_all (length s - at) (drop at s) (omega (arith, length-drop at s))

pub byte_part : (s : Bytes) (at n i : ℕ) → i < n → byte_at (part s at n) i ≡ byte_at s (at + i)
byte_part s at n i h = get_or-take n (drop at s) i 0 h ∙ get_or-drop at s i 0

pub length_part : (s : Bytes) (at n : ℕ) → at + n ≤ length s → length (part s at n) ≡ n
length_part s at n h = length-take-le n (drop at s) (omega (arith, length-drop at s))

-- what stands between two others
pub part_between : (p bs q : Bytes) → part (p ++ (bs ++ q)) (length p) (length bs) ≡ bs
part_between p bs q = ap (take (length bs)) (drop-append_seam p (bs ++ q)) ∙ take-append_seam bs q

-- a loop over the first n of a list: the element at i, and what is left behind it
pub drop_taken {ℓ} : {A : Type ℓ} (l : List A) (n i : ℕ) (z : A) → i < n → n ≤ length l → drop i (take n l) ≡ get_or l i z ∷ drop (i + 1) (take n l)
drop_taken l n i z h k =
    rw (add-one, drop-cons (take n l) i z (omega (arith, length-take-le n l k)), get_or-take n l i z h)

pub drop_all {ℓ} : {A : Type ℓ} (l : List A) (n i : ℕ) → n ≤ i → drop i (take n l) ≡ []
drop_all l n i h = drop_of_length-le (take n l) {i = i} (omega (arith, length-take n l))

-- four bytes, one by one
four_bytes : (s : Bytes) (at : ℕ) → at + 4 ≤ length s → part s at 4 ≡ byte_at s at ∷ byte_at s (at + 1) ∷ byte_at s (at + 2) ∷ byte_at s (at + 3) ∷ []
four_bytes s at h =
    rw (add-one at, add-two at, add-three at, drop-cons s at 0 (omega arith), drop-cons s (suc at) 0 (omega arith), drop-cons s (suc (suc at)) 0 (omega arith), drop-cons s (suc (suc (suc at))) 0 (omega arith))

-- two parts that touch
pub part_part : (s : Bytes) (at m n : ℕ) → part s at m ++ part s (at + m) n ≡ part s at (m + n)
part_part s at m n = rw (← drop-drop m at s) (sym (take-add m n (drop at s)))

-- ---- `put`: bytes laid into a buffer

module _ {ℓ} {A : Type ℓ} where
  put_eq : (d : List A) (at : ℕ) (bs : List A) → put d at bs ≡ take at d ++ bs ++ drop (at + length bs) d
  unfolding put
  put_eq d at bs = sym (append_assoc (take at d) bs _)

  head_length : (d : List A) (at : ℕ) (bs : List A) → at ≤ length d → length (take at d ++ bs) ≡ at + length bs
  head_length d at bs h = rw (length-append, length-take-le at d h)

  -- nothing laid in leaves the buffer as it was
  pub put_nil : (d : List A) (at : ℕ) → put d at [] ≡ d
  unfolding put
  put_nil d at = rw (add-zero, take-append-drop)

  pub put_front : (d xs : List A) → put d 0 xs ≡ xs ++ drop (length xs) d
  unfolding put
  put_front d xs = rw (zero-add (length xs))

  pub length_put : (d : List A) (at : ℕ) (bs : List A) → at + length bs ≤ length d → length (put d at bs) ≡ length d
  length_put d at bs h =
      let k : at ≤ length d = omega arith in
      rw (put_eq d at bs, length-append (take at d ++ bs) (drop (at + length bs) d), head_length d at bs k, length-drop) (omega arith)

  -- up to what was laid in, with it, and behind it
  pub take_put : (d : List A) (at : ℕ) (bs : List A) → at ≤ length d → take (at + length bs) (put d at bs) ≡ take at d ++ bs
  take_put d at bs h = rw (put_eq d at bs) (take_at (take at d ++ bs) _ _ (head_length d at bs h))

  pub take_put_before : (d : List A) (at : ℕ) (bs : List A) (n : ℕ) → n ≤ at → at ≤ length d → take n (put d at bs) ≡ take n d
  unfolding put
  take_put_before d at bs n k h =
      take-append-le n (take at d) _ (omega (arith, length-take-le at d h)) ∙ take-take n at d k

  pub drop_put : (d : List A) (at : ℕ) (bs : List A) (n : ℕ) → at ≤ length d → drop (at + length bs + n) (put d at bs) ≡ drop (at + length bs + n) d
  drop_put d at bs n h =
      rw (put_eq d at bs, ← drop-drop n (at + length bs) d, ← drop-drop n (at + length bs) (take at d ++ bs ++ drop (at + length bs) d))
      (ap (drop n) (drop_at (take at d ++ bs) (drop (at + length bs) d) (at + length bs) (head_length d at bs h)))

  -- two that touch are one
  pub put_put : (d : List A) (at : ℕ) (xs ys : List A) → at ≤ length d → put (put d at xs) (at + length xs) ys ≡ put d at (xs ++ ys)
  put_put d at xs ys h =
      rw (put_eq (put d at xs) (at + length xs) ys, take_put d at xs h, drop_put d at xs (length ys) h, put_eq d at (xs ++ ys), length-append, append_assoc (take at d) xs ys, add_assoc at (length xs) (length ys))

  -- reading before, inside and behind
  pub put_before : (d : List A) (at : ℕ) (bs : List A) (i : ℕ) (z : A) → i < at → at ≤ length d → get_or (put d at bs) i z ≡ get_or d i z
  unfolding put
  put_before d at bs i z k h =
      get_or-append (take at d) _ z i (omega (arith, length-take-le at d h)) ∙ get_or-take at d i z k

  get_d_after : (p q : List A) (n i : ℕ) (z : A) → length p ≡ n → get_or (p ++ q) (n + i) z ≡ get_or q i z
  get_d_after p q n i z e = rw (← e) (get_or-append-add p q i z)

  pub put_inside : (d : List A) (at : ℕ) (bs : List A) (i : ℕ) (z : A) → i < length bs → at ≤ length d → get_or (put d at bs) (at + i) z ≡ get_or bs i z
  unfolding put
  put_inside d at bs i z k h = get_d_after (take at d) _ at i z (length-take-le at d h) ∙ get_or-append bs _ z i k

  pub put_behind : (d : List A) (at : ℕ) (bs : List A) (i : ℕ) (z : A) → at + length bs ≤ i → at ≤ length d → get_or (put d at bs) i z ≡ get_or d i z
  put_behind d at bs i z k h =
      let n : ℕ = at + length bs in
      let e : n + (i - n) ≡ i = omega arith in
      rw (put_eq d at bs, ← e)
      (get_d_after (take at d ++ bs) (drop n d) n (i - n) z (head_length d at bs h) ∙ get_or-drop n d (i - n) z)

  -- what was laid in stands there
  pub part_put : (d : List A) (at : ℕ) (bs : List A) → at ≤ length d → take (length bs) (drop at (put d at bs)) ≡ bs
  unfolding put
  part_put d at bs h = rw (drop_at (take at d) _ at (length-take-le at d h)) (take-append_seam bs _)

  -- ---- `lay`: the same for any place, clipped to the buffer

  pub length_lay : (d : List A) (at : ℕ) (bs : List A) → length (lay d at bs) ≡ length d
  unfolding lay put
  length_lay d at bs =
      length-take (length d) _
      ∙ rw (length-append (take at d) (bs ++ drop (at + length bs) d), length-append bs (drop (at + length bs) d), length-take, length-drop) (omega arith)

  -- where it fits
  pub lay_put : (d : List A) (at : ℕ) (bs : List A) → at + length bs ≤ length d → lay d at bs ≡ put d at bs
  unfolding lay
  lay_put d at bs h = take_all (length d) (put d at bs) (omega (arith, length_put d at bs h))

  -- from a place past the end on, nothing is laid in
  pub lay_past : (d : List A) (at : ℕ) (bs : List A) → length d ≤ at → lay d at bs ≡ d
  unfolding lay put
  lay_past d at bs h = rw (take_all at d h) (take_at d _ (length d) refl)

  lay_clipped : (d : List A) (at : ℕ) (bs : List A) → at ≤ length d → length d ≤ at + length bs → lay d at bs ≡ take at d ++ take (length d - at) bs
  unfolding lay
  lay_clipped d at bs h k =
      let e : length (take at d) + (length d - at) ≡ length d = omega (arith, length-take-le at d h) in
      let r : drop (at + length bs) d ≡ [] = drop_of_length-le d k in
      ap (λ (n : ℕ). take n (put d at bs)) (sym e)
      ∙ rw (put_eq d at bs, r, append-nil) (take-append-add (take at d) bs (length d - at))

  -- as a loop does it, element by element, as many as there is room for
  pub lay_paste : (d : List A) (at : ℕ) (bs : List A) → lay d at bs ≡ paste d at bs (min (length bs) (length d - at))
  lay_paste d at bs = by_le (at + length bs) (length d)
      (λ h. let n : min (length bs) (length d - at) ≡ length bs = omega arith in
      rw (n, take-length) (lay_put d at bs h ∙ put_eq d at bs))
      (λ h. by_le at (length d)
      (λ k. let n : min (length bs) (length d - at) ≡ length d - at = omega arith in
      let e : at + (length d - at) ≡ length d = omega arith in
      rw (n, e, drop_of_length-le d {i = length d} (omega arith), append-nil) (lay_clipped d at bs k (omega arith)))
      (λ k. let n : min (length bs) (length d - at) ≡ zero = omega arith in
      rw n (lay_past d at bs (omega arith) ∙ paste-zero d at bs)))

  pub lay_nil : (d : List A) (at : ℕ) → lay d at [] ≡ d
  unfolding lay
  lay_nil d at = rw (put_nil, take-length)

  -- one element
  pub lay_one : (d : List A) (at : ℕ) (x : A) → at < length d → lay d at (x ∷ []) ≡ set d at x
  lay_one d at x h =
      lay_put d at (x ∷ []) (omega arith) ∙ put_eq d at (x ∷ []) ∙ rw (add-one, append_snoc) (sym (set_split d at x h))

  pub lay_one_same : (d : List A) (at : ℕ) (x z : A) → at < length d → get_or (lay d at (x ∷ [])) at z ≡ x
  lay_one_same d at x z h = rw (lay_one d at x h) (get_or-set_same d at x z h)

  pub lay_one_other : (d : List A) (at : ℕ) (x z : A) (i : ℕ) → i ≢ at → get_or (lay d at (x ∷ [])) i z ≡ get_or d i z
  lay_one_other d at x z i ne = by_le (length d) at
      (λ h. rw (lay_past d at (x ∷ []) h))
      (λ h. rw (lay_one d at x h) (get_or-set_other d at i x z ne))

  -- from the front
  pub lay_front : (d xs : List A) → length xs ≤ length d → lay d 0 xs ≡ xs ++ drop (length xs) d
  lay_front d xs h = lay_put d 0 xs (omega arith) ∙ put_front d xs

  -- what does not fit any more makes no difference
  pub lay_more : (d : List A) (at : ℕ) (xs ys : List A) → length d ≤ at + length xs → lay d at xs ≡ lay d at (xs ++ ys)
  lay_more d at xs ys h =
      let l : length (xs ++ ys) ≡ length xs + length ys = length-append xs ys in
      by_le at (length d)
      (λ k. lay_clipped d at xs k h
      ∙ rw (← take-append-le (length d - at) xs ys (omega arith)) (sym (lay_clipped d at (xs ++ ys) k (omega arith))))
      (λ k. lay_past d at xs (omega arith) ∙ sym (lay_past d at (xs ++ ys) (omega arith)))

  lay_on : (d : List A) (at : ℕ) (xs ys : List A) → at + length xs ≤ length d → lay (put d at xs) (at + length xs) ys ≡ lay d at (xs ++ ys)
  unfolding lay
  lay_on d at xs ys h = rw (length_put d at xs h, put_put d at xs ys (omega arith))

  -- two that touch are one
  pub lay_lay : (d : List A) (at : ℕ) (xs ys : List A) → lay (lay d at xs) (at + length xs) ys ≡ lay d at (xs ++ ys)
  lay_lay d at xs ys = by_le (at + length xs) (length d)
      (λ h. rw (lay_put d at xs h) (lay_on d at xs ys h))
      (λ h. lay_past (lay d at xs) (at + length xs) ys (omega (arith, length_lay d at xs)) ∙ lay_more d at xs ys (omega arith))

  -- one call after the other, as code makes them: the second goes on where the first ended
  pub lay_then : (d : List A) (at : ℕ) (xs ys : List A) {d₁ d₂ : List A} {next : ℕ} → d₁ ≡ lay d at xs → next ≡ at + length xs → d₂ ≡ lay d₁ next ys → d₂ ≡ lay d at (xs ++ ys)
  lay_then d at xs ys p q r = r ∙ rw (p, q) (lay_lay d at xs ys)

-- ---- loops that write: i elements are laid in

-- `laid d at bs i` is d with the first i of bs from `at` on
abbrev pub laid {ℓ} : {A : Type ℓ} → List A → ℕ → List A → ℕ → List A
laid d at bs i = paste d at bs i

pub laid_more : (d : List ℕ) (at : ℕ) (bs : List ℕ) (i : ℕ) → i < min (length bs) (length d - at) → set (laid d at bs i) (at + i) (get_or bs i 0) ≡ laid d at bs (i + 1)
laid_more d at bs i h = rw add-one (paste-suc d at bs i 0 (omega arith) (omega arith))

pub length_zeros : (n : ℕ) → length (zeros n) ≡ n
length_zeros n = length-replicate {A = ℕ} n 0

pub zeros_more : (d : List ℕ) (at n i : ℕ) → i < min n (length d - at) → set (laid d at (zeros n) i) (at + i) 0 ≡ laid d at (zeros n) (i + 1)
zeros_more d at n i h =
    let l = length_zeros n in
    rw (get_or-replicate {A = ℕ} n i 0 0 (omega arith)) at (laid_more d at (zeros n) i (omega arith))

pub lay_zeros : (d : List ℕ) (at n : ℕ) → lay d at (zeros n) ≡ laid d at (zeros n) (min n (length d - at))
lay_zeros d at n = lay_paste d at (zeros n) ∙ rw (length_zeros n)

-- ---- numbers and their bytes

pub length_be32 : (v : ℕ) → length (be32 v) ≡ 4
unfolding be32
length_be32 v = refl

pub length_be64 : (v : ℕ) → length (be64 v) ≡ 8
unfolding be64
length_be64 v = rw (length-append, length_be32 (v / 4294967296), length_be32 (v % 4294967296))

pub word_small : (s : Bytes) (at : ℕ) → AreBytes s → word_at s at < 4294967296
unfolding word_at
word_small s at o = omega (arith, o at, o (at + 1), o (at + 2), o (at + 3))

-- a number in a part is the number in the whole
pub word_part : (s : Bytes) (at n k : ℕ) → k + 4 ≤ n → word_at (part s at n) k ≡ word_at s (at + k)
unfolding word_at
word_part s at n k h =
    rw (byte_part s at n k (omega arith), byte_part s at n (k + 1) (omega arith), byte_part s at n (k + 2) (omega arith), byte_part s at n (k + 3) (omega arith), add_assoc at k 1, add_assoc at k 2, add_assoc at k 3)

pub long_part : (s : Bytes) (at n k : ℕ) → k + 8 ≤ n → long_at (part s at n) k ≡ long_at s (at + k)
unfolding long_at
long_part s at n k h = rw (word_part s at n k (omega arith), word_part s at n (k + 4) (omega arith), add_assoc at k 4)

-- the bytes of a number, read, are the number
four_digits : (v p q r a b c : ℕ) → p * 256 + a ≡ v → q * 256 + b ≡ p → r * 256 + c ≡ q → r * 16777216 + c * 65536 + b * 256 + a ≡ v
four_digits v p q r a b c e f g = omega arith

top_digit : (v p q r a b c : ℕ) → p * 256 + a ≡ v → q * 256 + b ≡ p → r * 256 + c ≡ q → v < 4294967296 → r < 256
top_digit v p q r a b c e f g h = omega arith

be32_reads : (v : ℕ) → v < 4294967296 → word_at (be32 v) 0 ≡ v
unfolding word_at be32
be32_reads v h =
    let e : v / 65536 ≡ v / 256 / 256 = sym (div-div-eq-div-mul v 256 256) in
    let f : v / 16777216 ≡ v / 256 / 256 / 256 = sym (ap (λ (q : ℕ). q / 256) (div-div-eq-div-mul v 256 256) ∙ div-div-eq-div-mul v 65536 256) in
    let a = div-add-mod' v 256 in
    let b = div-add-mod' (v / 256) 256 in
    let c = div-add-mod' (v / 256 / 256) 256 in
    let top : v / 256 / 256 / 256 % 256 ≡ v / 256 / 256 / 256 = mod-eq_of_lt (top_digit v _ _ _ _ _ _ a b c h) in
    rw (e, f, top) (four_digits v _ _ _ _ _ _ a b c)

pub word_be32 : (s : Bytes) (at v : ℕ) → v < 4294967296 → part s at 4 ≡ be32 v → word_at s at ≡ v
word_be32 s at v h e = sym (rw add-zero at (word_part s at 4 0 (omega arith))) ∙ rw e (be32_reads v h)

-- and a number read, as bytes, is what stands there
be32_joined : (a b c e : ℕ) → a < 256 → b < 256 → c < 256 → e < 256 → be32 (a * 16777216 + b * 65536 + c * 256 + e) ≡ a ∷ b ∷ c ∷ e ∷ []
unfolding be32
be32_joined a b c e ha hb hc he =
    let v : ℕ = a * 16777216 + b * 65536 + c * 256 + e in
    let p : v / 16777216 % 256 ≡ a = omega arith in
    let q : v / 65536 % 256 ≡ b = omega arith in
    let r : v / 256 % 256 ≡ c = omega arith in
    let t : v % 256 ≡ e = omega arith in
    rw (p, q, r, t)

pub be32_word : (s : Bytes) (at : ℕ) → AreBytes s → at + 4 ≤ length s → be32 (word_at s at) ≡ part s at 4
unfolding word_at
be32_word s at o h =
    be32_joined (byte_at s at) (byte_at s (at + 1)) (byte_at s (at + 2)) (byte_at s (at + 3)) (o at) (o (at + 1)) (o (at + 2)) (o (at + 3))
    ∙ sym (four_bytes s at h)

-- the same of eight bytes
first_word : (a b : ℕ) → part (be32 a ++ be32 b) 0 4 ≡ be32 a
unfolding be32
first_word a b = refl

second_word : (a b : ℕ) → part (be32 a ++ be32 b) 4 4 ≡ be32 b
unfolding be32
second_word a b = refl

be64_reads : (v : ℕ) → v < 18446744073709551616 → long_at (be64 v) 0 ≡ v
unfolding long_at be64
be64_reads v h =
    let a : ℕ = v / 4294967296 in
    let b : ℕ = v % 4294967296 in
    rw (word_be32 (be32 a ++ be32 b) 0 a (omega arith) (first_word a b), word_be32 (be32 a ++ be32 b) 4 b (omega arith) (second_word a b))
    (div-add-mod' v 4294967296)

pub long_be64 : (s : Bytes) (at v : ℕ) → v < 18446744073709551616 → part s at 8 ≡ be64 v → long_at s at ≡ v
long_be64 s at v h e = sym (rw add-zero at (long_part s at 8 0 (omega arith))) ∙ rw e (be64_reads v h)

pub be64_long : (s : Bytes) (at : ℕ) → AreBytes s → at + 8 ≤ length s → be64 (long_at s at) ≡ part s at 8
unfolding long_at be64
be64_long s at o h =
    let k = word_small s (at + 4) o in
    let e : (word_at s at * 4294967296 + word_at s (at + 4)) / 4294967296 ≡ word_at s at = omega arith in
    let f : (word_at s at * 4294967296 + word_at s (at + 4)) % 4294967296 ≡ word_at s (at + 4) = omega arith in
    rw (e, f, be32_word s at o (omega arith), be32_word s (at + 4) o (omega arith)) (part_part s at 4 4)

-- past the end
pub word_past : (s : Bytes) (at : ℕ) → length s ≤ at → word_at s at ≡ 0
unfolding word_at
word_past s at h =
    let past : (i : ℕ) → length s ≤ i → byte_at s i ≡ 0 = λ i k. get_or-eq_default s 0 k in
    rw (past at h, past (at + 1) (omega arith), past (at + 2) (omega arith), past (at + 3) (omega arith))

-- four stores, as code makes them
pub lay_four : (d : List ℕ) (at a b c e : ℕ) → at + 4 ≤ length d → set (set (set (set d at a) (at + 1) b) (at + 2) c) (at + 3) e ≡ lay d at (a ∷ b ∷ c ∷ e ∷ [])
lay_four d at a b c e h =
    rw (lay_put d at (a ∷ b ∷ c ∷ e ∷ []) h, put_eq d at (a ∷ b ∷ c ∷ e ∷ []), add-one, add-two, add-three) (sets-eq (a ∷ b ∷ c ∷ e ∷ []) d at h)

-- two words are a long one, and the first is all of it where the buffer ends with it
pub lay_long : (d : List ℕ) (at v : ℕ) → lay (lay d at (be32 (v / 4294967296))) (at + 4) (be32 (v % 4294967296)) ≡ lay d at (be64 v)
unfolding be64
lay_long d at v = rw (length_be32 (v / 4294967296)) at (lay_lay d at (be32 (v / 4294967296)) (be32 (v % 4294967296)))

pub lay_long_cut : (d : List ℕ) (at v : ℕ) → length d ≤ at + 4 → lay d at (be32 (v / 4294967296)) ≡ lay d at (be64 v)
unfolding be64
lay_long_cut d at v h =
    lay_more d at (be32 (v / 4294967296)) (be32 (v % 4294967296)) (omega (arith, length_be32 (v / 4294967296)))

-- ---- padding

pub padded_le : (n : ℕ) → n ≤ padded n
padded_le n = omega arith

pub length_filled : (bs : Bytes) → length (filled bs) ≡ padded (length bs)
unfolding filled
length_filled bs = rw (length-append, length_zeros) (omega (arith, padded_le (length bs)))

-- ---- the bytes before the first of a kind

module _ (byte : ℕ) where
  -- such a byte at i: nothing stands before it
  pub to_here : (s : Bytes) (i : ℕ) → i < length s → byte_at s i ≡ byte → length_to byte (drop i s) ≡ 0
  unfolding length_to
  to_here s i h e = rw (drop-cons s i 0, eq-eqb (byte_at s i) byte e, length_to)

  -- another byte at i: one more than from i + 1 on
  pub to_more : (s : Bytes) (i : ℕ) → i < length s → (byte_at s i ≡ byte → ⊥) → length_to byte (drop i s) ≡ length_to byte (drop (i + 1) s) + 1
  unfolding length_to
  to_more s i h e = rw (drop-cons s i 0, ne_eqb (byte_at s i) byte e, length_to) (rw (add-one i) (sym (add-one _)))

  pub to_end : (s : Bytes) (i : ℕ) → length s ≤ i → length_to byte (drop i s) ≡ 0
  unfolding length_to
  to_end s i h = rw drop_of_length-le

  -- by the test
  pub to_stop : (b : ℕ) (s : Bytes) → eqb b byte ≡ true → length_to byte (b ∷ s) ≡ 0
  unfolding length_to
  to_stop b s e = rw (e, length_to)

  pub to_on : (b : ℕ) (s : Bytes) → eqb b byte ≡ false → length_to byte (b ∷ s) ≡ suc (length_to byte s)
  unfolding length_to
  to_on b s e = rw (e, length_to)

  pub to_le : (s : Bytes) → length_to byte s ≤ length s
  unfolding length_to
  to_le [] = omega arith
  to_le (b ∷ s) = by_test (eqb b byte)
      (λ e. rw (to_stop b s e) (omega arith))
      (λ e. omega (arith, to_on b s e, to_le s))

  -- inside, such a byte stands there
  pub to_byte : (s : Bytes) → length_to byte s < length s → byte_at s (length_to byte s) ≡ byte
  to_byte [] h = absurd (omega arith)
  to_byte (b ∷ s) h = by_test (eqb b byte)
      (λ e. rw (to_stop b s e) (eqb-true b byte e))
      (λ e. let q = to_on b s e in rw q (to_byte s (omega arith)))

-- ---- NUL

pub nul_stop : (b : ℕ) (s : Bytes) → eqb b 0 ≡ true → nul_in (b ∷ s) ≡ 0
nul_stop = to_stop 0

pub nul_on : (b : ℕ) (s : Bytes) → eqb b 0 ≡ false → nul_in (b ∷ s) ≡ suc (nul_in s)
nul_on = to_on 0

pub nul_cons : (b : ℕ) (s : Bytes) → (b ≡ 0 → ⊥) → nul_in (b ∷ s) ≡ suc (nul_in s)
nul_cons b s h = to_on 0 b s (ne_eqb b 0 h)

pub nul_first : (s : Bytes) → nul_in (0 ∷ s) ≡ 0
nul_first s = to_stop 0 0 s refl

pub nul_le : (s : Bytes) → nul_in s ≤ length s
nul_le = to_le 0

-- where one stands inside, it is a NUL
pub nul_byte : (s : Bytes) → nul_in s < length s → byte_at s (nul_in s) ≡ 0
nul_byte = to_byte 0

-- and none stands before it
pub nul_before : (s : Bytes) (i : ℕ) → i < nul_in s → byte_at s i ≡ 0 → ⊥
nul_before [] i h e = omega (arith, nul_le [])
nul_before (b ∷ s) zero h e = let q : nul_in (b ∷ s) ≡ 0 = rw e (nul_first s) in omega arith
nul_before (b ∷ s) (suc i) h e = by_test (eqb b 0)
    (λ t. let q : nul_in (b ∷ s) ≡ 0 = rw (eqb-true b 0 t) (nul_first s) in omega arith)
    (λ t. nul_before s i (omega (arith, nul_cons b s (eqb-false b 0 t))) e)

-- a name closed by NUL, whatever stands behind it
pub nul_closed : (name rest : Bytes) → ((i : ℕ) → i < length name → byte_at name i ≡ 0 → ⊥) → nul_in (name ++ 0 ∷ rest) ≡ length name
nul_closed [] rest h = nul_first rest
nul_closed (b ∷ name) rest h =
    nul_cons b (name ++ 0 ∷ rest) (h 0 (omega arith)) ∙ ap suc (nul_closed name rest (λ i k. h (suc i) (omega arith)))

pub has_nul_not : (s : Bytes) → ((i : ℕ) → i < length s → byte_at s i ≡ 0 → ⊥) → has_nul s ≡ false
has_nul_not s h = not_passed (has_nul s) (λ t. let k = ltb-true (nul_in s) (length s) t in h (nul_in s) k (nul_byte s k))

-- ---- comparing

begins_step : (p s : Bytes) (i : ℕ) → i < length p → i < length s → begins (drop i p) (drop i s) ≡ eqb (byte_at p i) (byte_at s i) && begins (drop (i + 1) p) (drop (i + 1) s)
unfolding begins
begins_step p s i h k = rw (add-one, drop-cons p i 0 h, drop-cons s i 0 k)

-- a loop over both: the bytes at i agree, or they do not, or p is done
pub begins_more : (p s : Bytes) (i : ℕ) → i < length p → i < length s → byte_at p i ≡ byte_at s i → begins (drop i p) (drop i s) ≡ begins (drop (i + 1) p) (drop (i + 1) s)
begins_more p s i h k e = rw (eq-eqb _ _ e) at (begins_step p s i h k)

pub begins_not : (p s : Bytes) (i : ℕ) → i < length p → i < length s → (byte_at p i ≡ byte_at s i → ⊥) → begins (drop i p) (drop i s) ≡ false
begins_not p s i h k e = rw (ne_eqb _ _ e) at (begins_step p s i h k)

pub begins_done : (p s : Bytes) (i : ℕ) → length p ≤ i → begins (drop i p) (drop i s) ≡ true
unfolding begins
begins_done p s i h = rw (drop_of_length-le p h)

-- what p begins is no shorter than p
pub begins_length : (p s : Bytes) → begins p s ≡ true → length p ≤ length s
unfolding begins
begins_length [] s h = omega arith
begins_length (x ∷ p) [] h = never true refl (sym h)
begins_length (x ∷ p) (y ∷ s) h = omega (arith, begins_length p s (and_true (eqb x y) (begins p s) h).1)

pub begins_short : (p s : Bytes) → length s < length p → begins p s ≡ false
begins_short p s h = not_passed (begins p s) (λ e. omega (arith, begins_length p s e))

pub begins_nil : (p : Bytes) → begins p [] ≡ eqb (length p) 0
unfolding begins
begins_nil [] = refl
begins_nil (x ∷ p) = sym (ne_eqb (suc (length p)) 0 (λ (e : suc (length p) ≡ 0). omega arith))

-- p begins s exactly if s is p and something behind it
pub begins_split : (p s : Bytes) → begins p s ≡ true → s ≡ p ++ drop (length p) s
unfolding begins
begins_split [] s h = refl
begins_split (x ∷ p) [] h = never true refl (sym h)
begins_split (x ∷ p) (y ∷ s) h =
    let b = and_true (eqb x y) (begins p s) h in
    ap₂ (λ (z : ℕ) (l : Bytes). z ∷ l) (sym (eqb-true x y b.0)) (begins_split p s b.1)

pub begins_append : (p s : Bytes) → begins p (p ++ s) ≡ true
unfolding begins
begins_append [] s = refl
begins_append (x ∷ p) s = rw (eq-eqb x x refl) (begins_append p s)

-- "whole and exact" is equality
pub same_eq : (a b : Bytes) → same a b ≡ true → a ≡ b
unfolding same
same_eq [] [] h = refl
same_eq [] (y ∷ b) h = never true refl (sym h)
same_eq (x ∷ a) [] h = never true refl (sym h)
same_eq (x ∷ a) (y ∷ b) h =
    let t = and_true (eqb x y) (same a b) h in
    ap₂ (λ (z : ℕ) (l : Bytes). z ∷ l) (eqb-true x y t.0) (same_eq a b t.1)

pub same_refl : (a : Bytes) → same a a ≡ true
unfolding same
same_refl [] = refl
same_refl (x ∷ a) = rw (eq-eqb x x refl) (same_refl a)

pub eq_same : (a b : Bytes) → a ≡ b → same a b ≡ true
eq_same a b e = rw e (same_refl b)

pub ne_same : (a b : Bytes) → (a ≡ b → ⊥) → same a b ≡ false
ne_same a b h = not_passed (same a b) (λ e. h (same_eq a b e))

-- of one length, beginning is being the same
pub begins_same : (a b : Bytes) → length a ≡ length b → begins a b ≡ same a b
begins_same a b l = both_ways (begins a b) (same a b)
    (λ h. eq_same a b (sym (begins_split a b h ∙ rw (drop_of_length-le b {i = length a} (omega arith)) (append-nil a))))
    (λ h. let e : b ≡ a ++ [] = sym (same_eq a b h) ∙ sym (append-nil a) in rw e (begins_append a []))

-- an ending is the bytes at the end
ends_split : (e s : Bytes) → ends e s ≡ true → s ≡ reverse (drop (length (reverse e)) (reverse s)) ++ e
ends_split e s h =
    sym (reverse-reverse s)
    ∙ ap reverse (begins_split (reverse e) (reverse s) h)
    ∙ reverse-append (reverse e) (drop (length (reverse e)) (reverse s))
    ∙ ap (λ (l : Bytes). reverse (drop (length (reverse e)) (reverse s)) ++ l) (reverse-reverse e)

pub ends_append : (s e : Bytes) → ends e (s ++ e) ≡ true
ends_append s e = rw (reverse-append s e) (begins_append (reverse e) (reverse s))

behind : (t e s : Bytes) → s ≡ t ++ e → e ≡ drop (length s - length e) s
behind t e s q =
    let l : length s ≡ length t + length e = ap length q ∙ length-append t e in
    let n : length t ≡ length s - length e = omega arith in
    sym (ap (drop (length s - length e)) q ∙ drop_at t e (length s - length e) n)

pub ends_at : (e s : Bytes) → length e ≤ length s → ends e s ≡ same e (drop (length s - length e) s)
ends_at e s h = both_ways (ends e s) (same e (drop (length s - length e) s))
    (λ t. eq_same e (drop (length s - length e) s) (behind (reverse (drop (length (reverse e)) (reverse s))) e s (ends_split e s t)))
    (λ t. let k : ℕ = length s - length e in
    let q : s ≡ take k s ++ e = sym (take-append-drop k s) ∙ ap (λ (l : Bytes). take k s ++ l) (sym (same_eq e (drop k s) t)) in
    rw q (ends_append (take k s) e))

pub ends_short : (e s : Bytes) → length s < length e → ends e s ≡ false
ends_short e s h = begins_short (reverse e) (reverse s) (omega (arith, length-reverse e, length-reverse s))

holds_step : (p s : Bytes) (i : ℕ) → i < length s → holds p (drop i s) ≡ begins p (drop i s) || holds p (drop (i + 1) s)
unfolding holds
holds_step p s i h = rw (add-one, drop-cons s i 0)

-- a loop over s: p begins what is left, or it does not, or nothing is left
pub holds_here : (p s : Bytes) (i : ℕ) → i < length s → begins p (drop i s) ≡ true → holds p (drop i s) ≡ true
holds_here p s i h e = rw (holds_step p s i h, e)

pub holds_more : (p s : Bytes) (i : ℕ) → i < length s → begins p (drop i s) ≡ false → holds p (drop i s) ≡ holds p (drop (i + 1) s)
holds_more p s i h e = rw (holds_step p s i h, e)

pub holds_end : (p s : Bytes) (i : ℕ) → length s ≤ i → holds p (drop i s) ≡ eqb (length p) 0
unfolding holds
holds_end p s i h = rw (drop_of_length-le s h) (begins_nil p)
