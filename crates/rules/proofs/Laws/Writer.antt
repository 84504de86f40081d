-- The laws of what the writer writes: tokens laid into a buffer part by part, their lengths, the walk over the strings block.
use Rattle.std.specs.Prelude.{◌≡◌, refl, Bool, true, false, not, ◌&&◌, ◌||◌, List, [], ◌∷◌, ◌++◌, ℕ, suc, ◌+◌, ◌-◌, ◌*◌, ◌/◌, ◌%◌, ◌≤◌, ◌<◌, eqb, take, drop, get_or}
use Rattle.std.proofs.Common.{sym, ap, ◌∙◌, append_assoc, append-nil, arith, add-one, length-append, take-append-drop, drop_of_length-le, take-suc, eq-eqb, ne_eqb}
use Rattle.std.proofs.Math.ListN.{length, length-take}
use Rattle.std.proofs.Math.Seq.{drop-cons, get_or-take, length-take-le}
use Rattle.rules.specs.Octets.{Bytes, byte_at, be32, be64, words32, words64, zeros, padded, filled, lay, nul_in, closed, begins}
use Rattle.rules.specs.Lists.{one_of}
use Rattle.rules.specs.Writer.{begin_bytes, end_bytes, property_bytes, name_from, name_offset, bad_list}
use Rattle.rules.proofs.Laws.Tests.{by_test, and_nothing, eqb_sym}
use Rattle.rules.proofs.Laws.Octets.{lay_lay, lay_more, length_be32, length_be64, length_filled, nul_stop, nul_on}

-- ---- laid part by part

-- one part behind the other
pub laid_on {ℓ} : {A : Type ℓ} (d : List A) (at : ℕ) (xs ys : List A) {d₁ d₂ : List A} {n : ℕ} → d₁ ≡ lay d at xs → n ≡ at + length xs → d₂ ≡ lay d₁ n ys → d₂ ≡ lay d at (xs ++ ys)
laid_on d at xs ys e h f = f ∙ rw (e, h) (lay_lay d at xs ys)

-- ---- padding

pub filled_eq : (bs : Bytes) → filled bs ≡ bs ++ zeros (padded (length bs) - length bs)
unfolding filled
filled_eq bs = refl

pub length_closed : (name : Bytes) → length (closed name) ≡ length name + 1
length_closed name = length-append name (0 ∷ [])

zeros_suc : (n : ℕ) → 0 ∷ zeros n ≡ zeros (n + 1)
zeros_suc n = rw (add-one n)

-- the closing NUL is one zero more
pub filled_closed : (name : Bytes) → filled (closed name) ≡ name ++ zeros (padded (length name + 1) - length name)
unfolding filled
filled_closed name =
    let e : padded (length name + 1) - (length name + 1) + 1 ≡ padded (length name + 1) - length name = omega arith in
    rw (length_closed name, append_assoc, zeros_suc (padded (length name + 1) - (length name + 1)), e)

-- what is a multiple of 4 already gets nothing
pub filled_whole : (bs : Bytes) (k : ℕ) → length bs ≡ k * 4 → filled bs ≡ bs
unfolding filled
filled_whole bs k h =
    let e : padded (length bs) - length bs ≡ 0 = omega arith in
    rw (e, append-nil)

-- ---- numbers

-- of a number that does not fit, the low 32 bits are written
pub be32_low : (v : ℕ) → be32 (v % 4294967296) ≡ be32 v
unfolding be32
be32_low v =
    let a : v % 4294967296 / 16777216 % 256 ≡ v / 16777216 % 256 = omega arith in
    let b : v % 4294967296 / 65536 % 256 ≡ v / 65536 % 256 = omega arith in
    let c : v % 4294967296 / 256 % 256 ≡ v / 256 % 256 = omega arith in
    let d : v % 4294967296 % 256 ≡ v % 256 = omega arith in
    rw (a, b, c, d)

pub length_words32 : (vs : List ℕ) → length (words32 vs) ≡ length vs * 4
unfolding words32
length_words32 [] = refl
length_words32 (v ∷ vs) = rw (length-append, length_be32 v, length_words32 vs) (omega arith)

pub length_words64 : (vs : List ℕ) → length (words64 vs) ≡ length vs * 8
unfolding words64
length_words64 [] = refl
length_words64 (v ∷ vs) = rw (length-append, length_be64 v, length_words64 vs) (omega arith)

pub words32_append : (a b : List ℕ) → words32 (a ++ b) ≡ words32 a ++ words32 b
unfolding words32
words32_append [] b = refl
words32_append (v ∷ a) b = rw (words32_append a b, append_assoc)

pub words64_append : (a b : List ℕ) → words64 (a ++ b) ≡ words64 a ++ words64 b
unfolding words64
words64_append [] b = refl
words64_append (v ∷ a) b = rw (words64_append a b, append_assoc)

pub words32_one : (v : ℕ) → words32 (v ∷ []) ≡ be32 v
unfolding words32
words32_one v = append-nil (be32 v)

pub words64_one : (v : ℕ) → words64 (v ∷ []) ≡ be64 v
unfolding words64
words64_one v = append-nil (be64 v)

-- a loop over numbers: one more is laid in
pub words32_more : (vs : List ℕ) (i : ℕ) → i < length vs → words32 (take (i + 1) vs) ≡ words32 (take i vs) ++ be32 (get_or vs i 0)
words32_more vs i h = rw (add-one i, take-suc vs i 0 h, words32_append, words32_one)

pub words64_more : (vs : List ℕ) (i : ℕ) → i < length vs → words64 (take (i + 1) vs) ≡ words64 (take i vs) ++ be64 (get_or vs i 0)
words64_more vs i h = rw (add-one i, take-suc vs i 0 h, words64_append, words64_one)

-- the first i of them are all that fits
pub words32_cut : (d : Bytes) (at : ℕ) (vs : List ℕ) (i : ℕ) → length d ≤ at + length (words32 (take i vs)) → lay d at (words32 (take i vs)) ≡ lay d at (words32 vs)
words32_cut d at vs i h =
    lay_more d at (words32 (take i vs)) (words32 (drop i vs)) h
    ∙ ap (lay d at) (sym (words32_append (take i vs) (drop i vs)) ∙ ap words32 (take-append-drop i vs))

pub words64_cut : (d : Bytes) (at : ℕ) (vs : List ℕ) (i : ℕ) → length d ≤ at + length (words64 (take i vs)) → lay d at (words64 (take i vs)) ≡ lay d at (words64 vs)
words64_cut d at vs i h =
    lay_more d at (words64 (take i vs)) (words64 (drop i vs)) h
    ∙ ap (lay d at) (sym (words64_append (take i vs) (drop i vs)) ∙ ap words64 (take-append-drop i vs))

-- ---- the lengths of tokens

pub length_begin : (name : Bytes) → length (begin_bytes name) ≡ 4 + padded (length name + 1)
unfolding begin_bytes
length_begin name = rw (length-append, length_be32 1, length_filled (closed name), length_closed name)

pub length_end : length end_bytes ≡ 4
unfolding end_bytes
length_end = length_be32 2

pub length_property : (offset : ℕ) (value : Bytes) → length (property_bytes offset value) ≡ 12 + padded (length value)
unfolding property_bytes
length_property offset value =
    rw (length-append (be32 3), length-append (be32 (length value)), length-append (be32 offset), length_be32 3, length_be32 (length value), length_be32 offset, length_filled value) (omega arith)

-- what stands before a property's value
abbrev pub head_bytes : ℕ → ℕ → Bytes
head_bytes len offset = be32 3 ++ (be32 len ++ be32 offset)

pub length_head : (len offset : ℕ) → length (head_bytes len offset) ≡ 12
length_head len offset = rw (length-append (be32 3), length-append (be32 len), length_be32 3, length_be32 len, length_be32 offset)

pub property_bytes_lem : (offset : ℕ) (value : Bytes) → property_bytes offset value ≡ head_bytes (length value) offset ++ filled value
unfolding property_bytes
property_bytes_lem offset value = simp append_assoc

-- ---- the walk over the strings block

-- a name closed by NUL begins s: the name does, and the byte behind it is a NUL
pub begins_closed : (name s : Bytes) → length name < length s → begins (closed name) s ≡ begins name s && eqb (byte_at s (length name)) 0
unfolding begins
begins_closed name [] h = absurd (omega arith)
begins_closed [] (y ∷ s) h = and_nothing (eqb 0 y) ∙ eqb_sym 0 y
begins_closed (x ∷ name) (y ∷ s) h = go (eqb x y) (begins_closed name s (omega arith))
  where
    go : (t : Bool) → begins (closed name) s ≡ begins name s && eqb (byte_at s (length name)) 0 → (t && begins (closed name) s) ≡ ((t && begins name s) && eqb (byte_at s (length name)) 0)
    go true e = e
    go false e = refl

-- the string that begins here is the name
pub name_here : (name s : Bytes) → 0 < length s → begins (closed name) s ≡ true → name_offset name s ≡ 0
unfolding name_from
name_here name [] h e = refl
name_here name (b ∷ s) h e = rw (e, name_from)

from_inside : (name : Bytes) (b : ℕ) (s : Bytes) → name_from false name (b ∷ s) ≡ suc (name_from (eqb b 0) name s)
unfolding name_from
from_inside name b s = refl

-- inside a string nothing is found up to its NUL
name_inside : (name s : Bytes) → nul_in s < length s → name_from false name s ≡ nul_in s + 1 + name_offset name (drop (nul_in s + 1) s)
name_inside name [] h = absurd (omega arith)
name_inside name (b ∷ s) h = by_test (eqb b 0)
    (λ e. rw (from_inside name b s, nul_stop b s e, e) (omega arith))
    (λ e. let k : nul_in s < length s = omega (arith, nul_on b s e) in
    rw (from_inside name b s, nul_on b s e, e, name_inside name s k, add-one (suc (nul_in s)), add-one (nul_in s)) (omega arith))

name_unclosed : (name s : Bytes) → length s ≤ nul_in s → name_from false name s ≡ length s
unfolding name_from
name_unclosed name [] h = refl
name_unclosed name (b ∷ s) h = by_test (eqb b 0)
    (λ e. absurd (omega (arith, nul_stop b s e)))
    (λ e. rw (from_inside name b s, e) (ap suc (name_unclosed name s (omega (arith, nul_on b s e)))))

from_start : (name : Bytes) (b : ℕ) (s : Bytes) → begins (closed name) (b ∷ s) ≡ false → name_from true name (b ∷ s) ≡ name_from false name (b ∷ s)
unfolding name_from
from_start name b s e = rw (e, name_from)

-- the string that begins here is another: on behind its NUL
pub name_past : (name s : Bytes) → begins (closed name) s ≡ false → nul_in s < length s → name_offset name s ≡ nul_in s + 1 + name_offset name (drop (nul_in s + 1) s)
name_past name [] e h = absurd (omega arith)
name_past name (b ∷ s) e h = from_start name b s e ∙ name_inside name (b ∷ s) h

-- it has no NUL: it is none, and the name is nowhere
pub name_nowhere : (name s : Bytes) → begins (closed name) s ≡ false → length s ≤ nul_in s → name_offset name s ≡ length s
unfolding name_from
name_nowhere name [] e h = refl
name_nowhere name (b ∷ s) e h = from_start name b s e ∙ name_unclosed name (b ∷ s) h

from_le : (t : Bool) (name s : Bytes) → name_from t name s ≤ length s
unfolding name_from
from_le t name [] = omega arith
from_le t name (b ∷ s) = by_test (t && begins (closed name) (b ∷ s))
    (λ e. rw (e, name_from) (omega arith))
    (λ e. rw (e, name_from) (omega (arith, from_le (eqb b 0) name s)))

pub offset_le : (name s : Bytes) → name_offset name s ≤ length s
offset_le name s = from_le true name s

-- ---- a list of strings

pub bad_none : (s : Bytes) → length s ≡ 0 → bad_list s ≡ false
unfolding bad_list
bad_none [] h = refl
bad_none (b ∷ s) h = absurd (omega arith)

-- its last byte decides
pub bad_last : (s : Bytes) → 0 < length s → bad_list s ≡ not (eqb (byte_at s (length s - 1)) 0)
unfolding bad_list
bad_last [] h = absurd (omega arith)
bad_last (b ∷ []) h = refl
bad_last (b ∷ c ∷ s) h =
    let e : length (b ∷ c ∷ s) - 1 ≡ suc (length (c ∷ s) - 1) = omega arith in
    rw e (bad_last (c ∷ s) (omega arith))

-- ---- a number among the first n

module _ (b : ℕ) (s : List ℕ) (n i : ℕ) where
  one_of_step : i < n → n ≤ length s → one_of b (drop i (take n s)) ≡ eqb b (get_or s i 0) || one_of b (drop (i + 1) (take n s))
  unfolding one_of
  one_of_step h k =
      let l : i < length (take n s) = omega (arith, length-take-le n s k) in
      rw (add-one i, drop-cons (take n s) i 0 l, get_or-take n s i 0 h)

  pub one_of_take_here : i < n → n ≤ length s → b ≡ get_or s i 0 → one_of b (drop i (take n s)) ≡ true
  one_of_take_here h k e = rw (one_of_step h k, eq-eqb b (get_or s i 0) e)

  pub one_of_more : i < n → n ≤ length s → (b ≡ get_or s i 0 → ⊥) → one_of b (drop i (take n s)) ≡ one_of b (drop (i + 1) (take n s))
  one_of_more h k e = rw (one_of_step h k, ne_eqb b (get_or s i 0) e)

  pub one_of_take_end : n ≤ i → one_of b (drop i (take n s)) ≡ false
  unfolding one_of
  one_of_take_end h = rw (drop_of_length-le (take n s) {i = i} (omega (arith, length-take n s)))
