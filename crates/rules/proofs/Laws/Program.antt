-- The laws of the command program's texts: lines from a place on without their fuel, decimal numbers read and printed, and lists
-- that are laid into a buffer part by part.
use Rattle.std.specs.Prelude.{◌≡◌, refl, true, false, ◌&&◌, List, [], ◌∷◌, ◌++◌, ℕ, zero, suc, ◌+◌, ◌-◌, ◌*◌, ◌/◌, ◌%◌, ◌^◌, ◌≤◌, ◌<◌, leb, ltb, length, take, drop, if◌then◌else◌}
use Rattle.std.proofs.Common.{sym, ap, ◌∙◌, append_assoc, append-nil, add_assoc, zero-add, arith, add-one, length-append, length-drop, drop_of_length-le, drop-drop}
use Rattle.std.proofs.Math.Seq.{drop-cons}
use borrow.Author.Tests.{eq-eqb, ne_eqb, lt-leb, le-leb, ltb-false, lt-ltb, le-ltb}
use Rattle.rules.specs.Octets.{Bytes, byte_at, part, lay}
use Rattle.rules.specs.Lists.{every}
use Rattle.rules.specs.Outcome.{passes, refuses}
use Rattle.rules.specs.Program.{line_end, Line, lines_from, lines_of, Said, configures, excludes, names, other, decimal_after, digit, decimal_said, line_said, is_other, lines_judged, configured_by, excluded_by, named_by, digits_from, decimal}
use Rattle.rules.proofs.Laws.Tests.{by_test}
use Rattle.rules.proofs.Laws.Octets.{lay_nil, lay_lay, to_le}
use Rattle.rules.specs.Laws.Program.{lines_at}

-- ---- the lines from a place on

-- any two fuels that are enough agree
pub lines_enough : (f g offset : ℕ) (bs : Bytes) → length bs ≤ f → length bs ≤ g → lines_from f offset bs ≡ lines_from g offset bs
unfolding lines_from
lines_enough zero zero offset bs hf hg = refl
lines_enough zero (suc g) offset [] hf hg = refl
lines_enough zero (suc g) offset (b ∷ bs) hf hg = absurd (let z : ⊥ = omega arith in z)
lines_enough (suc f) zero offset [] hf hg = refl
lines_enough (suc f) zero offset (b ∷ bs) hf hg = absurd (let z : ⊥ = omega arith in z)
lines_enough (suc f) (suc g) offset [] hf hg = refl
lines_enough (suc f) (suc g) offset (b ∷ bs) hf hg =
    let n : ℕ = line_end (b ∷ bs) in
    let l : length (drop (n + 1) (b ∷ bs)) ≡ length (b ∷ bs) - (n + 1) = length-drop (n + 1) (b ∷ bs) in
    ap (λ (r : List Line). record { offset = offset; text = take n (b ∷ bs) } ∷ r)
    (lines_enough f g (offset + n + 1) (drop (n + 1) (b ∷ bs)) (omega arith) (omega arith))

pub lines_all : (s : Bytes) → lines_of s ≡ lines_at s 0
unfolding lines_of lines_at
lines_all s = lines_enough (length s) (suc (length s)) 0 s (omega arith) (omega arith)

from_cons : (f offset : ℕ) (bs : Bytes) → 0 < length bs → lines_from (suc f) offset bs ≡ record { offset = offset; text = take (line_end bs) bs } ∷ lines_from f (offset + line_end bs + 1) (drop (line_end bs + 1) bs)
unfolding lines_from
from_cons f offset [] h = absurd (let z : ⊥ = omega arith in z)
from_cons f offset (b ∷ bs) h = refl

-- the line at a place, and then those behind it
pub lines_step : (s : Bytes) (at : ℕ) → at < length s → lines_at s at ≡ record { offset = at; text = part s at (line_end (drop at s)) } ∷ lines_at s (at + line_end (drop at s) + 1)
unfolding lines_at
lines_step s at h =
    let n : ℕ = line_end (drop at s) in
    let d : drop (n + 1) (drop at s) ≡ drop (at + n + 1) s = drop-drop (n + 1) at s ∙ ap (λ (k : ℕ). drop k s) (sym (add_assoc at n 1)) in
    from_cons (length s) at (drop at s) (omega (arith, length-drop at s))
    ∙ ap (λ (r : List Line). record { offset = at; text = part s at n } ∷ r)
    (ap (lines_from (length s) (at + n + 1)) d
    ∙ lines_enough (length s) (suc (length s)) (at + n + 1) (drop (at + n + 1) s) (omega (arith, length-drop (at + n + 1) s)) (omega (arith, length-drop (at + n + 1) s)))

-- behind the end there is none
pub lines_end : (s : Bytes) (at : ℕ) → length s ≤ at → lines_at s at ≡ []
unfolding lines_at lines_from
lines_end s at h = rw (drop_of_length-le s h)

-- a line that lacks its newline is the last, and ends where the input does
pub lines_last : (s : Bytes) (at : ℕ) → length s - at ≤ line_end (drop at s) → lines_at s (at + line_end (drop at s) + 1) ≡ lines_at s (at + line_end (drop at s))
lines_last s at h = lines_end s (at + line_end (drop at s) + 1) (omega arith) ∙ sym (lines_end s (at + line_end (drop at s)) (omega arith))

-- a line ends inside the input
pub lines_inside : (s : Bytes) (at : ℕ) → at < length s → at + line_end (drop at s) ≤ length s
lines_inside s at h = omega (arith, to_le 10 (drop at s), length-drop at s)

-- ---- 41 of the lines, one by one

pub lines_none : lines_judged [] ≡ passes
unfolding lines_judged
lines_none = refl

pub lines_fault : (l : Line) (ls : List Line) → is_other (line_said l.text) ≡ true → lines_judged (l ∷ ls) ≡ refuses 41 l.offset
unfolding lines_judged
lines_fault l ls e = rw e

pub lines_good : (l : Line) (ls : List Line) → is_other (line_said l.text) ≡ false → lines_judged (l ∷ ls) ≡ lines_judged ls
unfolding lines_judged
lines_good l ls e = rw e

-- ---- decimal numbers, as read

-- the number n so far, and digits behind it
unfoldable pub decimal_from : ℕ → Bytes → Said
decimal_from n ds = if every digit ds && ltb (decimal_after n ds) (2 ^ 64) then names (decimal_after n ds) else other

pub decimal_none : (ds : Bytes) → length ds ≡ 0 → decimal_said ds ≡ other
unfolding decimal_said
decimal_none ds h = rw (eq-eqb (length ds) 0 h)

pub decimal_some : (ds : Bytes) → (length ds ≡ 0 → ⊥) → decimal_said ds ≡ decimal_from 0 ds
unfolding decimal_said decimal_from
decimal_some ds h = rw (ne_eqb (length ds) 0 h)

module _ (s : Bytes) (i n : ℕ) (h : i < length s) where
  pub decimal_more : 48 ≤ byte_at s i → byte_at s i ≤ 57 → decimal_from n (drop i s) ≡ decimal_from (n * 10 + (byte_at s i - 48)) (drop (i + 1) s)
  unfolding decimal_from decimal_after every
  decimal_more p q = rw (add-one, drop-cons s i 0 h, le-leb 48 (byte_at s i) p, le-leb (byte_at s i) 57 q)

  pub decimal_low : byte_at s i < 48 → decimal_from n (drop i s) ≡ other
  unfolding decimal_from every
  decimal_low p = rw (drop-cons s i 0 h, lt-leb 48 (byte_at s i) p)

  pub decimal_high : 57 < byte_at s i → decimal_from n (drop i s) ≡ other
  unfolding decimal_from every
  decimal_high p = by_test (leb 48 (byte_at s i))
      (λ e. rw (drop-cons s i 0 h, e, lt-leb (byte_at s i) 57 p))
      (λ e. rw (drop-cons s i 0 h, e))

-- a number grows with each digit
after_le : (n : ℕ) (ds : Bytes) → n ≤ decimal_after n ds
unfolding decimal_after
after_le n [] = omega arith
after_le n (d ∷ ds) = omega (arith, after_le (n * 10 + (d - 48)) ds)

pub decimal_big : (n : ℕ) (ds : Bytes) → 2 ^ 64 ≤ n → decimal_from n ds ≡ other
unfolding decimal_from
decimal_big n ds h =
    let k : ltb (decimal_after n ds) (2 ^ 64) ≡ false = le-ltb (decimal_after n ds) (2 ^ 64) (omega (arith, after_le n ds)) in
    by_test (every digit ds) (λ e. rw (e, k)) (λ e. rw e)

pub decimal_done : (s : Bytes) (i n : ℕ) → length s ≤ i → n < 2 ^ 64 → decimal_from n (drop i s) ≡ names n
unfolding decimal_from decimal_after every
decimal_done s i n h k = rw (drop_of_length-le s h, lt-ltb n (2 ^ 64) k)

-- ---- lists laid part by part

-- of the whole, some is laid from the front on, and the rest is still to come
pub record Laying {A : Type 0} (whole old new : List A) (laid : ℕ) (rest : List A) : Type 0 where
  pub done : List A
  pub split : whole ≡ done ++ rest
  pub bytes : new ≡ lay old 0 done
  pub count : laid ≡ length done

module _ {A : Type 0} {whole old : List A} where
  pub laying_none : Laying whole old old 0 whole
  laying_none = record { done = []; split = refl; bytes = sym (lay_nil old 0); count = refl }

  pub laying_more : {new next : List A} {laid count : ℕ} (xs ys : List A) → Laying whole old new laid (xs ++ ys) → next ≡ lay new laid xs → count ≡ laid + length xs → Laying whole old next count ys
  laying_more xs ys l e f =
      record {
        done = l.done ++ xs;
        split = l.split ∙ sym (append_assoc l.done xs ys);
        bytes = e ∙ rw (l.bytes, l.count) (ap (λ (k : ℕ). lay (lay old 0 l.done) k xs) (sym (zero-add (length l.done))) ∙ lay_lay old 0 l.done xs);
        count = f ∙ rw (l.count, length-append l.done xs);
      }

  pub laying_bytes : {new : List A} {laid : ℕ} → Laying whole old new laid [] → new ≡ lay old 0 whole
  laying_bytes l = l.bytes ∙ rw (l.split, append-nil l.done)

  pub laying_count : {new : List A} {laid : ℕ} → Laying whole old new laid [] → laid ≡ length whole
  laying_count l = l.count ∙ rw (l.split, append-nil l.done)

-- what a line adds stands in front of what the others do
pub configured_split : (s : Said) (rest : Bytes) → configured_by s rest ≡ configured_by s [] ++ rest
configured_split (configures p) rest = rw append-nil
configured_split (excludes p) rest = refl
configured_split (names n) rest = refl
configured_split other rest = refl

pub excluded_split : (s : Said) (rest : Bytes) → excluded_by s rest ≡ excluded_by s [] ++ rest
excluded_split (configures p) rest = refl
excluded_split (excludes p) rest = rw append-nil
excluded_split (names n) rest = refl
excluded_split other rest = refl

pub named_split : (s : Said) (rest : List ℕ) → named_by s rest ≡ named_by s [] ++ rest
named_split (configures p) rest = refl
named_split (excludes p) rest = refl
named_split (names n) rest = refl
named_split other rest = refl

-- ---- decimal numbers, as printed

-- the digits of a number in front of the rest, with fuel enough
unfoldable pub digits : ℕ → Bytes → Bytes
digits n rest = digits_from (suc n) n rest

pub digits_all : (n : ℕ) → decimal n ≡ digits n []
unfolding decimal digits
digits_all n = refl

-- any two fuels that are enough agree
pub digits_enough : (f g n : ℕ) (rest : Bytes) → n < f → n < g → digits_from f n rest ≡ digits_from g n rest
unfolding digits_from
digits_enough zero g n rest hf hg = absurd (let z : ⊥ = omega arith in z)
digits_enough (suc f) zero n rest hf hg = absurd (let z : ⊥ = omega arith in z)
digits_enough (suc f) (suc g) n rest hf hg = by_test (ltb n 10)
    (λ e. rw (e, digits_from))
    (λ e. rw (e, digits_from) (digits_enough f g (n / 10) ((48 + n % 10) ∷ rest) (omega (arith, ltb-false n 10 e)) (omega (arith, ltb-false n 10 e))))

-- the last digit, and each before it
pub digits_last : (n : ℕ) (rest : Bytes) → n < 10 → digits n rest ≡ (48 + n) ∷ rest
unfolding digits digits_from
digits_last n rest h = rw (lt-ltb n 10 h, digits_from)

pub digits_more : (n : ℕ) (rest : Bytes) → 10 ≤ n → digits n rest ≡ digits (n / 10) ((48 + n % 10) ∷ rest)
unfolding digits digits_from
digits_more n rest h = rw (le-ltb n 10 h, digits_from) (digits_enough n (suc (n / 10)) (n / 10) ((48 + n % 10) ∷ rest) (omega arith) (omega arith))
