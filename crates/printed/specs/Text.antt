-- The text of an answer, from a path list as it is lent: each NUL becomes a newline. Of a list that is its paths, each closed by
-- NUL, it is the text that rules: Program defines.
use Rattle.std.specs.Prelude.{◌≡◌, refl, true, false, List, [], ◌∷◌, ◌++◌, ℕ, zero, suc, ◌+◌, ◌*◌, ◌/◌, ◌%◌, ◌^◌, ◌≤◌, ◌<◌, min, eqb, length}
use Rattle.std.proofs.Common.{ap, ap₂, ◌∙◌, append_assoc, pow-suc, arith, length-append, ne_eqb}
use Rattle.rules.specs.Octets.{Bytes, byte_at, ascii, lay}
use Rattle.rules.specs.Listing.{paths_bytes}
use Rattle.rules.specs.Program.{decimal, newline, printed_paths, printed_answer, printed_refusal}
use Rattle.rules.proofs.Laws.Tests.{by_le}
use Rattle.rules.proofs.Laws.Program.{digits, digits_all, digits_last, digits_more}

unfoldable pub in_line : ℕ → ℕ
in_line b = elim (eqb b 0) [ true ↦ 10 | false ↦ b ]

unfoldable pub in_lines : Bytes → Bytes
in_lines [] = []
in_lines (b ∷ bs) = in_line b ∷ in_lines bs

-- "paths 3", the paths, "guest 254", each in a line
unfoldable pub answer_text : (paths : ℕ) (list : Bytes) (guest : ℕ) → Bytes
answer_text paths list guest =
    ascii "paths " ++ (decimal paths ++ (newline ++ (in_lines list ++ (ascii "guest " ++ (decimal guest ++ newline)))))

-- ---- one text behind the other

-- What a call that prints does: bytes are laid into a buffer from a place on, and the next place is where they end, or the end of
-- the buffer where that comes first.
pub record Laid (old : Bytes) (at : ℕ) (bytes new : Bytes) (next : ℕ) : Type 0 where
  pub left : new ≡ lay old at bytes
  pub after : next ≡ min (at + length bytes) (length old)

-- ---- lines, byte by byte

pub in_line_nul : (b : ℕ) → b ≡ 0 → in_line b ≡ 10
unfolding in_line
in_line_nul b h = rw h

pub in_line_other : (b : ℕ) → (b ≡ 0 → ⊥) → in_line b ≡ b
unfolding in_line
in_line_other b h = rw (ne_eqb b 0 h, in_line)

pub length_lines : (s : Bytes) → length (in_lines s) ≡ length s
unfolding in_lines
length_lines [] = refl
length_lines (b ∷ s) = ap suc (length_lines s)

pub byte_lines : (s : Bytes) (i : ℕ) → i < length s → byte_at (in_lines s) i ≡ in_line (byte_at s i)
unfolding in_lines
byte_lines [] i h = absurd (let z : ⊥ = omega arith in z)
byte_lines (b ∷ s) zero h = refl
byte_lines (b ∷ s) (suc i) h = byte_lines s i (omega arith)

-- ---- lengths

few_digits : (k n : ℕ) (rest : Bytes) → n < 10 ^ suc k → length (digits n rest) ≤ suc k + length rest
few_digits zero n rest h = omega (arith, ap length (digits_last n rest (omega arith)))
few_digits (suc k) n rest h = by_le 10 n
    (λ l. let p : 10 ^ suc (suc k) ≡ 10 ^ suc k * 10 = pow-suc 10 (suc k) in
    omega (arith, ap length (digits_more n rest l), few_digits k (n / 10) ((48 + n % 10) ∷ rest) (omega arith)))
    (λ l. omega (arith, ap length (digits_last n rest l)))

-- a number of 64 bits has 20 digits at most
pub decimal_short : (n : ℕ) → n < 2 ^ 64 → length (decimal n) ≤ 20
decimal_short n h = omega (arith, ap length (digits_all n), few_digits 19 n [] (omega arith))

-- a text in a buffer that has room for it
pub refusal_short : (number place : ℕ) → number < 2 ^ 64 → place < 2 ^ 64 → length (printed_refusal number place) ≤ 53
unfolding printed_refusal ascii
refusal_short number place h k =
    simp length-append (omega (arith, decimal_short number h, decimal_short place k))

pub answer_short : (paths : ℕ) (list : Bytes) (guest : ℕ) → paths < 2 ^ 64 → guest < 2 ^ 64 → length (answer_text paths list guest) ≤ length list + 54
unfolding answer_text ascii
answer_short paths list guest h k =
    simp length-append (omega (arith, decimal_short paths h, decimal_short guest k, length_lines list))

-- ---- of paths without NUL it is the text that is defined

-- no byte is NUL
abbrev pub Plain : Bytes → Type 0
Plain s = (i : ℕ) → i < length s → byte_at s i ≡ 0 → ⊥

pub data AllPlain : List Bytes → Type 0 where
  none : AllPlain []
  more : {p : Bytes} {ps : List Bytes} → Plain p → AllPlain ps → AllPlain (p ∷ ps)

lines_plain : (s rest : Bytes) → Plain s → in_lines (s ++ rest) ≡ s ++ in_lines rest
unfolding in_lines
lines_plain [] rest h = refl
lines_plain (b ∷ s) rest h = ap₂ ◌∷◌ (in_line_other b (h 0 (omega arith))) (lines_plain s rest (λ i k. h (suc i) (omega arith)))

lines_nul : (s : Bytes) → in_lines (0 ∷ s) ≡ 10 ∷ in_lines s
unfolding in_lines
lines_nul s = ap (λ (b : ℕ). b ∷ in_lines s) (in_line_nul 0 refl)

pub lines_paths : (ps : List Bytes) → AllPlain ps → in_lines (paths_bytes ps) ≡ printed_paths ps
unfolding paths_bytes printed_paths in_lines
lines_paths [] none = refl
lines_paths (p ∷ ps) (more h hs) =
    ap in_lines (append_assoc p (0 ∷ []) (paths_bytes ps))
    ∙ lines_plain p (0 ∷ paths_bytes ps) h
    ∙ ap (λ (r : Bytes). p ++ r) (lines_nul (paths_bytes ps) ∙ ap (λ (r : Bytes). 10 ∷ r) (lines_paths ps hs))

pub answer_printed : (ps : List Bytes) (guest : ℕ) → AllPlain ps → answer_text (length ps) (paths_bytes ps) guest ≡ printed_answer ps guest
unfolding answer_text printed_answer
answer_printed ps guest h = rw (lines_paths ps h)
