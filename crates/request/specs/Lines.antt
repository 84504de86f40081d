-- The line at a place of the input, and that the lines one after the other are those of the definition.
use denote.Ref.{Bor}
use Rattle.std.specs.Prelude.{◌≡◌, List, [], ◌∷◌, ℕ, ◌+◌, ◌-◌, ◌≤◌, ◌<◌, ltb, length, drop, if◌then◌else◌, Option, Some, None}
use Rattle.std.proofs.Common.{sym, ap, ◌∙◌, subst, arith, ltb-true, ltb-false}
use Rattle.rules.specs.Octets.{Bytes, part}
use Rattle.rules.specs.Program.{line_end}
use Rattle.rules.specs.Program as program
use Rattle.rules.proofs.Laws.Tokens.{if_by}
use Rattle.rules.specs.Laws.Program.{lines_at}
use Rattle.rules.proofs.Laws.Program.{lines_step, lines_end, lines_last, lines_inside}
use Rattle.request.specs.declared.Line.{Line}
use Rattle.request.specs.declared.Lines.{Lines}

-- a line of n bytes, of which `left` are left: the next one begins behind its newline, or at the end where it has none
unfoldable pub text_of : (at n left : ℕ) → Line
text_of at n left = record { len = n; next = if ltb n left then at + n + 1 else at + n }

unfoldable pub line_at : Bytes → ℕ → Option Line
line_at s at = if ltb at (length s) then Some (text_of at (line_end (drop at s)) (length s - at)) else None

-- a line with its offset, as the walk over the lines hands it on
abbrev pub placed : ℕ × Bor Bytes → program.Line
placed p = record { offset = p.0; text = p.1.now }

-- the lines that are left of a walk
abbrev pub lines_left : Lines → List program.Line
lines_left w = lines_at w.input.now w.at

-- what a line says of its input: the text, and that the next line is further on and inside
abbrev pub Tells : Bytes → ℕ → Option Line → Type 0
Tells s at (Some l) =
    (at < l.next) × (at + l.len ≤ l.next) × (l.next ≤ length s) × (lines_at s at ≡ record { offset = at; text = part s at l.len } ∷ lines_at s l.next)
Tells s at None = lines_at s at ≡ []

closed_tells : (s : Bytes) (at : ℕ) → at < length s → line_end (drop at s) < length s - at → Tells s at (Some (record { len = line_end (drop at s); next = at + line_end (drop at s) + 1 }))
closed_tells s at h k = (omega arith, omega arith, omega arith, lines_step s at h)

open_tells : (s : Bytes) (at : ℕ) → at < length s → length s - at ≤ line_end (drop at s) → Tells s at (Some (record { len = line_end (drop at s); next = at + line_end (drop at s) }))
open_tells s at h k = (
  omega arith,
  omega arith,
  lines_inside s at h,
  lines_step s at h ∙ ap (λ (r : List program.Line). record { offset = at; text = part s at (line_end (drop at s)) } ∷ r) (lines_last s at k),
)

pub line_tells : (s : Bytes) (at : ℕ) → Tells s at (line_at s at)
unfolding line_at text_of
line_tells s at =
    if_by (Tells s at) (ltb at (length s))
    (λ e. if_by (λ (next : ℕ). Tells s at (Some (record { len = line_end (drop at s); next = next }))) (ltb (line_end (drop at s)) (length s - at))
    (λ f. closed_tells s at (ltb-true at (length s) e) (ltb-true (line_end (drop at s)) (length s - at) f))
    (λ f. open_tells s at (ltb-true at (length s) e) (ltb-false (line_end (drop at s)) (length s - at) f)))
    (λ e. lines_end s at (ltb-false at (length s) e))

-- the same of an answer in hand
pub answer_tells : (s : Bytes) (at : ℕ) (l r : Option Line) → l ≡ line_at s at → l ≡ r → Tells s at r
answer_tells s at l r p q = subst (Tells s at) (sym p ∙ q) (line_tells s at)
