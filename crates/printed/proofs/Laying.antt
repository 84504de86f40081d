-- One text behind the other: two calls that print are one, and a whole text laid from the front on.
use mathlib.Core.Path.{◌≡◌, sym, ap, ◌∙◌, subst}
use mathlib.Core.List.{◌++◌}
use Prim.Native.Nat.{ℕ, ◌+◌, ◌-◌, ◌≤◌, ◌<◌, min}
use native.Mathlib.Nat.{zero-add}
use native.Mathlib.Omega.{arith}
use lib.ListN.{length, set, length-append}
use Rattle.rules.specs.Octets.{Bytes, byte_at, lay}
use Rattle.rules.proofs.Laws.Tests.{by_le}
use Rattle.rules.proofs.Laws.Octets.{length_lay, lay_past, lay_more, lay_lay, lay_paste, laid, laid_more}
use Rattle.printed.specs.Text.{in_line, in_lines, Laid, length_lines, byte_lines}

module _ {old mid new : Bytes} {at next last : ℕ} (xs ys : Bytes) (p : Laid old at xs mid next) (q : Laid mid next ys new last) where
  long : length mid ≡ length old
  long = ap length p.left ∙ length_lay old at xs

  bytes : lay mid next ys ≡ lay old at (xs ++ ys)
  bytes = by_le (at + length xs) (length old)
      (λ h. let e : next ≡ at + length xs = omega (arith, p.after) in rw (e, p.left) (lay_lay old at xs ys))
      (λ h. lay_past mid next ys (omega (arith, p.after, long)) ∙ p.left ∙ lay_more old at xs ys (omega arith))

  pub then : Laid old at (xs ++ ys) new last
  then = record { left = q.left ∙ bytes; after = omega (arith, q.after, p.after, long, length-append xs ys) }

pub same_text : {old new : Bytes} {at next : ℕ} {xs ys : Bytes} → xs ≡ ys → Laid old at xs new next → Laid old at ys new next
same_text {old} {new} {at} {next} e p = subst (λ (b : Bytes). Laid old at b new next) e p

-- a text from the front on
pub front : {old new : Bytes} {next : ℕ} (text : Bytes) → Laid old 0 text new next → next ≡ min (length text) (length old)
front text p = p.after ∙ rw (zero-add (length text))

-- ---- the lines of a list, as a loop lays them

module _ (d : Bytes) (at : ℕ) (s : Bytes) (p : ℕ) (h : at ≤ p) (k : p < min (at + length s) (length d)) where
  pub line_more : set (laid d at (in_lines s) (p - at)) p (in_line (byte_at s (p - at))) ≡ laid d at (in_lines s) (p + 1 - at)
  line_more =
      let l = length_lines s in
      let e : at + (p - at) ≡ p = omega arith in
      let f : p + 1 - at ≡ p - at + 1 = omega arith in
      rw f (ap (λ (q : ℕ). set (laid d at (in_lines s) (p - at)) q (in_line (byte_at s (p - at)))) (sym e)
      ∙ ap (λ (b : ℕ). set (laid d at (in_lines s) (p - at)) (at + (p - at)) b) (sym (byte_lines s (p - at) (omega arith)))
      ∙ laid_more d at (in_lines s) (p - at) (omega arith))

pub lines_done : (d : Bytes) (at : ℕ) (s : Bytes) (p : ℕ) → p - at ≡ min (at + length s) (length d) - at → laid d at (in_lines s) (p - at) ≡ lay d at (in_lines s)
lines_done d at s p h =
    let l = length_lines s in
    let e : p - at ≡ min (length (in_lines s)) (length d - at) = omega arith in
    rw e (sym (lay_paste d at (in_lines s)))
