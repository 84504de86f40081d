-- The lists that a request says are no longer than the request.
use mathlib.Core.Path.{◌≡◌, refl, ap}
use mathlib.Core.Bool.{Bool, true, not, ◌&&◌}
use mathlib.Core.List.{List, [], ◌∷◌, ◌++◌}
use Prim.Native.Nat.{ℕ, zero, suc, ◌+◌, ◌*◌, ◌^◌, ◌≤◌}
use native.Mathlib.Omega.{arith}
use lib.Dec.{eqb, ltb}
use lib.ListN.{length, take, drop, length-append, length-drop}
use lib.Seq.{length-take-le}
use borrow.Author.Tests.{eqb-false, not-true}
use Rattle.rules.specs.Octets.{Bytes, has_nul, closed, ascii, begins}
use Rattle.rules.specs.Lists.{every}
use Rattle.rules.specs.Program.{line_end, Line, lines_from, lines_of, Said, decimal_after, digit, decimal_said, line_said, configured_by, excluded_by, named_by, configured_in, excluded_in, ids_in}
use Rattle.rules.specs.Program as program
use Rattle.rules.proofs.Laws.Tests.{and_true}
use Rattle.rules.proofs.Laws.Tokens.{if_by}
use Rattle.rules.proofs.Laws.Octets.{begins_length, to_le}
use Rattle.rules.proofs.Laws.Program.{configured_split, excluded_split, named_split}

-- ---- a line

-- what is said by a line of n bytes adds no more than n to a list of paths, and an id takes four with its newline
pub record Adds (n : ℕ) (s : Said) : Type 0 where
  pub configured : length (configured_by s []) ≤ n
  pub excluded : length (excluded_by s []) ≤ n
  pub ids : 4 * length (named_by s []) ≤ n + 1

adds_other : (n : ℕ) → Adds n program.other
adds_other n = record { configured = omega arith; excluded = omega arith; ids = omega arith }

adds_names : (n id : ℕ) → 3 ≤ n → Adds n (program.names id)
adds_names n id h = record { configured = omega arith; excluded = omega arith; ids = omega arith }

module _ (text : Bytes) (h : 2 ≤ length text) where
  path_short : length (closed (drop 2 text) ++ []) ≤ length text
  path_short = omega (arith, length-append (closed (drop 2 text)) [], length-append (drop 2 text) (0 ∷ []), length-drop 2 text)

  adds_configured : Adds (length text) (program.configures (drop 2 text))
  adds_configured = record { configured = path_short; excluded = omega arith; ids = omega arith }

  adds_excluded : Adds (length text) (program.excludes (drop 2 text))
  adds_excluded = record { configured = omega arith; excluded = path_short; ids = omega arith }

  adds_decimal : Adds (length text) (decimal_said (drop 2 text))
  unfolding decimal_said
  adds_decimal =
      let ds : Bytes = drop 2 text in
      let some : Bool = not (eqb (length ds) 0) in
      let rest : Bool = every digit ds in
      if_by (Adds (length text)) (some && rest && ltb (decimal_after 0 ds) (2 ^ 64))
      (λ e. let k = (and_true some rest (and_true (some && rest) (ltb (decimal_after 0 ds) (2 ^ 64)) e).0).0 in
      let z = eqb-false (length ds) 0 (not-true (eqb (length ds) 0) k) in
      adds_names (length text) (decimal_after 0 ds) (omega (arith, z, length-drop 2 text)))
      (λ _. adds_other (length text))

two : (s p : Bytes) → length p ≡ 2 → begins p s ≡ true → 2 ≤ length s
two s p h e = omega (arith, begins_length p s e)

adds : (text : Bytes) → Adds (length text) (line_said text)
unfolding line_said ascii
adds text =
    if_by (Adds (length text)) (has_nul text) (λ _. adds_other (length text))
    (λ _. if_by (Adds (length text)) (begins (ascii "c ") text) (λ e. adds_configured text (two text (ascii "c ") refl e))
    (λ _. if_by (Adds (length text)) (begins (ascii "x ") text) (λ e. adds_excluded text (two text (ascii "x ") refl e))
    (λ _. if_by (Adds (length text)) (begins (ascii "i ") text) (λ e. adds_decimal text (two text (ascii "i ") refl e))
    (λ _. adds_other (length text)))))

-- ---- all lines

-- what the lines add, each so many
unfoldable total : (Said → ℕ) → List Line → ℕ
total f [] = 0
total f (l ∷ ls) = f (line_said l.text) + total f ls

total_short : (f : Said → ℕ) → ((text : Bytes) → f (line_said text) ≤ length text) → (fuel offset : ℕ) (bs : Bytes) → total f (lines_from fuel offset bs) ≤ length bs
unfolding lines_from total
total_short f h zero offset bs = omega arith
total_short f h (suc fuel) offset [] = omega arith
total_short f h (suc fuel) offset (b ∷ bs) =
    let n : ℕ = line_end (b ∷ bs) in
    let rest : Bytes = drop (n + 1) (b ∷ bs) in
    let k = total_short f h fuel (offset + n + 1) rest in
    omega (arith, h (take n (b ∷ bs)), length-take-le n (b ∷ bs) (to_le 10 (b ∷ bs)), length-drop (n + 1) (b ∷ bs), to_le 10 (b ∷ bs))

-- the same where each takes four bytes with its newline
total_fourth : (f : Said → ℕ) → ((text : Bytes) → 4 * f (line_said text) ≤ length text + 1) → (fuel offset : ℕ) (bs : Bytes) → 4 * total f (lines_from fuel offset bs) ≤ length bs + 1
unfolding lines_from total
total_fourth f h zero offset bs = omega arith
total_fourth f h (suc fuel) offset [] = omega arith
total_fourth f h (suc fuel) offset (b ∷ bs) =
    let n : ℕ = line_end (b ∷ bs) in
    let rest : Bytes = drop (n + 1) (b ∷ bs) in
    let k = total_fourth f h fuel (offset + n + 1) rest in
    omega (arith, h (take n (b ∷ bs)), length-take-le n (b ∷ bs) (to_le 10 (b ∷ bs)), length-drop (n + 1) (b ∷ bs), to_le 10 (b ∷ bs))

configured_total : (ls : List Line) → length (configured_in ls) ≡ total (λ (s : Said). length (configured_by s [])) ls
unfolding configured_in total
configured_total [] = refl
configured_total (l ∷ ls) =
    let s : Said = line_said l.text in
    omega (arith, ap length (configured_split s (configured_in ls)), length-append (configured_by s []) (configured_in ls), configured_total ls)

excluded_total : (ls : List Line) → length (excluded_in ls) ≡ total (λ (s : Said). length (excluded_by s [])) ls
unfolding excluded_in total
excluded_total [] = refl
excluded_total (l ∷ ls) =
    let s : Said = line_said l.text in
    omega (arith, ap length (excluded_split s (excluded_in ls)), length-append (excluded_by s []) (excluded_in ls), excluded_total ls)

ids_total : (ls : List Line) → length (ids_in ls) ≡ total (λ (s : Said). length (named_by s [])) ls
unfolding ids_in total
ids_total [] = refl
ids_total (l ∷ ls) =
    let s : Said = line_said l.text in
    omega (arith, ap length (named_split s (ids_in ls)), length-append (named_by s []) (ids_in ls), ids_total ls)

module _ (input : Bytes) where
  pub configured_short : length (configured_in (lines_of input)) ≤ length input
  unfolding lines_of
  configured_short =
      omega (arith, configured_total (lines_from (length input) 0 input), total_short (λ (s : Said). length (configured_by s [])) (λ text. (adds text).configured) (length input) 0 input)

  pub excluded_short : length (excluded_in (lines_of input)) ≤ length input
  unfolding lines_of
  excluded_short =
      omega (arith, excluded_total (lines_from (length input) 0 input), total_short (λ (s : Said). length (excluded_by s [])) (λ text. (adds text).excluded) (length input) 0 input)

  pub ids_short : 4 * length (ids_in (lines_of input)) ≤ length input + 1
  unfolding lines_of
  ids_short =
      omega (arith, ids_total (lines_from (length input) 0 input), total_fourth (λ (s : Said). length (named_by s [])) (λ text. (adds text).ids) (length input) 0 input)
