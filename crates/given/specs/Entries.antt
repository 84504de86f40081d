-- The entry at a place of a path list, and that the entries one after the other are those of the definition.
use Rattle.std.specs.Prelude.{◌≡◌, refl, Bool, true, false, List, [], ◌∷◌, ℕ, ◌+◌, ◌-◌, ◌≤◌, ◌<◌, ltb, length, drop, if◌then◌else◌, Option, Some, None}
use Rattle.std.proofs.Common.{sym, ap, ◌∙◌, subst, arith, ltb-true, ltb-false}
use Rattle.rules.specs.Octets.{Bytes, part, nul_in}
use Rattle.rules.specs.Derivation.{Given}
use Rattle.rules.proofs.Laws.Tokens.{if_by}
use Rattle.rules.specs.Laws.Given.{given_at}
use Rattle.rules.proofs.Laws.Given.{given_step, given_end, given_last, given_inside}
use Rattle.given.specs.declared.Entry.{Entry}
use Rattle.given.specs.declared.Given.{Given as LentGiven}
use Rattle.given.specs.declared.Paths.{Paths}

-- an entry of n bytes, of which `left` are left: the next one begins behind its NUL, or at the end where it has none
unfoldable pub path_of : (at n left : ℕ) → Entry
path_of at n left = record { len = n; closed = ltb n left; next = if ltb n left then at + n + 1 else at + n }

unfoldable pub entry_at : Bytes → ℕ → Option Entry
entry_at s at = if ltb at (length s) then Some (path_of at (nul_in (drop at s)) (length s - at)) else None

-- a path as the walk over a list hands it on
abbrev pub given_path : LentGiven → Given
given_path g = record { offset = g.offset; path = g.path.now; is_closed = g.closed }

-- the paths that are left of a walk
abbrev pub paths_left : Paths → List Given
paths_left w = given_at w.list.now w.at

-- what an entry says of its list: the path, and that the next entry is further on and inside
abbrev pub Tells : Bytes → ℕ → Option Entry → Type 0
Tells s at (Some e) =
    (at < e.next) × (e.next ≤ length s) × (given_at s at ≡ record { offset = at; path = part s at e.len; is_closed = e.closed } ∷ given_at s e.next)
Tells s at None = given_at s at ≡ []

closed_tells : (s : Bytes) (at : ℕ) → at < length s → ltb (nul_in (drop at s)) (length s - at) ≡ true → Tells s at (Some (record { len = nul_in (drop at s); closed = true; next = at + nul_in (drop at s) + 1 }))
closed_tells s at h e =
    let n : ℕ = nul_in (drop at s) in
    let k : n < length s - at = ltb-true n (length s - at) e in
    (omega arith, omega arith, given_step s at h ∙ ap (λ (b : Bool). record { offset = at; path = part s at n; is_closed = b } ∷ given_at s (at + n + 1)) e)

open_tells : (s : Bytes) (at : ℕ) → at < length s → ltb (nul_in (drop at s)) (length s - at) ≡ false → Tells s at (Some (record { len = nul_in (drop at s); closed = false; next = at + nul_in (drop at s) }))
open_tells s at h e =
    let n : ℕ = nul_in (drop at s) in
    let k : length s - at ≤ n = ltb-false n (length s - at) e in (
      omega arith,
      given_inside s at h,
      given_step s at h
          ∙ ap (λ (b : Bool). record { offset = at; path = part s at n; is_closed = b } ∷ given_at s (at + n + 1)) e
          ∙ ap (λ (r : List Given). record { offset = at; path = part s at n; is_closed = false } ∷ r) (given_last s at k),
    )

closed_or_open : (s : Bytes) (at : ℕ) (b : Bool) → at < length s → ltb (nul_in (drop at s)) (length s - at) ≡ b → Tells s at (Some (record { len = nul_in (drop at s); closed = b; next = if b then at + nul_in (drop at s) + 1 else at + nul_in (drop at s) }))
closed_or_open s at true h e = closed_tells s at h e
closed_or_open s at false h e = open_tells s at h e

pub entry_tells : (s : Bytes) (at : ℕ) → Tells s at (entry_at s at)
unfolding entry_at path_of
entry_tells s at =
    if_by (Tells s at) (ltb at (length s))
    (λ e. closed_or_open s at (ltb (nul_in (drop at s)) (length s - at)) (ltb-true at (length s) e) refl)
    (λ e. given_end s at (ltb-false at (length s) e))

-- the same of an answer in hand
pub answer_tells : (s : Bytes) (at : ℕ) (e r : Option Entry) → e ≡ entry_at s at → e ≡ r → Tells s at r
answer_tells s at e r p q = subst (Tells s at) (sym p ∙ q) (entry_tells s at)
