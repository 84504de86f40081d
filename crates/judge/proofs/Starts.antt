-- The reservation block as it is written, and how long a start is.
use mathlib.Core.Path.{◌≡◌, refl, sym}
use mathlib.Core.List.{List, [], ◌∷◌, ◌++◌, append_assoc, append-nil}
use Prim.Native.Nat.{ℕ, ◌+◌, ◌*◌, ◌≤◌, ◌<◌}
use native.Mathlib.Omega.{arith}
use native.Mathlib.Numerals.{add-one}
use lib.ListN.{length, take, drop, get_or, length-append, length-map, drop_of_length-le}
use lib.Seq.{take_all, drop-cons}
use Rattle.rules.specs.Octets.{Bytes, be32, be64, words64, zeros, lay}
use Rattle.rules.specs.Reservations.{Entry, entry_bytes, block}
use Rattle.rules.specs.Writer.{start_bytes}
use Rattle.rules.proofs.Laws.Octets.{length_zeros, lay_lay}
use Rattle.rules.proofs.Laws.Header.{length_entries}
use Rattle.rules.proofs.Laws.Writer.{length_words64}
use Rattle.reservation.specs.declared.Reservation.{Reservation}
use Rattle.reservation.specs.Made.{entry_of, entries_of}

-- what an element past the end is, as a check has it
abbrev pub nowhere : Reservation
nowhere = record { address = 0; size = 0 }

block_none : block [] ≡ zeros 16
unfolding block entry_bytes be64 be32
block_none = refl

block_cons : (e : Entry) (es : List Entry) → block (e ∷ es) ≡ words64 (e.address ∷ e.size ∷ []) ++ block es
unfolding block entry_bytes words64
block_cons e es = simp (append_assoc, append-nil)

-- the pair of zeros that closes the block
pub block_bytes : (es : List Entry) → block es ≡ entry_bytes es ++ zeros 16
unfolding block be64 be32
block_bytes es = refl

module _ (d : Bytes) (at : ℕ) (rs : List Reservation) (i : ℕ) where
  -- a loop over reservations: one more is laid in
  pub block_more : i < length rs → (address size : ℕ) → address ≡ (get_or rs i nowhere).address → size ≡ (get_or rs i nowhere).size
      → (next : Bytes) → next ≡ lay d at (words64 (address ∷ size ∷ []))
      → lay d at (block (entries_of (drop i rs))) ≡ lay next (at + 16) (block (entries_of (drop (i + 1) rs)))
  block_more h address size p q next e =
      let pair = words64 (address ∷ size ∷ []) in
      let rest = block (entries_of (drop (i + 1) rs)) in
      let front : block (entries_of (drop i rs)) ≡ pair ++ rest = rw (drop-cons rs i nowhere h, add-one i, p, q) (block_cons _ _) in
      let long : length pair ≡ 16 = length_words64 (address ∷ size ∷ []) in
      rw (front, e, ← long) (sym (lay_lay d at pair rest))

  -- all are: the pair of zeros is left
  pub block_end : length rs ≤ i → lay d at (block (entries_of (drop i rs))) ≡ lay d at (zeros 16)
  block_end h = rw (drop_of_length-le rs {i = i} h, block_none)

pub start_bytes_lem : (es : List Entry) → start_bytes es ≡ zeros 40 ++ block es
unfolding start_bytes
start_bytes_lem es = refl

module _ (rs : List Reservation) where
  -- as many as there are is all
  pub taken : take (length rs) (entries_of rs) ≡ entries_of rs
  taken = take_all (length rs) (entries_of rs) (omega (arith, length-map rs entry_of))

  pub length_start : length (start_bytes (entries_of rs)) ≡ 56 + 16 * length rs
  length_start =
      let es = entries_of rs in
      rw (start_bytes_lem, length-append (zeros 40), block_bytes es, length-append (entry_bytes es), length_entries es, length-map rs entry_of, length_zeros 40, length_zeros 16) (omega arith)
