-- The strings block of a blob that calls leave: the distinct names of their properties in order of first use, each closed by NUL.
use Rattle.std.specs.Prelude.{◌≡◌, false, ℕ, ◌+◌, ◌*◌, ◌<◌, get_or}
use Rattle.std.proofs.Common.{ap, subst, ◌∙◌, inl, inr, arith, length-append}
use mathlib.Core.List.Memᴰ
use mathlib.Core.List.{List, [], ◌∷◌, ◌++◌, append_assoc}
use Rattle.std.proofs.Math.ListN.{length}
use Rattle.std.proofs.Math.Seq.{drop_at, take-length}
use Rattle.rules.specs.Ceilings.{blob_ceiling}
use Rattle.rules.specs.Octets.{Bytes, word_at, be32, has_nul}
use Rattle.rules.specs.Reservations.{Entry, block}
use Rattle.rules.specs.Blob.{header_in, block_in}
use Rattle.rules.specs.Events.{Event, opens, has, closes}
use Rattle.rules.specs.Writer.{header_bytes, start_bytes}
use Rattle.rules.specs.Written.{Blocks, write_events, blob_with, blob_of, said, boot_said}
use Rattle.rules.specs.Listing.{◌∈◌}
use Rattle.rules.specs.Exactly.{names_used, WrittenInterned}
use Rattle.rules.proofs.Laws.Octets.{length_be32, has_nul_not}
use Rattle.rules.proofs.Laws.Lists.{mem_at}
use Rattle.rules.proofs.Laws.ReadBack.{Clean}
use Rattle.rules.proofs.Laws.Header.{words_at, length_header, length_block}
use Rattle.rules.proofs.Laws.Trips.Finish.{length_start, length_with, written_blob}
use Rattle.rules.proofs.Laws.Trips.Trip.{written_clean}
use Rattle.rules.proofs.Laws.Interned.{AllPlain, interned_once}

-- ---- names without NUL

name_plain : (n : Bytes) → (0 ∈ n → ⊥) → has_nul n ≡ false
name_plain n h = has_nul_not n (λ i k e. h (subst (λ (b : ℕ). b ∈ n) e (mem_at n i 0 k)))

clean_plain : (es : List Event) → Clean es → AllPlain (names_used es)
unfolding names_used
clean_plain [] c n i = absurd (Memᴰ.not-nil i)
clean_plain (opens place name ∷ es) c n i = clean_plain es c.1 n i
clean_plain (has p ∷ es) c n i = elim (Memᴰ.cases_cons i) [ inl e ↦ rw e (name_plain p.name c.0) | inr k ↦ clean_plain es c.1 n k ]
clean_plain (closes place ∷ es) c n i = clean_plain es c n i

-- ---- where the strings of a blob stand

ceiling_small : blob_ceiling < 4294967296
unfolding blob_ceiling
ceiling_small = omega arith

module _ (rs : List Entry) (cpu : ℕ) (w : Blocks) where
  abbrev at : ℕ
  at = length (start_bytes rs)

  abbrev size : ℕ
  size = length w.structure + 4

  abbrev vs : List ℕ
  vs = 0xd00dfeed ∷ (at + size + length w.strings) ∷ at ∷ (at + size) ∷ 40 ∷ 17 ∷ 16 ∷ cpu ∷ length w.strings ∷ size ∷ []

  abbrev header : Bytes
  header = header_bytes (at + size + length w.strings) at (at + size) cpu (length w.strings) size

  abbrev front : Bytes
  front = header ++ (block rs ++ (w.structure ++ be32 9))

  blob_is : blob_with rs cpu w ≡ front ++ w.strings
  unfolding blob_with
  blob_is = simp append_assoc

  length_front : length front ≡ at + size
  length_front =
      rw (
        length-append header (block rs ++ (w.structure ++ be32 9)),
        length-append (block rs) (w.structure ++ be32 9),
        length-append w.structure (be32 9),
        length_header (at + size + length w.strings) at (at + size) cpu (length w.strings) size,
        length_be32 9,
      )
      (omega (arith, length_start rs, length_block rs))

  module _ (small : at + size + length w.strings < 4294967296) where
    word : (i : ℕ) → i < 10 → get_or vs i 0 < 4294967296 → word_at (blob_with rs cpu w) (4 * i) ≡ get_or vs i 0
    unfolding blob_with header_bytes
    word i h k = words_at vs (block rs ++ (w.structure ++ (be32 9 ++ w.strings))) i h k

    strings_at : (block_in (blob_with rs cpu w)).strings ≡ w.strings
    unfolding block_in header_in
    strings_at =
        let e : word_at (blob_with rs cpu w) 12 ≡ at + size = word 3 (omega arith) (omega arith) in
        let f : word_at (blob_with rs cpu w) 32 ≡ length w.strings = word 8 (omega arith) (omega arith) in
        rw (e, f, blob_is, drop_at front w.strings (at + size) length_front) (take-length w.strings)

-- THE STRINGS BLOCK OF WHAT CALLS LEAVE
pub written_interned : WrittenInterned
unfolding blob_of
written_interned rs lent strings phandles cs blob h =
    let t = written_blob rs lent strings phandles cs blob h in
    let w : Blocks = write_events (record { structure = []; strings = [] }) (said cs) in
    let l : length blob ≡ at rs (boot_said 0 cs) w + size rs (boot_said 0 cs) w + length w.strings = ap length t.0 ∙ length_with rs (boot_said 0 cs) w in
    ap (λ (b : Bytes). (block_in b).strings) t.0
    ∙ strings_at rs (boot_said 0 cs) w (omega (arith, t.1, ceiling_small))
    ∙ interned_once (said cs) (clean_plain (said cs) (written_clean rs lent strings phandles cs blob h))
