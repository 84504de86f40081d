-- The copy as a blob: what is laid in the end, and that it is the guest of the sieve.
use mathlib.Core.Path.{◌≡◌, sym, ap, ◌∙◌}
use mathlib.Core.List.{List, [], ◌∷◌, ◌++◌}
use Prim.Native.Nat.{ℕ, ◌+◌, ◌%◌, ◌≤◌}
use native.Mathlib.Omega.{arith}
use lib.ListN.{length, take, drop, take-append-drop}
use Rattle.rules.specs.Octets.{Bytes, be32, words32, zeros, part, put, lay}
use Rattle.rules.specs.Writer.{header_bytes}
use Rattle.rules.specs.Written.{Blocks, write_events, blob_with, blob_of}
use Rattle.rules.proofs.Laws.Octets.{length_part, part_part, length_lay, length_be32, length_zeros}
use Rattle.rules.proofs.Laws.Writer.{be32_low}
use Rattle.rules.proofs.Laws.Header.{length_header}
use Rattle.guest.specs.declared.Size.{Size}
use Rattle.guest.specs.Walked.{blank, copy_of, sieved, Ready, Above}
use Rattle.guest.specs.Measured.{Sized}
use Rattle.guest.specs.Laid.{blocks_in, size_of, Lays}
use Rattle.guest.specs.Finished.{head_of, blob_is, blob_length}
use Rattle.guest.proofs.Noted.{kept_marked}
use Rattle.guest.proofs.Sieved.{copy_sieved}
use Rattle.guest.proofs.Regions.{part_before, part_behind, part_same, drop_behind}

-- ---- the sizes of the sieve's copy

copy_kept : (s t : Bytes) (ws vs : List ℕ) → Above ws vs → copy_of s t vs ≡ copy_of s t ws
unfolding copy_of
copy_kept s t ws vs k = rw (kept_marked ws vs k)

pub sized_sieved : (place : ℕ) (s t : Bytes) (ws vs : List ℕ) (r : Size) → Above ws vs → Sized s t vs r → Ready place s t ws
    → (r.structure ≡ length (write_events blank (sieved place s t ws)).structure) × (r.strings ≡ length (write_events blank (sieved place s t ws)).strings)
sized_sieved place s t ws vs r k z y =
    let e : copy_of s t vs ≡ write_events blank (sieved place s t ws) = copy_kept s t ws vs k ∙ copy_sieved place s t ws y in
    (z.structure ∙ ap (λ (w : Blocks). length w.structure) e, z.strings ∙ ap (λ (w : Blocks). length w.strings) e)

-- ---- the header

-- the words that are laid are those of the header
pub head_words : (a b c d : ℕ) (w : Blocks) → 56 + (length w.structure + 4) + length w.strings ≡ a → 56 + (length w.structure + 4) ≡ b
    → length w.strings ≡ c → length w.structure + 4 ≡ d
    → words32 (0xd00dfeed ∷ a % 4294967296 ∷ 56 ∷ b % 4294967296 ∷ 40 ∷ 17 ∷ 16 ∷ 0 ∷ c % 4294967296 ∷ d % 4294967296 ∷ []) ≡ head_of w
unfolding header_bytes words32
head_words a b c d w p q r s = rw (be32_low a, be32_low b, be32_low c, be32_low d, p, q, r, s)

-- ---- laid one after the other

module _ (g : Bytes) (size : Size) (l : 56 + size.structure + 4 + size.strings ≤ length g) where
  abbrev n : ℕ
  n = 56 + size.structure + 4

  abbrev w : Blocks
  w = blocks_in n g size

  pub is_structure : length w.structure ≡ size.structure
  is_structure = length_part g 56 size.structure (omega arith)

  pub is_strings : length w.strings ≡ size.strings
  is_strings = length_part g n size.strings l

  module _ (g₁ g₂ g₃ head : Bytes) (e₁ : g₁ ≡ lay g (56 + size.structure) (be32 9)) (e₂ : g₂ ≡ lay g₁ 40 (zeros 16)) (e₃ : g₃ ≡ lay g₂ 0 head)
      (h : head ≡ head_of w) where
    a₁ : 56 + size.structure + length (be32 9) ≤ length g
    a₁ = omega (arith, length_be32 9)

    l₁ : length g₁ ≡ length g
    l₁ = ap length e₁ ∙ length_lay g (56 + size.structure) (be32 9)

    a₂ : 40 + length (zeros 16) ≤ length g₁
    a₂ = omega (arith, l₁, length_zeros 16)

    l₂ : length g₂ ≡ length g
    l₂ = ap length e₂ ∙ length_lay g₁ 40 (zeros 16) ∙ l₁

    long : length head ≡ 40
    long = ap length h ∙ length_header _ _ _ _ _ _

    a₃ : 0 + length head ≤ length g₂
    a₃ = omega (arith, l₂, long)

    -- what stands behind the front is what stood there
    kept₂ : (i m : ℕ) → 56 ≤ i → part g₃ i m ≡ part g₁ i m
    kept₂ i m j =
        ap (λ (x : Bytes). part x i m) e₃ ∙ part_behind g₂ 0 head a₃ i m (omega (arith, long))
        ∙ ap (λ (x : Bytes). part x i m) e₂ ∙ part_behind g₁ 40 (zeros 16) a₂ i m (omega (arith, length_zeros 16))

    is_head : part g₃ 0 40 ≡ head
    is_head = ap (λ (x : Bytes). part x 0 40) e₃ ∙ rw long at (part_same g₂ 0 head a₃)

    is_reserved : part g₃ 40 16 ≡ zeros 16
    is_reserved =
        ap (λ (x : Bytes). part x 40 16) e₃ ∙ part_behind g₂ 0 head a₃ 40 16 (omega (arith, long))
        ∙ ap (λ (x : Bytes). part x 40 16) e₂ ∙ rw (length_zeros 16) at (part_same g₁ 40 (zeros 16) a₂)

    is_inner : part g₃ 56 size.structure ≡ w.structure
    is_inner =
        kept₂ 56 size.structure (omega arith)
        ∙ ap (λ (x : Bytes). part x 56 size.structure) e₁ ∙ part_before g (56 + size.structure) (be32 9) a₁ 56 size.structure (omega arith)

    is_end : part g₃ (56 + size.structure) 4 ≡ be32 9
    is_end =
        kept₂ (56 + size.structure) 4 (omega arith)
        ∙ ap (λ (x : Bytes). part x (56 + size.structure) 4) e₁ ∙ rw (length_be32 9) at (part_same g (56 + size.structure) (be32 9) a₁)

    is_names_lem : part g₃ n size.strings ≡ w.strings
    is_names_lem =
        kept₂ n size.strings (omega arith)
        ∙ ap (λ (x : Bytes). part x n size.strings) e₁ ∙ part_behind g (56 + size.structure) (be32 9) a₁ n size.strings (omega (arith, length_be32 9))

    joined : part g₃ 0 (40 + (16 + (size.structure + (4 + size.strings)))) ≡ blob_with [] 0 w
    joined =
        sym (part_part g₃ 0 40 (16 + (size.structure + (4 + size.strings))))
        ∙ rw (← part_part g₃ (0 + 40) 16 (size.structure + (4 + size.strings)), ← part_part g₃ (0 + 40 + 16) size.structure (4 + size.strings), ← part_part g₃ (0 + 40 + 16 + size.structure) 4 size.strings, is_head, is_reserved, is_inner, is_end, is_names_lem, h, blob_is w)

    -- THE BLOB STANDS IN FRONT, AND WHAT WAS BEHIND STAYS
    pub closed_blob : g₃ ≡ put g 0 (blob_with [] 0 w)
    unfolding put
    closed_blob =
        let m : ℕ = length (blob_with [] 0 w) in
        let x : 40 + (16 + (size.structure + (4 + size.strings))) ≡ m = omega (arith, blob_length w, is_structure, is_strings) in
        let y : drop m g₃ ≡ drop m g =
        ap (drop m) e₃ ∙ drop_behind g₂ 0 head a₃ m (omega (arith, long, blob_length w))
        ∙ ap (drop m) e₂ ∙ drop_behind g₁ 40 (zeros 16) a₂ m (omega (arith, length_zeros 16, blob_length w))
        ∙ ap (drop m) e₁ ∙ drop_behind g (56 + size.structure) (be32 9) a₁ m (omega (arith, length_be32 9, blob_length w, is_structure)) in
        sym (take-append-drop m g₃) ∙ ap (λ (b : Bytes). b ++ drop m g₃) (ap (λ (k : ℕ). take k g₃) (sym x) ∙ joined) ∙ ap (λ (b : Bytes). blob_with [] 0 w ++ b) y
        ∙ ap (λ (k : ℕ). blob_with [] 0 w ++ drop k g) (let z : m ≡ 0 + m = omega arith in z)

-- ---- the guest

-- bytes laid at the front of a buffer that was changed only where they come to stand
put_front : (g h bs : Bytes) → drop (length bs) h ≡ drop (length bs) g → put h 0 bs ≡ put g 0 bs
unfolding put
put_front g h bs e = let z : 0 + length bs ≡ length bs = omega arith in rw z (ap (λ (b : Bytes). bs ++ b) e)

pub guest_laid : (place : ℕ) (s t : Bytes) (ws : List ℕ) (size : Size) (g h j : Bytes) → Sized s t ws size → Ready place s t ws
    → (n : ℕ) → n ≡ 56 + size.structure + 4 → Lays n g h (size_of (copy_of s t ws)) (copy_of s t ws) → j ≡ put h 0 (blob_with [] 0 (blocks_in (56 + size.structure + 4) h size))
    → j ≡ put g 0 (blob_of [] 0 (sieved place s t ws))
unfolding blob_of
guest_laid place s t ws size g h j z r n p y e =
    let c : size ≡ size_of (copy_of s t ws) = λ i. record { structure = z.structure i; strings = z.strings i } in
    let b : blocks_in (56 + size.structure + 4) h size ≡ copy_of s t ws = ap (λ (m : ℕ). blocks_in m h size) (sym p) ∙ ap (blocks_in n h) c ∙ y.blocks in
    e
    ∙ ap (λ (w : Blocks). put h 0 (blob_with [] 0 w)) b
    ∙ put_front g h (blob_with [] 0 (copy_of s t ws)) (y.behind (length (blob_with [] 0 (copy_of s t ws))) (omega (arith, blob_length (copy_of s t ws), z.structure)))
    ∙ ap (λ (w : Blocks). put g 0 (blob_with [] 0 w)) (copy_sieved place s t ws r)

-- ---- the header's words

pub closed_words : (g : Bytes) (size : Size) (l : 56 + size.structure + 4 + size.strings ≤ length g) (a b c d : ℕ)
    → a ≡ (56 + size.structure + 4 + size.strings) % 4294967296 → b ≡ (56 + size.structure + 4) % 4294967296
    → c ≡ size.strings % 4294967296 → d ≡ (size.structure + 4) % 4294967296
    → words32 (0xd00dfeed ∷ a ∷ 56 ∷ b ∷ 40 ∷ 17 ∷ 16 ∷ 0 ∷ c ∷ d ∷ []) ≡ head_of (blocks_in (56 + size.structure + 4) g size)
closed_words g size l a b c d p q r s =
    let x = is_structure g size l in
    let y = is_strings g size l in
    rw (p, q, r, s)
    (head_words (56 + size.structure + 4 + size.strings) (56 + size.structure + 4) size.strings (size.structure + 4) (blocks_in (56 + size.structure + 4) g size)
    (omega arith) (omega arith) y (omega arith))
