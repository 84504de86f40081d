-- The laws of the header and the reservations: a header that was written passes.
use Rattle.std.specs.Prelude.{◌≡◌, refl, false, ◌&&◌, length, get_or, eqb, leb}
use Rattle.std.proofs.Common.{sym, ap, ◌∙◌, arith, length-append, get_or-append-add, leb-false, le-ltb, ne_eqb}
use Rattle.std.proofs.Math.Option.{some}
use mathlib.Core.List.{List, [], ◌∷◌, ◌++◌, append_assoc}
use Prim.Native.Nat.{ℕ, zero, suc, ◌+◌, ◌*◌, ◌^◌, ◌<◌}
use Rattle.std.proofs.lemmas.Bool.{eqb-false}
use Rattle.rules.specs.Octets.{Bytes, word_at, long_at, be32, be64, words32}
use Rattle.rules.specs.Reservations.{Entry, invalid, any_invalid, entry_bytes, block}
use Rattle.rules.specs.Blob.{header_in, entries_from}
use Rattle.rules.specs.Writer.{header_bytes}
use Rattle.rules.proofs.Laws.Tests.{or_false, and_none}
use Rattle.rules.proofs.Laws.Octets.{length_be32, length_be64}
use Rattle.rules.proofs.Laws.Encoded.{word_at_lem, long_at_lem}
use Rattle.rules.proofs.Laws.Writer.{length_words32}
use Rattle.rules.proofs.Laws.Blob.{entries_last, entries_more}

-- ---- a header that was written

word_skip : (p s : Bytes) (at i : ℕ) → length p ≡ at → word_at (p ++ s) (at + i) ≡ word_at s i
unfolding word_at
word_skip p s at i e =
    let g : (k : ℕ) → get_or (p ++ s) (at + i + k) 0 ≡ get_or s (i + k) 0 =
    λ k. let q : at + i + k ≡ length p + (i + k) = omega arith in ap (λ (n : ℕ). get_or (p ++ s) n 0) q ∙ get_or-append-add p s (i + k) 0 in
    let g₀ : get_or (p ++ s) (at + i) 0 ≡ get_or s i 0 =
    let q : at + i ≡ length p + i = omega arith in ap (λ (n : ℕ). get_or (p ++ s) n 0) q ∙ get_or-append-add p s i 0 in
    rw (g₀, g 1, g 2, g 3)

pub words_at : (vs : List ℕ) (r : Bytes) (i : ℕ) → i < length vs → get_or vs i 0 < 4294967296 → word_at (words32 vs ++ r) (4 * i) ≡ get_or vs i 0
unfolding words32
words_at [] r i h k = absurd (omega arith)
words_at (v ∷ vs) r zero h k = rw (append_assoc (be32 v) (words32 vs) r) (word_at_lem [] (words32 vs ++ r) v 0 refl k)
words_at (v ∷ vs) r (suc i) h k =
    let q : 4 * suc i ≡ 4 + 4 * i = omega arith in
    rw (append_assoc (be32 v) (words32 vs) r, q)
    (word_skip (be32 v) (words32 vs ++ r) 4 (4 * i) (length_be32 v) ∙ words_at vs r i (omega arith) k)

pub length_header : (total structure strings cpu strings_size structure_size : ℕ)
    → length (header_bytes total structure strings cpu strings_size structure_size) ≡ 40
unfolding header_bytes
length_header total structure strings cpu strings_size structure_size = length_words32 _

module _ (total structure strings cpu strings_size structure_size : ℕ) (r : Bytes) (small : total < 4294967296) (small₁ : structure < 4294967296)
    (small₂ : strings < 4294967296) (small₃ : cpu < 4294967296) (small₄ : strings_size < 4294967296) (small₅ : structure_size < 4294967296) where
  pub header_read : header_in (header_bytes total structure strings cpu strings_size structure_size ++ r)
      ≡ record {
        magic = 0xd00dfeed;
        total = total;
        structure = structure;
        strings = strings;
        reservations = 40;
        version = 17;
        compatible = 16;
        boot_cpu = cpu;
        strings_size = strings_size;
        structure_size = structure_size;
      }
  unfolding header_in header_bytes
  header_read =
      let vs : List ℕ = 0xd00dfeed ∷ total ∷ structure ∷ strings ∷ 40 ∷ 17 ∷ 16 ∷ cpu ∷ strings_size ∷ structure_size ∷ [] in
      λ i.
      record {
        magic = words_at vs r 0 (omega arith) (omega arith) i;
        total = words_at vs r 1 (omega arith) small i;
        structure = words_at vs r 2 (omega arith) small₁ i;
        strings = words_at vs r 3 (omega arith) small₂ i;
        reservations = words_at vs r 4 (omega arith) (omega arith) i;
        version = words_at vs r 5 (omega arith) (omega arith) i;
        compatible = words_at vs r 6 (omega arith) (omega arith) i;
        boot_cpu = words_at vs r 7 (omega arith) small₃ i;
        strings_size = words_at vs r 8 (omega arith) small₄ i;
        structure_size = words_at vs r 9 (omega arith) small₅ i;
      }

-- ---- reservations that were written

long_next : (p a r : Bytes) (n at m : ℕ) → length p ≡ at → length a ≡ m → n < 18446744073709551616 → long_at (p ++ (a ++ (be64 n ++ r))) (at + m) ≡ n
long_next p a r n at m e f h =
    ap (λ (s : Bytes). long_at s (at + m)) (sym (append_assoc p a (be64 n ++ r)))
    ∙ long_at_lem (p ++ a) r n (at + m) (rw length-append (omega arith)) h

-- an entry that its maker passes
valid_parts : (e : Entry) → invalid e ≡ false
    → (e.size ≡ 0 → ⊥) × (e.address < 18446744073709551616) × (e.size < 18446744073709551616)
unfolding invalid
valid_parts e h =
    let k = or_false (eqb e.size 0) (leb (2 ^ 64) (e.address + e.size)) h in
    let l = leb-false (2 ^ 64) (e.address + e.size) k.1 in
    (eqb-false e.size 0 k.0, omega arith, omega arith)

pub entries_read : (rs : List Entry) (b p r : Bytes) (fuel at limit : ℕ) → b ≡ p ++ (entry_bytes rs ++ (be64 0 ++ (be64 0 ++ r))) → length p ≡ at
    → limit ≡ at + 16 * length rs + 16 → length rs < fuel → any_invalid rs ≡ false → entries_from fuel b at limit ≡ some rs
unfolding entry_bytes any_invalid
entries_read rs b p r zero at limit e l f h v = absurd (omega arith)
entries_read [] b p r (suc fuel) at limit e l f h v =
    let x : long_at b at ≡ 0 = ap (λ (s : Bytes). long_at s at) e ∙ long_at_lem p (be64 0 ++ r) 0 at l (omega arith) in
    let y : long_at b (at + 8) ≡ 0 = ap (λ (s : Bytes). long_at s (at + 8)) e ∙ long_next p (be64 0) r 0 at 8 l (length_be64 0) (omega arith) in
    entries_last b fuel at limit (le-ltb limit (at + 16) (omega arith)) (rw (x, y))
entries_read (w ∷ rs) b p r (suc fuel) at limit e l f h v =
    let k = or_false (invalid w) (any_invalid rs) v in
    let d = valid_parts w k.0 in
    let rest : Bytes = entry_bytes rs ++ (be64 0 ++ (be64 0 ++ r)) in
    let a : Bytes = be64 w.address in
    let c : Bytes = be64 w.size in
    let e₁ : b ≡ p ++ (a ++ (c ++ rest)) = e ∙ simp append_assoc in
    let e₂ : b ≡ p ++ (a ++ c) ++ rest = e ∙ simp append_assoc in
    let m : length (p ++ (a ++ c)) ≡ at + 16 = rw (length-append, length-append, length_be64 w.address, length_be64 w.size) (omega arith) in
    let x : long_at b at ≡ w.address = ap (λ (s : Bytes). long_at s at) e₁ ∙ long_at_lem p (c ++ rest) w.address at l d.1 in
    let y : long_at b (at + 8) ≡ w.size =
    ap (λ (s : Bytes). long_at s (at + 8)) e₁ ∙ long_next p a rest w.size at 8 l (length_be64 w.address) d.2 in
    let n : (eqb (long_at b at) 0 && eqb (long_at b (at + 8)) 0) ≡ false = rw (y, ne_eqb w.size 0 d.0) (and_none (eqb (long_at b at) 0)) in
    entries_more b fuel at limit (le-ltb limit (at + 16) (omega arith)) n
    ∙ rw (entries_read rs b (p ++ (a ++ c)) r fuel (at + 16) limit e₂ m (omega arith) (omega arith) k.1, x, y)

pub length_entries : (rs : List Entry) → length (entry_bytes rs) ≡ 16 * length rs
unfolding entry_bytes
length_entries [] = refl
length_entries (e ∷ rs) =
    rw (length-append (be64 e.address) _, length-append (be64 e.size) _, length_be64 e.address, length_be64 e.size, length_entries rs)
    (omega arith)

pub length_block : (rs : List Entry) → length (block rs) ≡ 16 * length rs + 16
unfolding block
length_block rs = rw (length-append, length-append, length_entries rs, length_be64 0) (omega arith)
