-- Two blobs that agree but in hidden value bytes, of which the first has a header that passes: the header is judged alike, the shape
-- too, and the events are the same but for what is hidden.
use Rattle.std.specs.Prelude.{[], ◌≡◌, refl, ◌⊎◌, Bool, ◌&&◌, get_or, drop, eqb, ltb}
use Rattle.std.proofs.Math.Path.{sym}
use Rattle.std.proofs.Common.{◌∙◌, arith, get_or-take, get_or-drop, ltb-false}
use Rattle.std.proofs.Math.Logic.{inl, inr}
use Prim.Native.Nat.{ℕ, zero, suc, ◌+◌, ◌≤◌, ◌<◌, min}
use Rattle.std.proofs.Math.ListN.{length, length-take, length-drop, get_or-eq_default}
use Rattle.rules.specs.Octets.{Bytes, word_at, long_at, part}
use Rattle.rules.specs.Blob.{header_in, entries_from, entries_in, misplaced, header_judged, block_in}
use Rattle.rules.specs.Events.{shape_judged}
use Rattle.rules.specs.Reader.{events_read}
use Rattle.rules.proofs.Laws.Tests.{by_test, by_le}
use Rattle.rules.proofs.Laws.Secrecy.Alike.{Veiled}
use Rattle.rules.proofs.Laws.Secrecy.Tokens.{Clear, word_same, part_same, Hidden, Open, behind_all, shape_kept, events_kept}
use Rattle.rules.proofs.Laws.Blob.{entries_cut, entries_last, entries_more, Inside}

-- ---- the same bytes

pub long_same : (s c : Bytes) (i : ℕ) → Clear s c i (i + 8) → long_at s i ≡ long_at c i
unfolding long_at
long_same s c i h = rw (word_same s c i (λ x p q. h x p (omega arith)), word_same s c (i + 4) (λ x p q. h x (omega arith) (omega arith)))

entries_from_same : (s c : Bytes) (fuel at limit : ℕ) → Clear s c 0 limit → entries_from fuel s at limit ≡ entries_from fuel c at limit
unfolding entries_from
entries_from_same s c zero at limit h = refl
entries_from_same s c (suc fuel) at limit h = by_test (ltb limit (at + 16))
    (λ e. entries_cut s fuel at limit e ∙ sym (entries_cut c fuel at limit e))
    (λ e. let l : at + 16 ≤ limit = ltb-false limit (at + 16) e in
    let p : long_at s at ≡ long_at c at = long_same s c at (λ x a b. h x (omega arith) (omega arith)) in
    let q : long_at s (at + 8) ≡ long_at c (at + 8) = long_same s c (at + 8) (λ x a b. h x (omega arith) (omega arith)) in
    by_test (eqb (long_at s at) 0 && eqb (long_at s (at + 8)) 0)
    (λ f. entries_last s fuel at limit e f ∙ sym (entries_last c fuel at limit e (rw (p, q) at f)))
    (λ f. entries_more s fuel at limit e f
    ∙ rw (p, q, entries_from_same s c fuel (at + 16) limit h) (sym (entries_more c fuel at limit e (rw (p, q) at f)))))

module _ (S : ℕ → Bytes → Bool) (host other : Bytes) (size : length host ≡ length other) (laid : Inside host)
    (agree : (x : ℕ) → (get_or host x 0 ≡ get_or other x 0) ⊎ Hidden S x [] 0 (events_read host)) where
  structure : Bytes
  structure = part host (header_in host).structure (header_in host).structure_size

  strings : Bytes
  strings = part host (header_in host).strings (header_in host).strings_size

  -- what is hidden stands in the structure block
  hidden_inside : (x : ℕ) → Hidden S x [] 0 (events_read host)
      → ((header_in host).structure ≤ x) × (x < (header_in host).structure + (header_in host).structure_size)
  unfolding events_read block_in structure strings
  hidden_inside x h =
      let b = behind_all S (header_in host).structure strings structure x h in
      let l : length structure ≡ min (header_in host).structure_size (length (drop (header_in host).structure host))
      = length-take (header_in host).structure_size (drop (header_in host).structure host) in
      (b.0, omega (arith, b.1))

  clear_below : Clear host other 0 (header_in host).structure
  clear_below x p q = elim (agree x) [ inl e ↦ e | inr m ↦ absurd (omega (arith, (hidden_inside x m).0)) ]

  clear_behind : (j : ℕ) → Clear host other (header_in host).strings j
  clear_behind j x p q = elim (agree x) [ inl e ↦ e | inr m ↦ absurd (omega (arith, (hidden_inside x m).1, laid.apart)) ]

  word : (i : ℕ) → i ≤ 36 → word_at host i ≡ word_at other i
  word i h = word_same host other i (λ x p q. clear_below x (omega arith) (omega (arith, laid.reservations, laid.entries)))

  pub header_same : header_in host ≡ header_in other
  unfolding header_in
  header_same = λ i.
      record {
        magic = word 0 (omega arith) i;
        total = word 4 (omega arith) i;
        structure = word 8 (omega arith) i;
        strings = word 12 (omega arith) i;
        reservations = word 16 (omega arith) i;
        version = word 20 (omega arith) i;
        compatible = word 24 (omega arith) i;
        boot_cpu = word 28 (omega arith) i;
        strings_size = word 32 (omega arith) i;
        structure_size = word 36 (omega arith) i;
      }

  pub entries_same : entries_in host ≡ entries_in other
  unfolding entries_in
  entries_same =
      rw (← header_same, ← size)
      (entries_from_same host other (suc (length host)) (header_in host).reservations (header_in host).structure clear_below)

  -- 1 to 5 judge alike
  pub header_judged_same : header_judged host ≡ header_judged other
  unfolding header_judged misplaced
  header_judged_same = rw (header_same, entries_same, size)

  cut : (b : Bytes) (x : ℕ) → x < (header_in host).structure_size
      → get_or (part b (header_in host).structure (header_in host).structure_size) x 0 ≡ get_or b ((header_in host).structure + x) 0
  cut b x h =
      get_or-take (header_in host).structure_size (drop (header_in host).structure b) x 0 h ∙ get_or-drop (header_in host).structure b x 0

  beyond : (b : Bytes) (x : ℕ) → (header_in host).structure_size ≤ x → get_or (part b (header_in host).structure (header_in host).structure_size) x 0 ≡ 0
  beyond b x h =
      let l = length-take (header_in host).structure_size (drop (header_in host).structure b) in
      get_or-eq_default (part b (header_in host).structure (header_in host).structure_size) 0 (omega arith)

  -- the other structure block, and its block
  changed : Bytes
  changed = part other (header_in host).structure (header_in host).structure_size

  changed_size : length structure ≡ length changed
  unfolding structure changed
  changed_size = simp (length-take, length-drop, size)

  veil : (x : ℕ) → 0 ≤ x → (get_or structure x 0 ≡ get_or changed x 0) ⊎ Hidden S ((header_in host).structure + x) [] 0 (events_read host)
  unfolding structure changed
  veil x p = by_le (header_in host).structure_size x
      (λ h. inl (beyond host x h ∙ sym (beyond other x h)))
      (λ h. elim (agree ((header_in host).structure + x)) [ inl e ↦ inl (cut host x h ∙ e ∙ sym (cut other x h)) | inr m ↦ inr m ])

  block_same : block_in other ≡ record { place = (header_in host).structure; structure = changed; strings = strings }
  unfolding block_in changed strings
  block_same =
      rw (
        ← header_same,
        part_same host other (header_in host).strings (header_in host).strings_size size
            (clear_behind ((header_in host).strings + (header_in host).strings_size)),
      )

  -- 6 to 9 judge alike
  pub shape_same : shape_judged (block_in host) ≡ shape_judged (block_in other)
  unfolding events_read block_in structure strings
  shape_same = rw block_same (shape_kept S (header_in host).structure strings structure changed changed_size veil)

  -- THE SAME EVENTS BUT FOR WHAT IS HIDDEN
  pub events_same : Veiled (Open S) [] 0 (events_read host) (events_read other)
  unfolding events_read block_in structure strings
  events_same = rw block_same (events_kept S (header_in host).structure strings structure changed changed_size veil)
