-- What is written reads: the words, the tokens, the names and the strings.
use Rattle.std.specs.Prelude.{◌≡◌, refl, Bool, false, ◌&&◌, take, eqb, ltb}
use Rattle.std.proofs.Common.{sym, ◌∙◌, take_at, drop_at, drop-drop}
use Rattle.std.proofs.Math.Path.{ap}
use Rattle.std.proofs.Math.Bool.{true}
use mathlib.Core.List.{[], ◌∷◌, ◌++◌, append_assoc, append-nil}
use Prim.Native.Nat.{ℕ, suc, ◌+◌, ◌-◌, ◌≤◌, ◌<◌}
use native.Mathlib.Omega.{arith}
use Rattle.std.proofs.Math.ListN.{length, drop, length-append}
use Rattle.std.proofs.lemmas.List.{drop-append-le}
use borrow.Author.Tests.{le-leb, lt-ltb, ltb-true, ltb-false}
use Rattle.rules.specs.Octets.{Bytes, word_at, long_at, be32, be64, zeros, padded, filled, part, nul_in, closed, begins}
use Rattle.rules.specs.Names.{property_name_reads}
use Rattle.rules.specs.Tokens.{begin_at, prop_at, tagged, token_at}
use Rattle.rules.specs.Events.{node_name_at, string_at, property_reads}
use Rattle.rules.specs.Writer.{begin_bytes, end_bytes, property_bytes, name_from, name_offset, name_growth}
use Rattle.rules.specs.declared.Token.TheVariants.{Item, End}
use Rattle.rules.specs.declared.Kind.TheVariants.{Begin, EndNode, Prop}
use Rattle.rules.specs.Listing.{◌∈◌}
use Rattle.rules.proofs.Laws.Tests.{by_test, and_true}
use Rattle.rules.proofs.Laws.Octets.{length_be64, part_between, word_be32, long_be64, length_be32, begins_split, nul_closed}
use Rattle.rules.proofs.Laws.Writer.{length_begin, length_property, head_bytes, length_head, offset_le}
use Rattle.rules.proofs.Laws.Lists.{mem_at}

-- ---- words

-- the word behind p is the one that was written there
pub word_at_lem : (p r : Bytes) (n at : ℕ) → length p ≡ at → n < 4294967296 → word_at (p ++ (be32 n ++ r)) at ≡ n
word_at_lem p r n at e h = word_be32 (p ++ (be32 n ++ r)) at n h (rw (e, length_be32 n) at (part_between p (be32 n) r))

-- behind two parts
behind_two : (p a b : Bytes) (at n : ℕ) → length p ≡ at → length a ≡ n → drop (at + n) (p ++ (a ++ b)) ≡ b
behind_two p a b at n e f = sym (drop-drop n at (p ++ (a ++ b))) ∙ ap (drop n) (drop_at p (a ++ b) at e) ∙ drop_at a b n f

pub word_next : (p a r : Bytes) (n at m : ℕ) → length p ≡ at → length a ≡ m → n < 4294967296 → word_at (p ++ (a ++ (be32 n ++ r))) (at + m) ≡ n
word_next p a r n at m e f h =
    ap (λ (s : Bytes). word_at s (at + m)) (sym (append_assoc p a (be32 n ++ r)))
    ∙ word_at_lem (p ++ a) r n (at + m) (rw length-append (omega arith)) h

-- the 64-bit number behind p
pub long_at_lem : (p r : Bytes) (n at : ℕ) → length p ≡ at → n < 18446744073709551616 → long_at (p ++ (be64 n ++ r)) at ≡ n
long_at_lem p r n at e h = long_be64 (p ++ (be64 n ++ r)) at n h (rw (e, length_be64 n) at (part_between p (be64 n) r))

-- ---- names closed by NUL

pub nul_name : (name t : Bytes) → (0 ∈ name → ⊥) → nul_in (name ++ (0 ∷ t)) ≡ length name
nul_name name t h = nul_closed name t (λ i k e. h (rw e at (mem_at name i 0 k)))

-- ---- padding

filled_front : (bs r : Bytes) → take (length bs) (filled bs ++ r) ≡ bs
unfolding filled
filled_front bs r =
    let z : Bytes = zeros (padded (length bs) - length bs) in
    ap (take (length bs)) (append_assoc bs z r) ∙ take_at bs (z ++ r) (length bs) refl

closed_filled : (name r : Bytes) → (t : Bytes) × (filled (closed name) ++ r ≡ name ++ (0 ∷ t))
unfolding filled
closed_filled name r =
    let z : Bytes = zeros (padded (length (closed name)) - length (closed name)) in
    (z ++ r, append_assoc (closed name) z r ∙ append_assoc name (0 ∷ []) (z ++ r))

-- ---- tokens

pub tok : (s : Bytes) (at w : ℕ) → at + 4 ≤ length s → word_at s at ≡ w → token_at s at ≡ tagged w s (at + 4)
unfolding token_at
tok s at w h e = rw (le-leb (at + 4) (length s) h, e)

pub begin_is : (s : Bytes) (b n : ℕ) → nul_in (drop b s) ≡ n → b + padded (n + 1) ≤ length s → begin_at s b ≡ Item (Begin n) (b + padded (n + 1))
unfolding begin_at
begin_is s b n e h = rw (e, le-leb (b + padded (n + 1)) (length s) h)

pub prop_is : (s : Bytes) (b len off : ℕ) → word_at s b ≡ len → word_at s (b + 4) ≡ off → b + 8 + padded len ≤ length s
    → prop_at s b ≡ Item (Prop len off (b + 8)) (b + 8 + padded len)
unfolding prop_at
prop_is s b len off e o h = rw (e, o, le-leb (b + 8) (length s) (omega arith), le-leb (b + 8 + padded len) (length s) h)

-- END_NODE, and the END of the structure, behind p
pub end_written : (p r : Bytes) (at : ℕ) → length p ≡ at → token_at (p ++ (end_bytes ++ r)) at ≡ Item EndNode (at + 4)
unfolding end_bytes tagged
end_written p r at e =
    let l : length (p ++ (be32 2 ++ r)) ≡ length p + (4 + length r) = rw (length-append, length-append, length_be32 2) in
    tok (p ++ (be32 2 ++ r)) at 2 (omega arith) (word_at_lem p r 2 at e (omega arith))

pub last_written : (p : Bytes) (at : ℕ) → length p ≡ at → token_at (p ++ be32 9) at ≡ End
unfolding tagged
last_written p at e =
    let l : length (p ++ be32 9) ≡ length p + 4 = rw (length-append, length_be32 9) in
    tok (p ++ be32 9) at 9 (omega arith) (ap (λ (b : Bytes). word_at (p ++ b) at) (sym (append-nil (be32 9))) ∙ word_at_lem p [] 9 at e (omega arith))

-- BEGIN behind p
module _ (p r name : Bytes) (at : ℕ) (e : length p ≡ at) (plain : 0 ∈ name → ⊥) where
  begun : Bytes
  begun = p ++ (be32 1 ++ (filled (closed name) ++ r))

  begin_is_begun : p ++ (begin_bytes name ++ r) ≡ begun
  unfolding begin_bytes begun
  begin_is_begun = ap (λ (b : Bytes). p ++ b) (append_assoc (be32 1) (filled (closed name)) r)

  begun_length : length begun ≡ at + 4 + padded (length name + 1) + length r
  begun_length =
      ap length (sym begin_is_begun)
      ∙ rw (length-append p (begin_bytes name ++ r), length-append (begin_bytes name) r, length_begin name) (omega arith)

  begun_behind : (t : Bytes) × (drop (at + 4) begun ≡ name ++ (0 ∷ t))
  unfolding begun
  begun_behind =
      let c = closed_filled name r in
      (c.0, behind_two p (be32 1) (filled (closed name) ++ r) at 4 e (length_be32 1) ∙ c.1)

  pub begin_written : token_at (p ++ (begin_bytes name ++ r)) at ≡ Item (Begin (length name)) (at + 4 + padded (length name + 1))
  unfolding tagged begun
  begin_written =
      let l = begun_length in
      rw begin_is_begun
      (tok begun at 1 (omega arith) (word_at_lem p (filled (closed name) ++ r) 1 at e (omega arith))
      ∙ begin_is begun (at + 4) (length name) (ap nul_in begun_behind.1 ∙ nul_name name begun_behind.0 plain) (omega arith))

  pub begin_named : node_name_at (p ++ (begin_bytes name ++ r)) at (length name) ≡ name
  begin_named =
      rw begin_is_begun
      (ap (take (length name)) begun_behind.1 ∙ take_at name (0 ∷ begun_behind.0) (length name) refl)

-- PROP behind p
module _ (p r value : Bytes) (offset at : ℕ) (e : length p ≡ at) (small : length value < 4294967296) (near : offset < 4294967296) where
  set : Bytes
  set = p ++ (be32 3 ++ (be32 (length value) ++ (be32 offset ++ (filled value ++ r))))

  property_is_set : p ++ (property_bytes offset value ++ r) ≡ set
  unfolding property_bytes set
  property_is_set = simp append_assoc

  set_length : length set ≡ at + 4 + 8 + padded (length value) + length r
  set_length =
      ap length (sym property_is_set)
      ∙ rw (length-append p (property_bytes offset value ++ r), length-append (property_bytes offset value) r, length_property offset value) (omega arith)

  set_behind : drop (at + 4 + 8) set ≡ filled value ++ r
  unfolding set
  set_behind =
      let a : Bytes = head_bytes (length value) offset in
      let q : p ++ (be32 3 ++ (be32 (length value) ++ (be32 offset ++ (filled value ++ r)))) ≡ p ++ (a ++ (filled value ++ r)) = simp append_assoc in
      let n : at + 4 + 8 ≡ at + 12 = omega arith in
      rw (q, n)
      (behind_two p a (filled value ++ r) at 12 e (length_head (length value) offset))

  set_word : word_at set (at + 4) ≡ length value
  unfolding set
  set_word = word_next p (be32 3) (be32 offset ++ (filled value ++ r)) (length value) at 4 e (length_be32 3) small

  set_offset : word_at set (at + 4 + 4) ≡ offset
  unfolding set
  set_offset =
      ap (λ (s : Bytes). word_at s (at + 4 + 4)) (sym (append_assoc p (be32 3) (be32 (length value) ++ (be32 offset ++ (filled value ++ r)))))
      ∙ word_next (p ++ be32 3) (be32 (length value)) (filled value ++ r) offset (at + 4) 4 (rw (length-append, length_be32 3) (omega arith))
      (length_be32 (length value)) near

  pub property_written : token_at (p ++ (property_bytes offset value ++ r)) at
      ≡ Item (Prop (length value) offset (at + 4 + 8)) (at + 4 + 8 + padded (length value))
  unfolding tagged set
  property_written =
      let l = set_length in
      rw property_is_set
      (tok set at 3 (omega arith) (word_at_lem p (be32 (length value) ++ (be32 offset ++ (filled value ++ r))) 3 at e (omega arith))
      ∙ prop_is set (at + 4) (length value) offset set_word set_offset (omega arith))

  pub property_valued : part (p ++ (property_bytes offset value ++ r)) (at + 4 + 8) (length value) ≡ value
  property_valued = rw property_is_set (ap (take (length value)) set_behind ∙ filled_front value r)

-- ---- strings

module _ (name : Bytes) where
  from_here : (start : Bool) (b : ℕ) (bs : Bytes) → (start && begins (closed name) (b ∷ bs)) ≡ true → name_from start name (b ∷ bs) ≡ 0
  unfolding name_from
  from_here start b bs e = rw (e, name_from)

  from_past : (start : Bool) (b : ℕ) (bs : Bytes) → (start && begins (closed name) (b ∷ bs)) ≡ false
      → name_from start name (b ∷ bs) ≡ suc (name_from (eqb b 0) name bs)
  unfolding name_from
  from_past start b bs e = rw (e, name_from)

  found_begins : (start : Bool) (s : Bytes) → name_from start name s < length s → begins (closed name) (drop (name_from start name s) s) ≡ true
  unfolding name_from
  found_begins start [] h = absurd (omega arith)
  found_begins start (b ∷ bs) h = by_test (start && begins (closed name) (b ∷ bs))
      (λ e. rw (from_here start b bs e) (and_true start (begins (closed name) (b ∷ bs)) e).1)
      (λ e. rw (from_past start b bs e) (found_begins (eqb b 0) bs (omega (arith, from_past start b bs e))))

  -- where the name is interned it stands, closed, whatever is appended later
  pub interned : (s t : Bytes) → (z : Bytes) × (drop (name_offset name s) ((s ++ name_growth name s) ++ t) ≡ name ++ (0 ∷ z))
  unfolding name_growth
  interned s t = by_test (ltb (name_offset name s) (length s))
      (λ e. let h : name_offset name s < length s = ltb-true (name_offset name s) (length s) e in
      let b = begins_split (closed name) (drop (name_offset name s) s) (found_begins true s h) in
      let y : Bytes = drop (length (closed name)) (drop (name_offset name s) s) in (
        y ++ t,
        rw (e, append-nil)
            (drop-append-le (name_offset name s) s t (omega arith)
            ∙ ap (λ (l : Bytes). l ++ t) b
            ∙ append_assoc (closed name) y t
            ∙ append_assoc name (0 ∷ []) (y ++ t)),
      ))
      (λ e. let q : length s ≡ name_offset name s = omega (arith, ltb-false (name_offset name s) (length s) e, offset_le name s) in
      (t, rw (e, append_assoc s (closed name) t) (drop_at s (closed name ++ t) (name_offset name s) q ∙ append_assoc name (0 ∷ []) t)))

-- a name that stands at an offset and ends at its NUL is read there
module _ (strings name z : Bytes) (offset : ℕ) (stands : drop offset strings ≡ name ++ (0 ∷ z)) (ends : nul_in (name ++ (0 ∷ z)) ≡ length name) where
  pub string_ends : string_at strings offset ≡ name
  unfolding string_at
  string_ends = rw (stands, ends) (take_at name (0 ∷ z) (length name) refl)

  pub reads_ends : property_reads strings offset ≡ property_name_reads name
  unfolding property_reads
  reads_ends =
      let l : length (name ++ (0 ∷ z)) ≡ length name + suc (length z) = length-append name (0 ∷ z) in
      rw (string_ends, stands, ends, lt-ltb (length name) (length (name ++ (0 ∷ z))) (omega arith))

module _ (strings name z : Bytes) (offset : ℕ) (stands : drop offset strings ≡ name ++ (0 ∷ z)) (plain : 0 ∈ name → ⊥) where
  pub string_stands : string_at strings offset ≡ name
  string_stands = string_ends strings name z offset stands (nul_name name z plain)

  pub string_reads : property_reads strings offset ≡ property_name_reads name
  string_reads = reads_ends strings name z offset stands (nul_name name z plain)
