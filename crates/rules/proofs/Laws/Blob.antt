-- The laws of the header: the reservations one by one, and where the blocks of a header that passes stand.
use Rattle.std.specs.Prelude.{◌≡◌, refl, Bool, true, false, not, ◌||◌, List, [], ◌∷◌, ℕ, zero, suc, ◌+◌, ◌%◌, ◌≤◌, ◌<◌, eqb, ltb, length}
use Rattle.std.proofs.Common.{sym, ap, ◌∙◌, arith, length-take, length-drop, ltb-false, lt-ltb, le-ltb}
use Rattle.std.proofs.Math.Option.{Option, none, some, map}
use Rattle.rules.specs.Ceilings.{blob_ceiling}
use Rattle.rules.specs.Octets.{Bytes, long_at}
use Rattle.rules.specs.Outcome.{passes, first}
use Rattle.rules.specs.Reservations.{Entry}
use Rattle.rules.specs.Blob.{Header, header_in, entries_from, entries_in, missing, misplaced, header_judged, block_in}
use Rattle.rules.proofs.Laws.Tests.{by_test, by_le, never, or_false}
use Rattle.rules.proofs.Laws.Octets.{word_past}
use Rattle.rules.specs.Laws.Blob.{zero_pair}

-- ---- reservations

-- past the end all is zero
pub zero_past : (b : Bytes) (at : ℕ) → length b ≤ at → zero_pair b at ≡ true
unfolding long_at
zero_past b at h =
    rw (word_past b at h, word_past b (at + 4) (omega arith), word_past b (at + 8) (omega arith), word_past b (at + 8 + 4) (omega arith))

-- one turn: no room for a pair, the pair that closes, another
module _ (b : Bytes) (fuel at limit : ℕ) where
  pub entries_cut : ltb limit (at + 16) ≡ true → entries_from (suc fuel) b at limit ≡ none
  unfolding entries_from
  entries_cut e = rw (e, entries_from)

  pub entries_last : ltb limit (at + 16) ≡ false → zero_pair b at ≡ true
      → entries_from (suc fuel) b at limit ≡ some []
  unfolding entries_from
  entries_last e f = rw (e, f, entries_from)

  pub entries_more : ltb limit (at + 16) ≡ false → zero_pair b at ≡ false
      → entries_from (suc fuel) b at limit
      ≡ map (λ (es : List Entry). record { address = long_at b at; size = long_at b (at + 8) } ∷ es) (entries_from fuel b (at + 16) limit)
  unfolding entries_from
  entries_more e f = rw (e, f, entries_from)

-- no room for a pair
pub entries_none : (fuel : ℕ) (b : Bytes) (at limit : ℕ) → limit < at + 16 → missing (entries_from fuel b at limit) ≡ true
unfolding entries_from
entries_none zero b at limit h = refl
entries_none (suc fuel) b at limit h = ap missing (entries_cut b fuel at limit (lt-ltb limit (at + 16) h))

-- the pair that closes
pub entries_here : (fuel : ℕ) (b : Bytes) (at limit : ℕ) → 0 < fuel → at + 16 ≤ limit → zero_pair b at ≡ true → missing (entries_from fuel b at limit) ≡ false
entries_here zero b at limit p h e = absurd (let z : ⊥ = omega arith in z)
entries_here (suc fuel) b at limit p h e = ap missing (entries_last b fuel at limit (le-ltb limit (at + 16) h) e)

missing_map : {A B : Type 0} (f : A → B) (o : Option A) → missing (map f o) ≡ missing o
missing_map f none = refl
missing_map f (some a) = refl

-- another
entries_on : (fuel : ℕ) (b : Bytes) (at limit : ℕ) → at + 16 ≤ limit → zero_pair b at ≡ false
    → missing (entries_from (suc fuel) b at limit) ≡ missing (entries_from fuel b (at + 16) limit)
entries_on fuel b at limit h e = ap missing (entries_more b fuel at limit (le-ltb limit (at + 16) h) e) ∙ missing_map _ (entries_from fuel b (at + 16) limit)

-- where they are not cut, there is room for one
entries_fit : (b : Bytes) (fuel at limit : ℕ) → missing (entries_from (suc fuel) b at limit) ≡ false → at + 16 ≤ limit
entries_fit b fuel at limit h = by_test (ltb limit (at + 16))
    (λ e. never true refl (rw (entries_cut b fuel at limit e) at h))
    (λ e. ltb-false limit (at + 16) e)

-- a loop over them: the rest, from here on, is the whole
pub record Searched (b : Bytes) (from limit at : ℕ) : Type 0 where
  pub fuel : ℕ
  pub left : 0 < fuel
  pub enough : length b < fuel + at
  pub same : missing (entries_from fuel b at limit) ≡ missing (entries_from (suc (length b)) b from limit)

pub search_starts : (b : Bytes) (from limit : ℕ) → Searched b from limit from
search_starts b from limit = record { fuel = suc (length b); left = omega arith; enough = omega arith; same = refl }

pub search_on : (b : Bytes) (from limit at : ℕ) → Searched b from limit at → at + 16 ≤ limit → zero_pair b at ≡ false → Searched b from limit (at + 16)
search_on b from limit at i h e = go i.fuel i.left i.enough i.same
  where
    inside : at < length b
    inside = by_le (length b) at (λ k. never (zero_pair b at) (zero_past b at k) e) (λ k. k)

    go : (f : ℕ) → 0 < f → length b < f + at → missing (entries_from f b at limit) ≡ missing (entries_from (suc (length b)) b from limit) → Searched b from limit (at + 16)
    go zero p q r = absurd (let z : ⊥ = omega arith in z)
    go (suc f) p q r = record { fuel = f; left = omega (arith, inside); enough = omega arith; same = sym (entries_on f b at limit h e) ∙ r }

-- ---- what a header that passes says

pub record Inside (b : Bytes) : Type 0 where
  pub long : 40 ≤ length b
  pub total : (header_in b).total ≤ length b
  pub small : (header_in b).total ≤ blob_ceiling
  pub apart : (header_in b).structure + (header_in b).structure_size ≤ (header_in b).strings
  pub last : (header_in b).strings + (header_in b).strings_size ≤ (header_in b).total
  pub reservations : 40 ≤ (header_in b).reservations
  pub entries : (header_in b).reservations + 16 ≤ (header_in b).structure

-- what five tests in order, and seven at once, say where they pass
pub five_passed : (a b c d e : Bool)
    → first
    (record { fails = a; number = 1; place = 0 }
    ∷ record { fails = b; number = 2; place = 0 }
    ∷ record { fails = c; number = 3; place = 0 }
    ∷ record { fails = d; number = 4; place = 0 }
    ∷ record { fails = e; number = 5; place = 0 } ∷ [])
    ≡ passes
    → (a ≡ false) × (c ≡ false) × (e ≡ false)
five_passed true b c d e h = let z : ◌≡◌ {A = ℕ} 0 1 = cc in absurd (omega arith)
five_passed false true c d e h = let z : ◌≡◌ {A = ℕ} 0 1 = cc in absurd (omega arith)
five_passed false false true d e h = let z : ◌≡◌ {A = ℕ} 0 1 = cc in absurd (omega arith)
five_passed false false false true e h = let z : ◌≡◌ {A = ℕ} 0 1 = cc in absurd (omega arith)
five_passed false false false false true h = let z : ◌≡◌ {A = ℕ} 0 1 = cc in absurd (omega arith)
five_passed false false false false false h = (refl, refl, refl)

seven_passed : (a b c d e f g : Bool) → (a || b || c || d || e || f || g) ≡ false → (a ≡ false) × (e ≡ false) × (f ≡ false) × (g ≡ false)
seven_passed a b c d e f g h =
    let p = or_false (a || b || c || d || e || f) g h in
    let q = or_false (a || b || c || d || e) f p.0 in
    let r = or_false (a || b || c || d) e q.0 in
    ((or_false a b (or_false (a || b) c (or_false (a || b || c) d r.0).0).0).0, r.1, q.1, p.1)

pub header_inside : (b : Bytes) → header_judged b ≡ passes → Inside b
unfolding header_judged misplaced entries_in
header_inside b e =
    let h : Header = header_in b in
    let p =
    five_passed (ltb (length b) 40) (not (eqb h.magic 0xd00dfeed)) (ltb h.total 40 || ltb (length b) h.total || ltb blob_ceiling h.total) (not (eqb h.version 17) || not (eqb h.compatible 16)) (misplaced b) e in
    let t = or_false (ltb h.total 40 || ltb (length b) h.total) (ltb blob_ceiling h.total) p.1 in
    let u = or_false (ltb h.total 40) (ltb (length b) h.total) t.0 in
    let m =
    seven_passed (ltb h.reservations 40) (not (eqb (h.reservations % 8) 0)) (not (eqb (h.structure % 4) 0)) (not (eqb (h.structure_size % 4) 0)) (missing (entries_in b)) (ltb h.strings (h.structure + h.structure_size)) (ltb h.total (h.strings + h.strings_size)) p.2 in
    record {
      long = ltb-false (length b) 40 p.0;
      total = ltb-false (length b) h.total u.1;
      small = ltb-false blob_ceiling h.total t.1;
      apart = ltb-false h.strings (h.structure + h.structure_size) m.2;
      last = ltb-false h.total (h.strings + h.strings_size) m.3;
      reservations = ltb-false h.reservations 40 m.0;
      entries = entries_fit b (length b) h.reservations h.structure m.1;
    }

-- the structure block ends inside the blob
pub block_inside : (b : Bytes) → Inside b → (block_in b).place + length (block_in b).structure ≤ length b
unfolding block_in
block_inside b i = simp (length-take, length-drop) (omega arith)
