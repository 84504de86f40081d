-- Padding, gaps and what stands past totalsize are not examined: two blobs that agree elsewhere are judged and read the same.
use Rattle.std.proofs.Math.Path.{◌≡◌, refl, sym, ap}
use Rattle.std.proofs.Common.{◌∙◌}
use Rattle.std.proofs.Math.Logic.{inl, inr}
use Rattle.std.specs.Prelude.{Bool, true, false, not, ◌&&◌, ◌||◌, length, get_or, drop, eqb, leb, ltb}
use mathlib.Core.List.{List, ◌∷◌}
use Rattle.std.proofs.Math.Option.{Option, none, some, map}
use Prim.Native.Nat.{ℕ, zero, suc, ◌+◌, ◌-◌, ◌%◌, ◌≤◌, ◌<◌}
use native.Mathlib.Omega.{arith}
use Rattle.std.proofs.Math.ListN.{length-take, length-drop, get_or-eq_default}
use borrow.Author.Tests.{leb-true, ltb-true, ltb-false, lt-leb, le-ltb}
use Rattle.rules.specs.Octets.{Bytes, word_at, long_at, part}
use Rattle.rules.specs.Outcome.{Outcome, Verdict, gives, refuses, passes, ◌then◌}
use Rattle.rules.specs.Reservations.{Entry}
use Rattle.rules.specs.Blob.{Header, header_in, entries_from, entries_in, missing, misplaced, header_judged, Block, block_in}
use Rattle.rules.specs.Tokens.{Placed, token_at, following, tokens_from, tokens}
use Rattle.rules.specs.Events.{Walk, at_start, node_name_at, string_at, property_reads, opening, closing, holding, judge, shape_judged, Event, opens, has, closes, events_of, events_in}
use Rattle.rules.specs.Tree.{Tree, nodes_of, doubled_judged, words_judged, shared_judged}
use Rattle.rules.specs.Reader.{events_read, tree_read, blob_judged, space_judged, read, rows_of, table_of, read_work}
use Rattle.rules.specs.Exactly.{spans, padding_of, padding_in, end_of, gap, unexamined, Examined, PaddingNotExamined}
use Rattle.rules.specs.declared.Token.{Token}
use Rattle.rules.specs.declared.Token.TheVariants.{Item, End, Cut}
use Rattle.rules.specs.declared.Kind.TheVariants.{Begin, EndNode, Prop, Nop}
use Rattle.rules.proofs.Laws.Tests.{by_test, by_le, and_true, and_none, or_cases, or_left, or_right, false_or, not_passed}
use Rattle.rules.proofs.Laws.Verdicts.{then_passes}
use Rattle.rules.proofs.Laws.Octets.{byte_part}
use Rattle.rules.proofs.Laws.Tokens.{BeginSeen, PropSeen, TagSeen, Seen, token_seen}
use Rattle.rules.specs.Laws.Blob.{zero_pair}
use Rattle.rules.proofs.Laws.Blob.{entries_cut, entries_last, entries_more, Inside, header_inside}
use Rattle.rules.proofs.Laws.Secrecy.Tokens.{Clear, word_same, part_same, begin_same, prop_at_same, token_same, after_same}
use Rattle.rules.proofs.Laws.Secrecy.Blob.{long_same}

-- ---- spans

spans_in : (from to x : ℕ) → spans from to x ≡ true → (from ≤ x) × (x < to)
spans_in from to x e = let k = and_true (leb from x) (ltb x to) e in (leb-true from x k.0, ltb-true x to k.1)

spans_before : (from to x : ℕ) → x < from → spans from to x ≡ false
spans_before from to x h = rw (lt-leb from x h)

spans_behind : (from to x : ℕ) → to ≤ x → spans from to x ≡ false
spans_behind from to x h = rw (le-ltb x to h) (and_none (leb from x))

-- ---- the structure block

module _ (place : ℕ) (strings s : Bytes) where
  abbrev host : Block
  host = record { place = place; structure = s; strings = strings }

  -- the padding of tokens from a place on stands behind it, and inside
  abbrev Behind : ℕ → ℕ → Type 0
  Behind fuel at = (x : ℕ) → padding_in (tokens_from fuel s at) x ≡ true → (at + 4 ≤ x) × (x < length s)

  padding_token : (at : ℕ) (k : Token) → Seen s at k → (x : ℕ) → padding_of at k x ≡ true → (at + 4 ≤ x) × (x < length s)
  padding_token at (Item (Begin len) next) r x e =
      let p = spans_in (at + 4 + len + 1) next x e in (omega (arith, p.0), omega (arith, p.1, r.inside))
  padding_token at (Item EndNode next) r x e = let z : ◌≡◌ {A = ℕ} 0 1 = cc in absurd (omega arith)
  padding_token at (Item (Prop len name value) next) r x e =
      let p = spans_in (value + len) next x e in (omega (arith, p.0, r.begins), omega (arith, p.1, r.inside))
  padding_token at (Item Nop next) r x e = let z : ◌≡◌ {A = ℕ} 0 1 = cc in absurd (omega arith)
  padding_token at End r x e = let z : ◌≡◌ {A = ℕ} 0 1 = cc in absurd (omega arith)
  padding_token at Cut r x e = let z : ◌≡◌ {A = ℕ} 0 1 = cc in absurd (omega arith)

  behind_rest : (fuel at : ℕ) → ((next : ℕ) → Behind fuel next) → (k : Token) → Seen s at k → (x : ℕ) → padding_in (following (tokens_from fuel s) k) x ≡ true
      → (at + 4 ≤ x) × (x < length s)
  unfolding padding_in
  behind_rest fuel at ih (Item (Begin len) next) r x e = let p = ih next x e in (omega (arith, p.0, r.ends), p.1)
  behind_rest fuel at ih (Item EndNode next) r x e = let p = ih next x e in (omega (arith, p.0, r.ends), p.1)
  behind_rest fuel at ih (Item (Prop len name value) next) r x e = let p = ih next x e in (omega (arith, p.0, r.ends), p.1)
  behind_rest fuel at ih (Item Nop next) r x e = let p = ih next x e in (omega (arith, p.0, r.ends), p.1)
  behind_rest fuel at ih End r x e = let z : ◌≡◌ {A = ℕ} 0 1 = cc in absurd (omega arith)
  behind_rest fuel at ih Cut r x e = let z : ◌≡◌ {A = ℕ} 0 1 = cc in absurd (omega arith)

  padding_behind : (fuel at : ℕ) → Behind fuel at
  unfolding tokens_from padding_in
  padding_behind zero at x e = let z : ◌≡◌ {A = ℕ} 0 1 = cc in absurd (omega arith)
  padding_behind (suc fuel) at x e =
      elim (or_cases (padding_of at (token_at s at) x) (padding_in (following (tokens_from fuel s) (token_at s at)) x) e) [
        | inl h ↦ padding_token at (token_at s at) (token_seen s at) x h
        | inr h ↦ behind_rest fuel at (padding_behind fuel) (token_at s at) (token_seen s at) x h
      ]

  -- before a place there is none of it
  none_before : (fuel at x : ℕ) → x < at + 4 → padding_in (tokens_from fuel s at) x ≡ false
  none_before fuel at x h =
      not_passed (padding_in (tokens_from fuel s at) x) (λ e. let z : ⊥ = omega (arith, (padding_behind fuel at x e).0) in z)

  padding_inside : (x : ℕ) → length s ≤ x → padding_in (tokens s) x ≡ false
  unfolding tokens
  padding_inside x h =
      not_passed (padding_in (tokens_from (suc (length s)) s 0) x) (λ e. let z : ⊥ = omega (arith, (padding_behind (suc (length s)) 0 x e).1) in z)

  module _ (c : Bytes) (size : length s ≡ length c) where
    abbrev other : Block
    other = record { place = place; structure = c; strings = strings }

    -- from a place on the blocks agree but in the padding of these tokens
    abbrev Even : ℕ → List Placed → Type 0
    Even at ts = (x : ℕ) → at ≤ x → padding_in ts x ≡ false → get_or s x 0 ≡ get_or c x 0

    -- the token at a place and those behind it
    abbrev here : ℕ → ℕ → Token → List Placed
    here fuel at k = record { at = at; token = k } ∷ following (tokens_from fuel s) k

    begin_clear : (fuel at len next : ℕ) → BeginSeen s at len next → Even at (here fuel at (Item (Begin len) next)) → Clear s c at (at + 4 + len + 1)
    unfolding padding_in
    begin_clear fuel at len next r v x p q =
        v x p (false_or _ _ (spans_before (at + 4 + len + 1) next x q) (none_before fuel next x (omega (arith, r.ends))))

    prop_clear : (fuel at len name value next : ℕ) → PropSeen s at len name value next → Even at (here fuel at (Item (Prop len name value) next))
        → Clear s c at (value + len)
    unfolding padding_in
    prop_clear fuel at len name value next r v x p q =
        v x p (false_or _ _ (spans_before (value + len) next x q) (none_before fuel next x (omega (arith, r.ends, r.begins))))

    -- a tag alone, and what is no item
    tag_clear : (fuel at next v : ℕ) → TagSeen s at next v → ((x : ℕ) → at ≤ x → padding_in (tokens_from fuel s next) x ≡ false → get_or s x 0 ≡ get_or c x 0)
        → Clear s c at (at + 4)
    tag_clear fuel at next v r e x p q = e x p (none_before fuel next x (omega (arith, r.ends)))

    -- the token at a place is the same
    token_kept : (fuel at : ℕ) (k : Token) → Seen s at k → Even at (here fuel at k) → token_at s at ≡ token_at c at
    unfolding padding_in
    token_kept fuel at (Item (Begin len) next) r v =
        let clear : Clear s c at (at + 4 + len + 1) = begin_clear fuel at len next r v in
        token_same s c size at (λ x p q. clear x p (omega arith))
        (λ e. begin_same s c size (at + 4) (λ x p q. clear x (omega arith) (omega (arith, r.name))))
        (λ (e : word_at s at ≡ 3). absurd (omega (arith, r.tag)))
    token_kept fuel at (Item EndNode next) r v =
        token_same s c size at (tag_clear fuel at next 2 r v)
        (λ (e : word_at s at ≡ 1). absurd (omega (arith, r.tag)))
        (λ (e : word_at s at ≡ 3). absurd (omega (arith, r.tag)))
    token_kept fuel at (Item (Prop len name value) next) r v =
        let clear : Clear s c at (value + len) = prop_clear fuel at len name value next r v in
        token_same s c size at (λ x p q. clear x p (omega (arith, r.begins)))
        (λ (e : word_at s at ≡ 1). absurd (omega (arith, r.tag)))
        (λ e. prop_at_same s c size (at + 4) (λ x p q. clear x (omega arith) (omega (arith, r.begins))))
    token_kept fuel at (Item Nop next) r v =
        token_same s c size at (tag_clear fuel at next 4 r v)
        (λ (e : word_at s at ≡ 1). absurd (omega (arith, r.tag)))
        (λ (e : word_at s at ≡ 3). absurd (omega (arith, r.tag)))
    token_kept fuel at End r v =
        token_same s c size at (λ x p q. v x p refl)
        (λ e. begin_same s c size (at + 4) (λ x p q. v x (omega arith) refl))
        (λ e. prop_at_same s c size (at + 4) (λ x p q. v x (omega arith) refl))
    token_kept fuel at Cut r v =
        token_same s c size at (λ x p q. v x p refl)
        (λ e. begin_same s c size (at + 4) (λ x p q. v x (omega arith) refl))
        (λ e. prop_at_same s c size (at + 4) (λ x p q. v x (omega arith) refl))

    -- the same judgement, and the same events
    record Kept (ts us : List Placed) : Type 0 where
      shape : (w : Walk) → judge host w ts ≡ judge other w us
      events : events_of host ts ≡ events_of other us

    -- what holds from the next place on holds from this one on, whichever token stands here
    kept_token : (fuel at : ℕ) (k : Token) → Seen s at k → ((next : ℕ) → Even next (tokens_from fuel s next) → Kept (tokens_from fuel s next) (tokens_from fuel c next))
        → Even at (here fuel at k) → Kept (here fuel at k) (record { at = at; token = k } ∷ following (tokens_from fuel c) k)
    unfolding judge events_of padding_in
    kept_token fuel at (Item (Begin len) next) r ih v =
        let w = ih next (λ x p n. v x (omega (arith, r.ends)) (false_or _ _ (spans_behind (at + 4 + len + 1) next x p) n)) in
        let clear : Clear s c at (at + 4 + len + 1) = begin_clear fuel at len next r v in
        let e : node_name_at s at len ≡ node_name_at c at len = part_same s c (at + 4) len size (λ x p q. clear x (omega arith) (omega arith)) in
        record {
          shape = λ z. rw e (after_same _ _ (place + at) (opening z (node_name_at c at len)) w.shape);
          events = rw e (ap (λ (es : List Event). opens (place + at) (node_name_at c at len) ∷ es) w.events);
        }
    kept_token fuel at (Item EndNode next) r ih v =
        let w = ih next (λ x p n. v x (omega (arith, r.ends)) n) in
        record {
          shape = λ z. after_same _ _ (place + at) (closing z) w.shape;
          events = ap (λ (es : List Event). closes (place + at) ∷ es) w.events;
        }
    kept_token fuel at (Item (Prop len name value) next) r ih v =
        let w = ih next (λ x p n. v x (omega (arith, r.ends)) (false_or _ _ (spans_behind (value + len) next x p) n)) in
        let clear : Clear s c at (value + len) = prop_clear fuel at len name value next r v in
        let e : part s value len ≡ part c value len = part_same s c value len size (λ x p q. clear x (omega (arith, r.begins)) q) in
        let put : Bytes → List Event → List Event =
        λ (y : Bytes) (es : List Event). has (record { place = place + at; name = string_at strings name; value = y }) ∷ es in
        record {
          shape = λ z. after_same _ _ (place + at) (holding z (property_reads strings name)) w.shape;
          events = λ i. put (e i) (w.events i);
        }
    kept_token fuel at (Item Nop next) r ih v =
        let w = ih next (λ x p n. v x (omega (arith, r.ends)) n) in
        record { shape = λ z. w.shape z; events = w.events }
    kept_token fuel at End r ih v = record { shape = λ z. rw size; events = refl }
    kept_token fuel at Cut r ih v = record { shape = λ z. refl; events = refl }

    kept : (fuel at : ℕ) → Even at (tokens_from fuel s at) → Kept (tokens_from fuel s at) (tokens_from fuel c at)
    unfolding tokens_from judge events_of
    kept zero at v = record { shape = λ z. refl; events = refl }
    kept (suc fuel) at v =
        rw (← token_kept fuel at (token_at s at) (token_seen s at) v)
        (kept_token fuel at (token_at s at) (token_seen s at) (kept fuel) v)

    shape_kept : Even 0 (tokens s) → shape_judged host ≡ shape_judged other
    unfolding shape_judged tokens
    shape_kept v = rw (← size) ((kept (suc (length s)) 0 v).shape at_start)

    events_kept : Even 0 (tokens s) → events_in host ≡ events_in other
    unfolding events_in tokens
    events_kept v = rw (← size) (kept (suc (length s)) 0 v).events

-- ---- the reservations

module _ (s c : Bytes) (limit : ℕ) where
  abbrev ending : ℕ → ℕ → ℕ
  ending fuel at = end_of at limit (entries_from fuel s at limit)

  end_map : (e : Entry) (at : ℕ) (o : Option (List Entry)) → end_of at limit (map (λ (es : List Entry). e ∷ es) o) ≡ end_of (at + 16) limit o
  end_map e at none = refl
  end_map e at (some es) = omega arith

  end_more : (fuel at : ℕ) → ltb limit (at + 16) ≡ false → zero_pair s at ≡ false → ending (suc fuel) at ≡ ending fuel (at + 16)
  end_more fuel at e f =
      ap (end_of at limit) (entries_more s fuel at limit e f)
      ∙ end_map (record { address = long_at s at; size = long_at s (at + 8) }) at (entries_from fuel s (at + 16) limit)

  end_low : (fuel at : ℕ) → ending fuel at ≤ limit
  unfolding entries_from
  end_low zero at = omega arith
  end_low (suc fuel) at = by_test (ltb limit (at + 16))
      (λ e. rw (entries_cut s fuel at limit e) (omega arith))
      (λ e. by_test (zero_pair s at)
      (λ f. rw (entries_last s fuel at limit e f) (omega (arith, ltb-false limit (at + 16) e)))
      (λ f. rw (end_more fuel at e f) (end_low fuel (at + 16))))

  end_high : (at : ℕ) (o : Option (List Entry)) → at ≤ limit → at ≤ end_of at limit o
  end_high at none h = h
  end_high at (some es) h = omega arith

  entries_kept : (fuel at : ℕ) → Clear s c at (ending fuel at) → entries_from fuel s at limit ≡ entries_from fuel c at limit
  unfolding entries_from
  entries_kept zero at h = refl
  entries_kept (suc fuel) at h = by_test (ltb limit (at + 16))
      (λ e. entries_cut s fuel at limit e ∙ sym (entries_cut c fuel at limit e))
      (λ e. let l : at + 16 ≤ limit = ltb-false limit (at + 16) e in
      let same : Clear s c at (at + 16) → (long_at s at ≡ long_at c at) × (long_at s (at + 8) ≡ long_at c (at + 8)) =
      λ k. (long_same s c at (λ x a b. k x a (omega arith)), long_same s c (at + 8) (λ x a b. k x (omega arith) (omega arith))) in
      by_test (zero_pair s at)
      (λ f. let n : ending (suc fuel) at ≡ at + 16 = ap (end_of at limit) (entries_last s fuel at limit e f) in
      let k = same (λ x a b. h x a (omega arith)) in
      entries_last s fuel at limit e f ∙ sym (entries_last c fuel at limit e (rw (k.0, k.1) at f)))
      (λ f. let n : ending (suc fuel) at ≡ ending fuel (at + 16) = end_more fuel at e f in
      let m : at + 16 ≤ ending fuel (at + 16) = end_high (at + 16) (entries_from fuel s (at + 16) limit) l in
      let k = same (λ x a b. h x a (omega arith)) in
      entries_more s fuel at limit e f
      ∙ rw (k.0, k.1, entries_kept fuel (at + 16) (λ x a b. h x (omega arith) (omega arith))) (sym (entries_more c fuel at limit e (rw (k.0, k.1) at f)))))

-- ---- the blob

-- of seven tests at once one counts only where the two behind it pass
seven_same : (a b c d e e' f g : Bool) → (f ≡ false → g ≡ false → e ≡ e') → (a || b || c || d || e || f || g) ≡ (a || b || c || d || e' || f || g)
seven_same a b c d e e' true g h =
    let k : (x : Bool) → (x || true || g) ≡ true = λ x. or_left (x || true) g (or_right x true refl) in
    k (a || b || c || d || e) ∙ sym (k (a || b || c || d || e'))
seven_same a b c d e e' false true h =
    or_right (a || b || c || d || e || false) true refl ∙ sym (or_right (a || b || c || d || e' || false) true refl)
seven_same a b c d e e' false false h = ap (λ (x : Bool). a || b || c || d || x || false || false) (h refl refl)

then_same : {A : Type 0} (v : Verdict) (o p : Outcome A) → (v ≡ passes → o ≡ p) → (v then o) ≡ (v then p)
then_same (gives tt) o p h = h refl
then_same (refuses number place) o p h = refl

table_same : (v : Verdict) (t u : Tree) → (v ≡ passes → t ≡ u) → table_of v t ≡ table_of v u
table_same (gives tt) t u h = ap rows_of (h refl)
table_same (refuses number place) t u h = refl

unexamined_not : (b : Bytes) (x : ℕ) → gap b x ≡ false → (leb (header_in b).structure x && padding_in (tokens (block_in b).structure) (x - (header_in b).structure)) ≡ false
    → unexamined b x ≡ false
unfolding unexamined
unexamined_not b x g e = rw (g, e) (and_none (leb 40 x))

module _ (b c : Bytes) (a : Examined b c) where
  -- ---- the header

  front : (x : ℕ) → x < 40 → unexamined b x ≡ false
  unfolding unexamined
  front x l = rw (lt-leb 40 x l)

  word : (i : ℕ) → i ≤ 36 → word_at b i ≡ word_at c i
  word i l = word_same b c i (λ x p q. a.bytes x (front x (omega arith)))

  header_same : header_in b ≡ header_in c
  unfolding header_in
  header_same = λ i.
      record {
        magic = word 0 (omega arith) i;
        total = word 4 (omega arith) i;
        structure = word 8 (omega arith) i;
        strings = word 12 (omega arith) i;
        reservations = word 16 (omega arith) i;
        version = word 20 (omega arith) i;
        compatible = word 24 (omega arith) i;
        boot_cpu = word 28 (omega arith) i;
        strings_size = word 32 (omega arith) i;
        structure_size = word 36 (omega arith) i;
      }

  -- ---- what is in no gap and no padding

  abbrev h : Header
  h = header_in b

  clear : (x : ℕ) → gap b x ≡ false → (h.structure ≤ x → padding_in (tokens (block_in b).structure) (x - h.structure) ≡ false) → get_or b x 0 ≡ get_or c x 0
  clear x g k = a.bytes x (free (by_le h.structure x
      (λ l. rw (k l) (and_none (leb h.structure x)))
      (λ l. rw (lt-leb h.structure x l))))
    where
      free : (leb h.structure x && padding_in (tokens (block_in b).structure) (x - h.structure)) ≡ false → unexamined b x ≡ false
      free e = unexamined_not b x g e

  abbrev end : ℕ
  end = end_of h.reservations h.structure (entries_in b)

  no_gap : (x : ℕ) → spans 40 h.reservations x ≡ false → spans end h.structure x ≡ false → spans (h.structure + h.structure_size) h.strings x ≡ false
      → x < h.strings + h.strings_size → h.strings + h.strings_size ≤ h.total → gap b x ≡ false
  unfolding gap
  no_gap x p q r l last =
      false_or _ _ (false_or _ _ (false_or _ _ (false_or _ _ p q) r) (lt-leb (h.strings + h.strings_size) x l)) (lt-leb h.total x (omega arith))

  -- ---- the reservations

  end_before : end ≤ h.structure
  unfolding entries_in
  end_before = end_low b c h.structure (suc (length b)) h.reservations

  entries_same : h.structure + h.structure_size ≤ h.strings → h.strings + h.strings_size ≤ h.total → entries_in b ≡ entries_in c
  unfolding entries_in
  entries_same apart last =
      let low = end_before in
      rw (← header_same, ← a.size)
      (entries_kept b c h.structure (suc (length b)) h.reservations
      (λ x p q. clear x
      (no_gap x (spans_behind 40 h.reservations x p) (spans_before end h.structure x q)
      (spans_before (h.structure + h.structure_size) h.strings x (omega arith)) (omega arith) last)
      (λ l. absurd (let z : ⊥ = omega arith in z))))

  misplaced_same : misplaced b ≡ misplaced c
  unfolding misplaced
  misplaced_same =
      rw (← header_same)
      (seven_same (ltb h.reservations 40) (not (eqb (h.reservations % 8) 0)) (not (eqb (h.structure % 4) 0)) (not (eqb (h.structure_size % 4) 0))
      (missing (entries_in b)) (missing (entries_in c)) (ltb h.strings (h.structure + h.structure_size)) (ltb h.total (h.strings + h.strings_size))
      (λ p q. ap missing (entries_same (ltb-false h.strings (h.structure + h.structure_size) p) (ltb-false h.total (h.strings + h.strings_size) q))))

  header_judged_same : header_judged b ≡ header_judged c
  unfolding header_judged
  header_judged_same = rw (header_same, misplaced_same, a.size)

  -- ---- the blocks of a header that passes

  module _ (i : Inside b) where
    structure : Bytes
    structure = part b h.structure h.structure_size

    changed : Bytes
    changed = part c h.structure h.structure_size

    strings : Bytes
    strings = part b h.strings h.strings_size

    changed_size : length structure ≡ length changed
    unfolding structure changed
    changed_size = simp (length-take, length-drop, a.size)

    short : length structure ≤ h.structure_size
    unfolding structure
    short = omega (arith, length-take h.structure_size (drop h.structure b))

    beyond : (s : Bytes) (x : ℕ) → h.structure_size ≤ x → get_or (part s h.structure h.structure_size) x 0 ≡ 0
    beyond s x l =
        let n = length-take h.structure_size (drop h.structure s) in
        get_or-eq_default (part s h.structure h.structure_size) 0 (omega arith)

    structure_is : (block_in b).structure ≡ structure
    unfolding block_in structure
    structure_is = refl

    even : (x : ℕ) → 0 ≤ x → padding_in (tokens structure) x ≡ false → get_or structure x 0 ≡ get_or changed x 0
    unfolding structure changed
    even x z n = by_le h.structure_size x
        (λ l. beyond b x l ∙ sym (beyond c x l))
        (λ l. let apart = i.apart in
        let entries = i.entries in
        let e : h.structure + x - h.structure ≡ x = omega arith in
        byte_part b h.structure h.structure_size x l
        ∙ clear (h.structure + x)
        (no_gap (h.structure + x) (spans_behind 40 h.reservations (h.structure + x) (omega arith))
        (spans_behind end h.structure (h.structure + x) (omega arith))
        (spans_before (h.structure + h.structure_size) h.strings (h.structure + x) (omega arith)) (omega arith) i.last)
        (λ k. rw (e, structure_is) n)
        ∙ sym (byte_part c h.structure h.structure_size x l))

    strings_same : strings ≡ part c h.strings h.strings_size
    unfolding strings
    strings_same = part_same b c h.strings h.strings_size a.size
        (λ x p q. let apart = i.apart in
        let entries = i.entries in
        let k = short in
        clear x
        (no_gap x (spans_behind 40 h.reservations x (omega arith)) (spans_behind end h.structure x (omega arith))
        (spans_behind (h.structure + h.structure_size) h.strings x p) q i.last)
        (λ l. rw structure_is (padding_inside h.structure strings structure (x - h.structure) (omega arith))))

    block_is : block_in b ≡ record { place = h.structure; structure = structure; strings = strings }
    unfolding block_in structure strings
    block_is = refl

    block_same : block_in c ≡ record { place = h.structure; structure = changed; strings = strings }
    unfolding block_in changed
    block_same = rw (← header_same, strings_same)

    shape_same : shape_judged (block_in b) ≡ shape_judged (block_in c)
    shape_same = rw (block_is, block_same) (shape_kept h.structure strings structure changed changed_size even)

    events_same : events_read b ≡ events_read c
    unfolding events_read
    events_same = rw (block_is, block_same) (events_kept h.structure strings structure changed changed_size even)

    tree_same : tree_read b ≡ tree_read c
    unfolding tree_read
    tree_same = ap nodes_of events_same

  -- ---- the reader

  judged_same : blob_judged b ≡ blob_judged c
  unfolding blob_judged
  judged_same =
      rw (← header_judged_same)
      (then_same (header_judged b) _ _ (λ e. let i = header_inside b e in rw (shape_same i, tree_same i)))

  tree_judged : blob_judged b ≡ passes → tree_read b ≡ tree_read c
  unfolding blob_judged
  tree_judged e =
      let t : Tree = tree_read b in
      tree_same (header_inside b (then_passes (header_judged b) (shape_judged (block_in b) then doubled_judged t then words_judged t then shared_judged t) tt e).0)

  read_same : (words : ℕ) → read b words ≡ read c words
  unfolding read
  read_same words =
      rw (← judged_same)
      (ap (λ (o : Outcome ℕ). space_judged words then o)
      (then_same (blob_judged b) (gives (length (tree_read b))) (gives (length (tree_read c))) (λ e. ap (λ (t : Tree). gives (length t)) (tree_judged e))))

  work_same : (work : List ℕ) → read_work b work ≡ read_work c work
  unfolding read_work
  work_same work = rw (← judged_same, table_same (blob_judged b) (tree_read b) (tree_read c) tree_judged)

-- PADDING, GAPS AND WHAT STANDS PAST TOTALSIZE ARE NOT EXAMINED
pub padding_not_examined : PaddingNotExamined
padding_not_examined b c a = (
  judged_same b c a,
  read_same b c a,
  work_same b c a,
  header_same b c a,
  λ e. let i = header_inside b e in (entries_same b c a i.apart i.last, events_same b c a i, tree_same b c a i),
)
