-- Reading gives back what was written: the blob of events that fit is accepted, and reads as those events.
use Rattle.std.specs.Prelude.{◌≡◌, Bool}
use Rattle.std.proofs.Math.Path.{refl, ap}
use Rattle.std.proofs.Common.{sym, ◌∙◌, arith, eq-eqb}
use Rattle.std.proofs.Math.Bool.{true}
use mathlib.Core.List.Memᴰ
use mathlib.Core.List.{List, [], ◌∷◌, ◌++◌, append_assoc, append-nil}
use Prim.Native.Nat.{ℕ, zero, suc, ◌+◌, ◌%◌, ◌≤◌, ◌<◌}
use Rattle.std.proofs.Math.ListN.{length, drop, length-append}
use Rattle.rules.specs.Octets.{Bytes, be32, padded, part}
use Rattle.rules.specs.Names.{property_name_reads}
use Rattle.rules.specs.Outcome.{passes}
use Rattle.rules.specs.Blob.{Block}
use Rattle.rules.specs.Tokens.{Placed, token_at, following, tokens_from, tokens}
use Rattle.rules.specs.Events.{Walk, at_start, node_name_at, string_at, property_reads, opening, closing, holding, judge, shape_judged, Property, Event, opens, has, closes, events_of, events_in, judge_events, events_judged}
use Rattle.rules.specs.Writer.{begin_bytes, end_bytes, property_bytes, name_offset, name_growth}
use Rattle.rules.specs.Written.{write_event, write_events}
use Rattle.rules.specs.declared.Token.{Token}
use Rattle.rules.specs.declared.Token.TheVariants.{Item, End}
use Rattle.rules.specs.declared.Kind.TheVariants.{Begin, EndNode, Prop}
use Rattle.rules.specs.Listing.{◌∈◌}
use Rattle.rules.proofs.Laws.Octets.{length_be32}
use Rattle.rules.proofs.Laws.Shape.{reads_nul, property_nul}
use Rattle.rules.proofs.Laws.Nested.{after_mono, ending_passes, Nested, finished, root, child, holds, shuts, events_nested}
use Rattle.rules.proofs.Laws.Moved.{Says, says_all, says_open, says_has, says_close}
use Rattle.rules.proofs.Laws.Encoded.{end_written, last_written, begin_written, begin_named, property_written, property_valued, interned, string_stands, string_reads}
use Rattle.rules.proofs.Laws.Writer.{length_begin, length_end, length_property, offset_le}

-- ---- what events add to the two blocks

unfoldable pub structure_of : (strings : Bytes) → List Event → Bytes
structure_of strings [] = []
structure_of strings (opens place name ∷ es) = begin_bytes name ++ structure_of strings es
structure_of strings (has p ∷ es) = property_bytes (name_offset p.name strings) p.value ++ structure_of (strings ++ name_growth p.name strings) es
structure_of strings (closes place ∷ es) = end_bytes ++ structure_of strings es

unfoldable pub strings_of : (strings : Bytes) → List Event → Bytes
strings_of strings [] = strings
strings_of strings (opens place name ∷ es) = strings_of strings es
strings_of strings (has p ∷ es) = strings_of (strings ++ name_growth p.name strings) es
strings_of strings (closes place ∷ es) = strings_of strings es

pub writes : (structure strings : Bytes) (es : List Event)
    → write_events (record { structure = structure; strings = strings }) es
    ≡ record { structure = structure ++ structure_of strings es; strings = strings_of strings es }
unfolding write_events write_event structure_of strings_of
writes structure strings [] = rw append-nil
writes structure strings (opens place name ∷ es) = writes (structure ++ begin_bytes name) strings es ∙ rw append_assoc
writes structure strings (has p ∷ es) =
    writes (structure ++ property_bytes (name_offset p.name strings) p.value) (strings ++ name_growth p.name strings) es ∙ rw append_assoc
writes structure strings (closes place ∷ es) = writes (structure ++ end_bytes) strings es ∙ rw append_assoc

-- strings are only appended
pub strings_grow : (strings : Bytes) (es : List Event) → (more : Bytes) × (strings_of strings es ≡ strings ++ more)
unfolding strings_of
strings_grow strings [] = ([], sym (append-nil strings))
strings_grow strings (opens place name ∷ es) = strings_grow strings es
strings_grow strings (has p ∷ es) =
    let r = strings_grow (strings ++ name_growth p.name strings) es in
    (name_growth p.name strings ++ r.0, r.1 ∙ append_assoc strings (name_growth p.name strings) r.0)
strings_grow strings (closes place ∷ es) = strings_grow strings es

-- an event takes four bytes at least, and the structure is a multiple of four
pub structure_long : (strings : Bytes) (es : List Event) → length es ≤ length (structure_of strings es)
unfolding structure_of
structure_long strings [] = omega arith
structure_long strings (opens place name ∷ es) =
    rw (length-append, length_begin name) (omega (arith, structure_long strings es))
structure_long strings (has p ∷ es) =
    rw (length-append, length_property (name_offset p.name strings) p.value)
    (omega (arith, structure_long (strings ++ name_growth p.name strings) es))
structure_long strings (closes place ∷ es) = rw (length-append, length_end) (omega (arith, structure_long strings es))

pub structure_whole : (strings : Bytes) (es : List Event) → length (structure_of strings es) % 4 ≡ 0
unfolding structure_of
structure_whole strings [] = refl
structure_whole strings (opens place name ∷ es) = rw (length-append, length_begin name) (omega (arith, structure_whole strings es))
structure_whole strings (has p ∷ es) =
    rw (length-append, length_property (name_offset p.name strings) p.value)
    (omega (arith, structure_whole (strings ++ name_growth p.name strings) es))
structure_whole strings (closes place ∷ es) = rw (length-append, length_end) (omega (arith, structure_whole strings es))

-- ---- names without NUL

abbrev pub Clean : List Event → Type 0
Clean [] = Unit {0}
Clean (opens place name ∷ es) = (0 ∈ name → ⊥) × Clean es
Clean (has p ∷ es) = (0 ∈ p.name → ⊥) × Clean es
Clean (closes place ∷ es) = Clean es

empty_clean : (name : Bytes) → length name ≡ 0 → 0 ∈ name → ⊥
empty_clean [] e m = Memᴰ.not-nil m
empty_clean (x ∷ name) e m = omega arith

pub nested_clean : {ended : Bool} {stack : List ℕ} {count : ℕ} {es : List Event} → Nested ended stack count es → Clean es
nested_clean (finished z) = tt
nested_clean (root {name = name} z e t) = (empty_clean name e, nested_clean t)
nested_clean (child {name = name} e f g t) = (reads_nul name e, nested_clean t)
nested_clean (holds {p = p} e t) = (property_nul p.name e, nested_clean t)
nested_clean (shuts t) = nested_clean t

-- the names of events that pass have no NUL
pub judged_clean : (es : List Event) → events_judged es ≡ passes → Clean es
judged_clean es h = nested_clean (events_nested es h)

-- ---- the walk over the tokens of what was written

module _ (place : ℕ) (W F : Bytes) (fits : length W < 4294967296) (near : length F < 4294967296) where
  abbrev block : Block
  block = record { place = place; structure = W; strings = F }

  -- the tokens from a place on pass where the events do, and say them
  pub record Trip (es : List Event) (ts : List Placed) : Type 0 where
    pub shape : (w : Walk) → judge_events w es ≡ passes → judge block w ts ≡ passes
    pub events : Says (events_of block ts) es

  step : (fuel at : ℕ) (k : Token) → token_at W at ≡ k → tokens_from (suc fuel) W at ≡ record { at = at; token = k } ∷ following (tokens_from fuel W) k
  unfolding tokens_from
  step fuel at k e = rw e

  trip_end : (p : Bytes) (fuel at : ℕ) → W ≡ p ++ be32 9 → length p ≡ at → Trip [] (record { at = at; token = End } ∷ following (tokens_from fuel W) End)
  unfolding judge judge_events events_of
  trip_end p fuel at e l =
      let n : at + 4 ≡ length W = omega (arith, ap length e ∙ length-append p (be32 9), length_be32 9) in
      record {
        shape = λ w h. rw (eq-eqb (at + 4) (length W) n) (ending_passes _ _ 0 (place + at) w true h);
        events = says_all;
      }

  trip_begin : (es : List Event) (name : Bytes) (from to fuel at : ℕ) → node_name_at W at (length name) ≡ name → Trip es (tokens_from fuel W to)
      → Trip (opens from name ∷ es) (record { at = at; token = Item (Begin (length name)) to } ∷ tokens_from fuel W to)
  unfolding judge judge_events events_of
  trip_begin es name from to fuel at e t =
      record {
        shape = λ w h. rw e (after_mono _ _ from (place + at) (opening w name) t.shape h);
        events = rw e (says_open t.events);
      }

  trip_close : (es : List Event) (from to fuel at : ℕ) → Trip es (tokens_from fuel W to)
      → Trip (closes from ∷ es) (record { at = at; token = Item EndNode to } ∷ tokens_from fuel W to)
  unfolding judge judge_events events_of
  trip_close es from to fuel at t =
      record { shape = λ w h. after_mono _ _ from (place + at) (closing w) t.shape h; events = says_close t.events }

  trip_has : (es : List Event) (p : Property) (offset value to fuel at : ℕ) → string_at F offset ≡ p.name
      → property_reads F offset ≡ property_name_reads p.name
      → part W value (length p.value) ≡ p.value → Trip es (tokens_from fuel W to)
      → Trip (has p ∷ es) (record { at = at; token = Item (Prop (length p.value) offset value) to } ∷ tokens_from fuel W to)
  unfolding judge judge_events events_of
  trip_has es p offset value to fuel at n r v t =
      record {
        shape = λ w h. rw r (after_mono _ _ p.place (place + at) (holding w (property_name_reads p.name)) t.shape h);
        events = says_has n v t.events;
      }

  next_at : (p x r : Bytes) (at n : ℕ) → W ≡ p ++ (x ++ r) → length p ≡ at → length x ≡ n → (W ≡ p ++ x ++ r) × (length (p ++ x) ≡ at + n)
  next_at p x r at n e l m = (e ∙ sym (append_assoc p x r), rw (length-append p x) (omega arith))

  value_small : (p r value : Bytes) (offset : ℕ) → W ≡ p ++ (property_bytes offset value ++ r) → length value < 4294967296
  value_small p r value offset e =
      let x : Bytes = property_bytes offset value in
      omega (arith, ap length e ∙ length-append p (x ++ r), length-append x r, length_property offset value)

  offset_small : (name strings grown : Bytes) → F ≡ (strings ++ name_growth name strings) ++ grown → name_offset name strings < 4294967296
  offset_small name strings grown e =
      let x : Bytes = name_growth name strings in
      omega (arith, ap length e ∙ length-append (strings ++ x) grown, length-append strings x, offset_le name strings)

  trip : (es : List Event) (strings p : Bytes) (fuel at : ℕ) → W ≡ p ++ (structure_of strings es ++ be32 9) → length p ≡ at → F ≡ strings_of strings es
      → length es < fuel → Clean es → Trip es (tokens_from fuel W at)
  unfolding structure_of strings_of
  trip es strings p zero at e l f h c = absurd (omega arith)
  trip [] strings p (suc fuel) at e l f h c =
      rw (step fuel at End (ap (λ (s : Bytes). token_at s at) e ∙ last_written p at l)) (trip_end p fuel at e l)
  trip (opens from name ∷ es) strings p (suc fuel) at e l f h c =
      let r : Bytes = structure_of strings es ++ be32 9 in
      let e₁ : W ≡ p ++ (begin_bytes name ++ r) = e ∙ ap (λ (s : Bytes). p ++ s) (append_assoc (begin_bytes name) (structure_of strings es) (be32 9)) in
      let to : ℕ = at + 4 + padded (length name + 1) in
      let n = next_at p (begin_bytes name) r at (4 + padded (length name + 1)) e₁ l (length_begin name) in
      let k : token_at W at ≡ Item (Begin (length name)) to = ap (λ (s : Bytes). token_at s at) e₁ ∙ begin_written p r name at l c.0 in
      rw (step fuel at (Item (Begin (length name)) to) k)
      (trip_begin es name from to fuel at (ap (λ (s : Bytes). node_name_at s at (length name)) e₁ ∙ begin_named p r name at l c.0)
      (trip es strings (p ++ begin_bytes name) fuel to n.0 (omega (arith, n.1)) f (omega arith) c.1))
  trip (closes from ∷ es) strings p (suc fuel) at e l f h c =
      let r : Bytes = structure_of strings es ++ be32 9 in
      let e₁ : W ≡ p ++ (end_bytes ++ r) = e ∙ ap (λ (s : Bytes). p ++ s) (append_assoc end_bytes (structure_of strings es) (be32 9)) in
      let n = next_at p end_bytes r at 4 e₁ l length_end in
      rw (step fuel at (Item EndNode (at + 4)) (ap (λ (s : Bytes). token_at s at) e₁ ∙ end_written p r at l))
      (trip_close es from (at + 4) fuel at (trip es strings (p ++ end_bytes) fuel (at + 4) n.0 n.1 f (omega arith) c))
  trip (has q ∷ es) strings p (suc fuel) at e l f h c =
      let strings' : Bytes = strings ++ name_growth q.name strings in
      let o : ℕ = name_offset q.name strings in
      let r : Bytes = structure_of strings' es ++ be32 9 in
      let x : Bytes = property_bytes o q.value in
      let e₁ : W ≡ p ++ (x ++ r) = e ∙ ap (λ (s : Bytes). p ++ s) (append_assoc x (structure_of strings' es) (be32 9)) in
      let to : ℕ = at + 4 + 8 + padded (length q.value) in
      let n = next_at p x r at (12 + padded (length q.value)) e₁ l (length_property o q.value) in
      let m : Bytes = (strings_grow strings' es).0 in
      let g : F ≡ strings' ++ m = f ∙ (strings_grow strings' es).1 in
      let z = interned q.name strings m in
      let stands : drop o F ≡ q.name ++ (0 ∷ z.0) = ap (drop o) g ∙ z.1 in
      let small : length q.value < 4294967296 = value_small p r q.value o e₁ in
      let near₁ : o < 4294967296 = offset_small q.name strings m g in
      rw (step fuel at (Item (Prop (length q.value) o (at + 4 + 8)) to)
      (ap (λ (s : Bytes). token_at s at) e₁ ∙ property_written p r q.value o at l small near₁))
      (trip_has es q o (at + 4 + 8) to fuel at (string_stands F q.name z.0 o stands c.0) (string_reads F q.name z.0 o stands c.0)
      (ap (λ (s : Bytes). part s (at + 4 + 8) (length q.value)) e₁ ∙ property_valued p r q.value o at l small near₁)
      (trip es strings' (p ++ x) fuel to n.0 (omega (arith, n.1)) f (omega arith) c.1))

  -- WHAT WAS WRITTEN READS AS THE EVENTS WRITTEN
  trip_all : (es : List Event) → W ≡ structure_of [] es ++ be32 9 → F ≡ strings_of [] es → Clean es → Trip es (tokens W)
  unfolding tokens
  trip_all es e f c =
      let l : length es ≤ length (structure_of [] es) = structure_long [] es in
      trip es [] [] (suc (length W)) 0 e refl f (omega (arith, ap length e ∙ length-append (structure_of [] es) (be32 9))) c

  pub shape_read : (es : List Event) → W ≡ structure_of [] es ++ be32 9 → F ≡ strings_of [] es → events_judged es ≡ passes
      → shape_judged block ≡ passes
  unfolding shape_judged events_judged
  shape_read es e f h = (trip_all es e f (judged_clean es h)).shape at_start h

  pub events_read_lem : (es : List Event) → W ≡ structure_of [] es ++ be32 9 → F ≡ strings_of [] es → Clean es → Says (events_in block) es
  unfolding events_in
  events_read_lem es e f c = (trip_all es e f c).events

-- events that are the same but for their places pass together
says_from : {es fs : List Event} → Says es fs → (w : Walk) → judge_events w es ≡ passes → judge_events w fs ≡ passes
unfolding judge_events
says_from says_all w h = h
says_from (says_open {p = p} {q = q} {name = name} s) w h = after_mono _ _ p q (opening w name) (says_from s) h
says_from (says_has {p = p} {q = q} n v s) w h =
    rw (← n) (after_mono _ _ p.place q.place (holding w (property_name_reads p.name)) (says_from s) h)
says_from (says_close {p = p} {q = q} s) w h = after_mono _ _ p q (closing w) (says_from s) h

pub says_judged : {es fs : List Event} → Says es fs → events_judged es ≡ passes → events_judged fs ≡ passes
unfolding events_judged
says_judged s h = says_from s at_start h
