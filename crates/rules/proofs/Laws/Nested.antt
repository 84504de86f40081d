-- Events that pass the shape, as a tree of cases; and that the events of tokens that pass, pass.
use Rattle.std.specs.Prelude.{◌≡◌, refl, Bool, true, false, List, [], ◌∷◌, length, drop, eqb}
use Prim.Native.Nat.{ℕ, zero, suc, ◌+◌, ◌<◌}
use Rattle.std.proofs.Common.{eq-eqb, ne_eqb}
use Rattle.std.proofs.lemmas.Bool.{lt-leb}
use Rattle.rules.specs.Ceilings.{node_ceiling, open_ceiling}
use Rattle.rules.specs.Octets.{Bytes, has_nul}
use Rattle.rules.specs.Names.{node_name_reads, property_name_reads}
use Rattle.rules.specs.Outcome.{Verdict, passes}
use Rattle.rules.specs.Blob.{Block}
use Rattle.rules.specs.Tokens.{following, tokens_from, tokens, token_at}
use Rattle.rules.specs.Events.{Walk, at_start, Step, stop, done, go, node_name_at, string_at, property_reads, opening, closing, holding, ending, on_token, after, judge, shape_judged, Property, Event, opens, has, closes, saying, events_of, events_in, judge_events, events_judged}
use Rattle.rules.specs.declared.Token.{Token}
use Rattle.rules.specs.declared.Token.TheVariants.{Item, End, Cut}
use Rattle.rules.specs.declared.Kind.TheVariants.{Begin, EndNode, Prop, Nop}
use Rattle.rules.proofs.Laws.Tests.{by_test, and_true}
use Rattle.rules.proofs.Laws.Verdicts.{gives_refuses}
use Rattle.rules.proofs.Laws.Shape.{opening_passes, closing_passes, holding_passes}

-- ---- from tokens to events

-- what passes goes on to pass
pub after_mono : (f g : Walk → Verdict) (p p' : ℕ) (s : Step) → ((w : Walk) → f w ≡ passes → g w ≡ passes) → after f p s ≡ passes
    → after g p' s ≡ passes
after_mono f g p p' (stop number) h e = gives_refuses tt number p e
after_mono f g p p' done h e = refl
after_mono f g p p' (go w) h e = h w e

pub ending_passes : (f g : Walk → Verdict) (p p' : ℕ) (w : Walk) (last : Bool) → after f p (ending w last) ≡ passes
    → after g p' (ending w true) ≡ passes
unfolding ending
ending_passes f g p p' w last h = go w.stack w.count last h
  where
    end : List ℕ → ℕ → Bool → Step
    end stack count last = ending (record { stack = stack; count = count; ended = w.ended }) last

    go : (stack : List ℕ) (count : ℕ) (last : Bool) → after f p (end stack count last) ≡ passes → after g p' (end stack count true) ≡ passes
    go (i ∷ is) count last h = gives_refuses tt 6 p h
    go [] count last h = by_test (eqb count 0)
        (λ e. gives_refuses tt 6 p (rw e at h))
        (λ e. rw e)

holding_mono : (f g : Walk → Verdict) (p p' : ℕ) (w : Walk) (a b : Bool) → (a ≡ true → b ≡ true) → ((w : Walk) → f w ≡ passes → g w ≡ passes)
    → after f p (holding w a) ≡ passes → after g p' (holding w b) ≡ passes
unfolding holding
holding_mono f g p p' w a b ab fg h =
    let k = holding_passes f p w.stack w.count w.ended a h in
    rw (ab k.name) (after_mono f g p p' (holding w true) fg (rw k.name at h))

name_reads_lem : (strings : Bytes) (offset : ℕ) → property_reads strings offset ≡ true → property_name_reads (string_at strings offset) ≡ true
unfolding property_reads
name_reads_lem strings offset e = (and_true (has_nul (drop offset strings)) (property_name_reads (string_at strings offset)) e).1

module _ (b : Block) where
  abbrev Passes : ℕ → ℕ → Type 0
  Passes fuel at =
      (w : Walk) → judge b w (tokens_from fuel b.structure at) ≡ passes → judge_events w (events_of b (tokens_from fuel b.structure at)) ≡ passes

  token_passes : (fuel at : ℕ) → ((to : ℕ) → Passes fuel to) → (k : Token) (w : Walk)
      → after (λ (v : Walk). judge b v (following (tokens_from fuel b.structure) k)) (b.place + at) (on_token b w at k) ≡ passes
      → judge_events w (saying b at k (events_of b (following (tokens_from fuel b.structure) k))) ≡ passes
  unfolding judge_events events_of
  token_passes fuel at ih (Item (Begin len) to) w h =
      after_mono _ _ (b.place + at) (b.place + at) (opening w (node_name_at b.structure at len)) (ih to) h
  token_passes fuel at ih (Item EndNode to) w h = after_mono _ _ (b.place + at) (b.place + at) (closing w) (ih to) h
  token_passes fuel at ih (Item (Prop len name value) to) w h =
      holding_mono _ _ (b.place + at) (b.place + at) w (property_reads b.strings name) (property_name_reads (string_at b.strings name))
      (name_reads_lem b.strings name) (ih to) h
  token_passes fuel at ih (Item Nop to) w h = ih to w h
  token_passes fuel at ih End w h = ending_passes _ _ (b.place + at) 0 w (eqb (at + 4) (length b.structure)) h
  token_passes fuel at ih Cut w h = gives_refuses tt 6 (b.place + at) h

  walk_passes : (fuel at : ℕ) → Passes fuel at
  unfolding tokens_from judge events_of
  walk_passes zero at w h = gives_refuses tt 6 b.place h
  walk_passes (suc fuel) at w h = token_passes fuel at (walk_passes fuel) (token_at b.structure at) w h

  -- THE EVENTS OF A SHAPE THAT PASSES PASS
  pub events_pass : shape_judged b ≡ passes → events_judged (events_in b) ≡ passes
  unfolding shape_judged events_judged events_in tokens
  events_pass h = walk_passes (suc (length b.structure)) 0 at_start h

-- ---- the cases

-- `ended` says that the innermost open node has had a child
pub data Nested : (ended : Bool) (stack : List ℕ) (count : ℕ) → List Event → Type 0 where
  finished : {ended : Bool} {count : ℕ} → (count ≡ 0 → ⊥) → Nested ended [] count []
  root : {ended : Bool} {count place : ℕ} {name : Bytes} {es : List Event} → count ≡ 0 → length name ≡ 0
      → Nested false (count ∷ []) (suc count) es → Nested ended [] count (opens place name ∷ es)
  child : {ended : Bool} {i count place : ℕ} {is : List ℕ} {name : Bytes} {es : List Event} → node_name_reads name ≡ true
      → length (i ∷ is) < open_ceiling → count < node_ceiling → Nested false (count ∷ i ∷ is) (suc count) es
      → Nested ended (i ∷ is) count (opens place name ∷ es)
  holds : {i count : ℕ} {is : List ℕ} {p : Property} {es : List Event} → property_name_reads p.name ≡ true → Nested false (i ∷ is) count es
      → Nested false (i ∷ is) count (has p ∷ es)
  shuts : {ended : Bool} {i count place : ℕ} {is : List ℕ} {es : List Event} → Nested true is count es → Nested ended (i ∷ is) count (closes place ∷ es)

pub nested : (es : List Event) (ended : Bool) (stack : List ℕ) (count : ℕ)
    → judge_events (record { stack = stack; count = count; ended = ended }) es ≡ passes → Nested ended stack count es
unfolding judge_events ending
nested [] ended [] count h = finished (λ e. gives_refuses tt 6 0 (rw (eq-eqb count 0 e) at h))
nested [] ended (i ∷ is) count h = gives_refuses tt 6 0 h
nested (opens place name ∷ es) ended [] count h =
    let o = opening_passes (λ (v : Walk). judge_events v es) place [] count ended name h in
    root o.1.0 o.1.1 (nested es false (count ∷ []) (suc count) o.0)
nested (opens place name ∷ es) ended (i ∷ is) count h =
    let o = opening_passes (λ (v : Walk). judge_events v es) place (i ∷ is) count ended name h in
    child o.1.0 o.1.1 o.1.2 (nested es false (count ∷ i ∷ is) (suc count) o.0)
nested (has p ∷ es) ended [] count h =
    absurd ((holding_passes (λ (v : Walk). judge_events v es) p.place [] count ended (property_name_reads p.name) h).inside refl)
nested (has p ∷ es) ended (i ∷ is) count h =
    let o = holding_passes (λ (v : Walk). judge_events v es) p.place (i ∷ is) count ended (property_name_reads p.name) h in
    rw o.first (holds o.name (nested es false (i ∷ is) count o.on))
nested (closes place ∷ es) ended [] count h = absurd (closing_passes (λ (v : Walk). judge_events v es) place [] count ended h)
nested (closes place ∷ es) ended (i ∷ is) count h =
    shuts (nested es true is count (closing_passes (λ (v : Walk). judge_events v es) place (i ∷ is) count ended h))

-- and back
pub nested_passes : {ended : Bool} {stack : List ℕ} {count : ℕ} {es : List Event} → Nested ended stack count es
    → judge_events (record { stack = stack; count = count; ended = ended }) es ≡ passes
unfolding judge_events opening closing holding ending
nested_passes (finished {count = count} n) = rw (ne_eqb count 0 n)
nested_passes (root {count = count} {name = name} z e n) = rw (eq-eqb count 0 z, eq-eqb (length name) 0 e) (nested_passes n)
nested_passes (child {i = i} {count = count} {is = is} {name = name} e f g n) =
    rw (e, lt-leb open_ceiling (length (i ∷ is)) f, lt-leb node_ceiling count g) (nested_passes n)
nested_passes (holds e n) = rw e (nested_passes n)
nested_passes (shuts n) = nested_passes n

pub events_nested : (es : List Event) → events_judged es ≡ passes → Nested false [] 0 es
unfolding events_judged
events_nested es h = nested es false [] 0 h

pub nested_events : {es : List Event} → Nested false [] 0 es → events_judged es ≡ passes
unfolding events_judged
nested_events n = nested_passes n
