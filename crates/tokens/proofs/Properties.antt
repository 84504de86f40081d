-- The laws of the next property: a turn for each token, and that reading one property after the other gives those of the node.
use mathlib.Core.Path.{◌≡◌, refl, sym, ap, ◌∙◌, subst}
use mathlib.Core.List.{List, [], ◌∷◌}
use Prim.Native.Nat.{ℕ, zero, suc, ◌+◌, ◌≤◌, ◌<◌}
use native.Mathlib.Omega.{arith}
use lib.ListN.{length}
use mathlib.Core.Logic.{◌⊎◌, inl, inr}
use Rattle.rules.specs.Octets.{Bytes, part}
use Rattle.rules.specs.Blob.{Block}
use Rattle.rules.specs.Tokens.{token_at, following, tokens_from}
use Rattle.rules.specs.Events.{Property, string_at}
use Rattle.rules.specs.Tree.{props_of}
use Rattle.rules.specs.declared.Token.{Token}
use Rattle.rules.specs.declared.Token.TheVariants.{Item, End, Cut}
use Rattle.rules.specs.declared.Kind.{Kind}
use Rattle.rules.specs.declared.Kind.TheVariants.{Begin, EndNode, Prop, Nop}
use Rattle.rules.specs.Laws.Tokens.{tokens_at}
use Rattle.rules.proofs.Laws.Tokens.{tokens_item, Ahead, token_ahead}
use Rattle.rules.specs.Laws.Events.{events_at}
use Rattle.rules.proofs.Laws.Events.{events_item, events_end, events_cut}
use Rattle.rules.specs.Laws.Tabled.{props_behind, props_at}
use Rattle.std.specs.Prelude.{Option, Some, None}
use Rattle.tokens.specs.declared.Property as next
use Rattle.tokens.specs.Properties.{behind_token, behind_at, held_by, property_in, property_at}

-- ---- a turn

-- the first token decides, and a NOP leaves it to those behind it
turn : (s : Bytes) (at : ℕ) → property_at s at ≡ held_by at (token_at s at) (property_in (following (tokens_from (length s) s) (token_at s at)))
unfolding property_at property_in tokens_at tokens_from
turn s at = refl

module _ (s : Bytes) (at : ℕ) (r : Token) (e : r ≡ token_at s at) where
  pub property_stop : ((kind : Kind) (next : ℕ) → r ≡ Item kind next → ⊥) → property_at s at ≡ None
  property_stop h = turn s at ∙ by (token_at s at) (subst (λ (t : Token). (kind : Kind) (next : ℕ) → t ≡ Item kind next → ⊥) e h)
    where
      by : (t : Token) → ((kind : Kind) (next : ℕ) → t ≡ Item kind next → ⊥) → held_by at t (property_in (following (tokens_from (length s) s) t)) ≡ None
      by (Item kind next) h = absurd (h kind next refl)
      by End h = refl
      by Cut h = refl

  module _ (kind : Kind) (next : ℕ) (f : r ≡ Item kind next) where
    by_kind : (k : Kind) → kind ≡ k → property_at s at ≡ held_by at (Item k next) (property_in (tokens_from (length s) s next))
    by_kind k g =
        turn s at
        ∙ ap (λ (t : Token). held_by at t (property_in (following (tokens_from (length s) s) t))) (sym e ∙ f ∙ ap (λ (l : Kind). Item l next) g)

    pub property_here : (len name value : ℕ) → kind ≡ Prop len name value → property_at s at ≡ Some (record { at = at; len = len; name = name; value = value; next = next })
    property_here len name value g = by_kind (Prop len name value) g

    pub property_begin : (len : ℕ) → kind ≡ Begin len → property_at s at ≡ None
    property_begin len g = by_kind (Begin len) g

    pub property_end : kind ≡ EndNode → property_at s at ≡ None
    property_end g = by_kind EndNode g

    pub property_past : ((len : ℕ) × kind ≡ Begin len) ⊎ kind ≡ EndNode → property_at s at ≡ None
    property_past g = elim g [ inl h ↦ property_begin h.0 h.1 | inr h ↦ property_end h ]

    pub property_nop : kind ≡ Nop → property_at s at ≡ property_at s next
    unfolding property_at property_in
    property_nop g =
        let t : token_at s at ≡ Item Nop next = sym e ∙ f ∙ ap (λ (l : Kind). Item l next) g in
        let h : Ahead s at (Item Nop next) = subst (Ahead s at) t (token_ahead s at) in
        ap property_in (tokens_item s at Nop next (omega (arith, h.0, h.1)) t)

-- ---- where a property was found

pub record Found (s : Bytes) (from at len name value next : ℕ) : Type 0 where
  pub ahead : from ≤ at
  pub token : token_at s at ≡ Item (Prop len name value) next

abbrev Finds : Bytes → (from : ℕ) → Option next.Property → Type 0
Finds s from (Some p) = Found s from p.at p.len p.name p.value p.next
Finds s from None = Unit {0}

later : (s : Bytes) (from further : ℕ) (p : Option next.Property) → from ≤ further → Finds s further p → Finds s from p
later s from further (Some p) h g = record { ahead = omega (arith, g.ahead); token = g.token }
later s from further None h g = tt

-- by the first token; `go` says it of each later place
found_by : (s : Bytes) (at : ℕ) (go : (k : ℕ) → at + 4 ≤ k → k ≤ length s → Finds s k (property_at s k)) (t : Token) → token_at s at ≡ t → Ahead s at t
    → Finds s at (property_at s at)
found_by s at go (Item (Begin len) next) e h = subst (Finds s at) (sym (property_begin s at _ refl (Begin len) next e len refl)) tt
found_by s at go (Item EndNode next) e h = subst (Finds s at) (sym (property_end s at _ refl EndNode next e refl)) tt
found_by s at go (Item (Prop len name value) next) e h =
    subst (Finds s at) (sym (property_here s at _ refl (Prop len name value) next e len name value refl)) (record { ahead = omega arith; token = e })
found_by s at go (Item Nop next) e h =
    subst (Finds s at) (sym (property_nop s at _ refl Nop next e refl)) (later s at next (property_at s next) (omega (arith, h.0)) (go next h.0 h.1))
found_by s at go End e h = subst (Finds s at) (sym (turn s at ∙ ap (λ (t : Token). held_by at t (property_in (following (tokens_from (length s) s) t))) e)) tt
found_by s at go Cut e h = subst (Finds s at) (sym (turn s at ∙ ap (λ (t : Token). held_by at t (property_in (following (tokens_from (length s) s) t))) e)) tt

found : (f : ℕ) (s : Bytes) (at : ℕ) → length s < f + at → Finds s at (property_at s at)
found zero s at h = found_by s at (λ k l m. absurd (let z : ⊥ = omega arith in z)) (token_at s at) refl (token_ahead s at)
found (suc f) s at h = found_by s at (λ k l m. found f s k (omega arith)) (token_at s at) refl (token_ahead s at)

-- ---- what it says of the node's properties

abbrev told_by : Block → Option next.Property → List Property
told_by b (Some p) =
    record { place = b.place + p.at; name = string_at b.strings p.name; value = part b.structure p.value p.len } ∷ props_of (events_at b p.next)
told_by b None = []

module _ (b : Block) where
  abbrev s : Bytes
  s = b.structure

  told_by_lem : (at : ℕ) → at ≤ length s → (go : (k : ℕ) → at + 4 ≤ k → k ≤ length s → props_of (events_at b k) ≡ told_by b (property_at s k)) (t : Token)
      → token_at s at ≡ t → Ahead s at t → props_of (events_at b at) ≡ told_by b (property_at s at)
  unfolding props_of
  told_by_lem at i go (Item (Begin len) next) e h =
      ap props_of (events_item b at i (Begin len) next e) ∙ sym (ap (told_by b) (property_begin s at _ refl (Begin len) next e len refl))
  told_by_lem at i go (Item EndNode next) e h =
      ap props_of (events_item b at i EndNode next e) ∙ sym (ap (told_by b) (property_end s at _ refl EndNode next e refl))
  told_by_lem at i go (Item (Prop len name value) next) e h =
      ap props_of (events_item b at i (Prop len name value) next e)
      ∙ sym (ap (told_by b) (property_here s at _ refl (Prop len name value) next e len name value refl))
  told_by_lem at i go (Item Nop next) e h =
      ap props_of (events_item b at i Nop next e) ∙ go next h.0 h.1 ∙ sym (ap (told_by b) (property_nop s at _ refl Nop next e refl))
  told_by_lem at i go End e h =
      ap props_of (events_end b at i e) ∙ sym (ap (told_by b) (turn s at ∙ ap (λ (t : Token). held_by at t (property_in (following (tokens_from (length s) s) t))) e))
  told_by_lem at i go Cut e h =
      ap props_of (events_cut b at i e) ∙ sym (ap (told_by b) (turn s at ∙ ap (λ (t : Token). held_by at t (property_in (following (tokens_from (length s) s) t))) e))

  told : (f at : ℕ) → at ≤ length s → length s < f + at → props_of (events_at b at) ≡ told_by b (property_at s at)
  told zero at i h = absurd (let z : ⊥ = omega arith in z)
  told (suc f) at i h = told_by_lem at i (λ k l m. told f k m (omega arith)) (token_at s at) refl (token_ahead s at)

  -- where no item stands there is none behind it
  end_cut : (t : Token) → Ahead s (length s) t → token_at s (length s) ≡ t → props_of (events_at b (length s)) ≡ []
  unfolding props_of
  end_cut (Item kind next) h e = absurd (let z : ⊥ = omega (arith, h.0, h.1) in z)
  end_cut End h e = absurd (let z : ⊥ = omega arith in z)
  end_cut Cut h e = ap props_of (events_cut b (length s) (omega arith) e)

  -- the properties of the node whose BEGIN stands at a place are those behind it
  pub behind_props : (at : ℕ) → props_at b at ≡ props_of (events_at b (behind_at s at))
  unfolding props_at behind_at
  behind_props at = by (token_at s at)
    where
      by : (t : Token) → props_behind b t ≡ props_of (events_at b (behind_token (length s) t))
      by (Item kind next) = refl
      by End = sym (end_cut (token_at s (length s)) (token_ahead s (length s)) refl)
      by Cut = sym (end_cut (token_at s (length s)) (token_ahead s (length s)) refl)

pub behind_inside : (s : Bytes) (at : ℕ) → behind_at s at ≤ length s
unfolding behind_at
behind_inside s at = by (token_at s at) (token_ahead s at)
  where
    by : (t : Token) → Ahead s at t → behind_token (length s) t ≤ length s
    by (Item kind next) h = h.1
    by End h = omega arith
    by Cut h = omega arith

module _ (s : Bytes) (at : ℕ) (r : Token) (e : r ≡ token_at s at) where
  pub behind_item : (kind : Kind) (next : ℕ) → r ≡ Item kind next → next ≡ behind_at s at
  unfolding behind_at
  behind_item kind next f = sym (ap (behind_token (length s)) (sym e ∙ f))

  pub behind_stop : r ≡ End ⊎ r ≡ Cut → length s ≡ behind_at s at
  unfolding behind_at
  behind_stop h = elim h [ inl f ↦ sym (ap (behind_token (length s)) (sym e ∙ f)) | inr f ↦ sym (ap (behind_token (length s)) (sym e ∙ f)) ]

-- ---- a property in hand

module _ (s : Bytes) (from : ℕ) (r : Option next.Property) (e : r ≡ property_at s from) (p : next.Property) (f : r ≡ Some p) where
  pub here_found : Found s from p.at p.len p.name p.value p.next
  here_found = subst (Finds s from) (sym e ∙ f) (found (suc (length s)) s from (omega arith))

  pub here_ahead : (from < p.next) × (p.next ≤ length s)
  here_ahead =
      let h : Ahead s p.at (Item (Prop p.len p.name p.value) p.next) = subst (Ahead s p.at) here_found.token (token_ahead s p.at) in
      (omega (arith, here_found.ahead, h.0), h.1)

module _ (b : Block) (from : ℕ) (i : from ≤ length b.structure) (r : Option next.Property) (e : r ≡ property_at b.structure from) where
  read : (q : Option next.Property) → r ≡ q → props_of (events_at b from) ≡ told_by b q
  read q f = told b (suc (length b.structure)) from i (omega arith) ∙ ap (told_by b) (sym e ∙ f)

  pub props_none : r ≡ None → props_of (events_at b from) ≡ []
  props_none f = read None f

  pub props_here : (p : next.Property) → r ≡ Some p
      → props_of (events_at b from)
      ≡ record { place = b.place + p.at; name = string_at b.strings p.name; value = part b.structure p.value p.len } ∷ props_of (events_at b p.next)
  props_here p f = read (Some p) f
