-- The laws of tokens: what a token says of the bytes at its place, that an item ends further on and inside the block, and the
-- tokens from a place on without their fuel.
use Rattle.std.specs.Prelude.{◌≡◌, refl, Bool, true, false, List, [], ◌∷◌, eqb, leb, length, drop, if◌then◌else◌}
use Rattle.std.proofs.Common.{sym, ap, ◌∙◌, subst, arith}
use Prim.Native.Nat.{ℕ, zero, suc, ◌+◌, ◌≤◌, ◌<◌}
use borrow.Author.Tests.{leb-true, eqb-true}
use Rattle.rules.specs.Octets.{Bytes, word_at, nul_in, padded}
use Rattle.rules.specs.Tokens.{begin_at, prop_at, tagged, token_at, Placed, following, tokens_from, tokens}
use Rattle.rules.specs.declared.Token.{Token}
use Rattle.rules.specs.declared.Token.TheVariants.{Item, End, Cut}
use Rattle.rules.specs.declared.Kind.{Kind}
use Rattle.rules.specs.declared.Kind.TheVariants.{Begin, EndNode, Prop, Nop}
use Rattle.rules.specs.Laws.Tokens.{tokens_at}

-- what holds of a choice, from the case that was chosen
pub if_by : {A : Type 0} (P : A → Type 0) (t : Bool) {a b : A} → (t ≡ true → P a) → (t ≡ false → P b) → P (if t then a else b)
if_by P true f g = f refl
if_by P false f g = g refl

-- ---- what a token says of its place

pub record BeginSeen (s : Bytes) (at len next : ℕ) : Type 0 where
  pub tag : word_at s at ≡ 1
  pub name : len ≡ nul_in (drop (at + 4) s)
  pub ends : next ≡ at + 4 + padded (len + 1)
  pub inside : next ≤ length s

pub record PropSeen (s : Bytes) (at len name value next : ℕ) : Type 0 where
  pub tag : word_at s at ≡ 3
  pub size : len ≡ word_at s (at + 4)
  pub offset : name ≡ word_at s (at + 4 + 4)
  pub begins : value ≡ at + 4 + 8
  pub ends : next ≡ at + 4 + 8 + padded len
  pub inside : next ≤ length s

pub record TagSeen (s : Bytes) (at next v : ℕ) : Type 0 where
  pub tag : word_at s at ≡ v
  pub ends : next ≡ at + 4
  pub inside : at + 4 ≤ length s

abbrev pub Seen : Bytes → ℕ → Token → Type 0
Seen s at (Item (Begin len) next) = BeginSeen s at len next
Seen s at (Item EndNode next) = TagSeen s at next 2
Seen s at (Item (Prop len name value) next) = PropSeen s at len name value next
Seen s at (Item Nop next) = TagSeen s at next 4
Seen s at End = TagSeen s at (at + 4) 9
Seen s at Cut = Unit {0}

module _ (s : Bytes) (at : ℕ) (h : at + 4 ≤ length s) where
  begin_seen : word_at s at ≡ 1 → Seen s at (begin_at s (at + 4))
  unfolding begin_at
  begin_seen t =
      let len : ℕ = nul_in (drop (at + 4) s) in
      let next : ℕ = at + 4 + padded (len + 1) in
      if_by (Seen s at) (leb next (length s)) (λ e. record { tag = t; name = refl; ends = refl; inside = leb-true next (length s) e }) (λ _. tt)

  prop_seen : word_at s at ≡ 3 → Seen s at (prop_at s (at + 4))
  unfolding prop_at
  prop_seen t =
      let next : ℕ = at + 4 + 8 + padded (word_at s (at + 4)) in
      if_by (Seen s at) (leb (at + 4 + 8) (length s))
      (λ _. if_by (Seen s at) (leb next (length s))
      (λ e. record { tag = t; size = refl; offset = refl; begins = refl; ends = refl; inside = leb-true next (length s) e }) (λ _. tt))
      (λ _. tt)

  tagged_seen : (v : ℕ) → word_at s at ≡ v → Seen s at (tagged v s (at + 4))
  unfolding tagged
  tagged_seen v t =
      if_by (Seen s at) (eqb v 1) (λ e. begin_seen (t ∙ eqb-true v 1 e))
      (λ _. if_by (Seen s at) (eqb v 2) (λ e. record { tag = t ∙ eqb-true v 2 e; ends = refl; inside = h })
      (λ _. if_by (Seen s at) (eqb v 3) (λ e. prop_seen (t ∙ eqb-true v 3 e))
      (λ _. if_by (Seen s at) (eqb v 4) (λ e. record { tag = t ∙ eqb-true v 4 e; ends = refl; inside = h })
      (λ _. if_by (Seen s at) (eqb v 9) (λ e. record { tag = t ∙ eqb-true v 9 e; ends = refl; inside = h }) (λ _. tt)))))

pub token_seen : (s : Bytes) (at : ℕ) → Seen s at (token_at s at)
unfolding token_at
token_seen s at =
    if_by (Seen s at) (leb (at + 4) (length s)) (λ e. tagged_seen s at (leb-true (at + 4) (length s) e) (word_at s at) refl) (λ _. tt)

-- the same of a token that is known
pub begin_says : (s : Bytes) (at len next : ℕ) → token_at s at ≡ Item (Begin len) next → BeginSeen s at len next
begin_says s at len next e = subst (Seen s at) e (token_seen s at)

pub prop_says : (s : Bytes) (at len name value next : ℕ) → token_at s at ≡ Item (Prop len name value) next → PropSeen s at len name value next
prop_says s at len name value next e = subst (Seen s at) e (token_seen s at)

-- ---- an item ends further on, and inside

abbrev pub Ahead : Bytes → ℕ → Token → Type 0
Ahead s at (Item kind next) = (at + 4 ≤ next) × (next ≤ length s)
Ahead s at End = at + 4 ≤ length s
Ahead s at Cut = Unit

seen_ahead : (s : Bytes) (at : ℕ) (t : Token) → Seen s at t → Ahead s at t
seen_ahead s at (Item (Begin len) next) r = (omega (arith, r.ends), r.inside)
seen_ahead s at (Item EndNode next) r = (omega (arith, r.ends), omega (arith, r.ends, r.inside))
seen_ahead s at (Item (Prop len name value) next) r = (omega (arith, r.ends), r.inside)
seen_ahead s at (Item Nop next) r = (omega (arith, r.ends), omega (arith, r.ends, r.inside))
seen_ahead s at End r = r.inside
seen_ahead s at Cut r = tt

pub token_ahead : (s : Bytes) (at : ℕ) → Ahead s at (token_at s at)
token_ahead s at = seen_ahead s at (token_at s at) (token_seen s at)

-- the same of a token in hand
pub item_ahead : (s : Bytes) (at : ℕ) (t : Token) (kind : Kind) (next : ℕ) → t ≡ token_at s at → t ≡ Item kind next → (at + 4 ≤ next) × (next ≤ length s)
item_ahead s at t kind next e f = subst (Ahead s at) (sym e ∙ f) (token_ahead s at)

-- ---- the tokens from a place on

pub tokens_all : (s : Bytes) → tokens s ≡ tokens_at s 0
unfolding tokens tokens_at
tokens_all s = refl

abbrev pub placed : Bytes → ℕ → Placed
placed s at = record { at = at; token = token_at s at }

-- two ways to go on that agree from each later place on agree behind a token
agree : (s : Bytes) (at : ℕ) (go go' : ℕ → List Placed) → ((k : ℕ) → at < k → k ≤ length s → go k ≡ go' k)
    → (t : Token) → Ahead s at t → following go t ≡ following go' t
agree s at go go' e (Item kind next) h = e next (omega (arith, h.0)) h.1
agree s at go go' e End h = refl
agree s at go go' e Cut h = refl

-- any two fuels that are enough agree
pub tokens_enough : (s : Bytes) (f g at : ℕ) → at ≤ length s → length s < f + at → length s < g + at → tokens_from f s at ≡ tokens_from g s at
unfolding tokens_from
tokens_enough s zero g at i hf hg = absurd (let z : ⊥ = omega arith in z)
tokens_enough s (suc f) zero at i hf hg = absurd (let z : ⊥ = omega arith in z)
tokens_enough s (suc f) (suc g) at i hf hg =
    ap (λ (r : List Placed). placed s at ∷ r)
    (agree s at (tokens_from f s) (tokens_from g s) (λ k l m. tokens_enough s f g k m (omega arith) (omega arith)) (token_at s at) (token_ahead s at))

-- the token at a place, and then those behind it
pub tokens_step : (s : Bytes) (at : ℕ) → at ≤ length s → tokens_at s at ≡ placed s at ∷ following (tokens_at s) (token_at s at)
unfolding tokens_at tokens_from
tokens_step s at i =
    ap (λ (r : List Placed). placed s at ∷ r)
    (agree s at (tokens_from (length s) s) (tokens_from (suc (length s)) s) (λ k l m. tokens_enough s (length s) (suc (length s)) k m (omega arith) (omega arith)) (token_at s at) (token_ahead s at))

-- the same, by what the token is
pub tokens_item : (s : Bytes) (at : ℕ) (kind : Kind) (next : ℕ) → at ≤ length s → token_at s at ≡ Item kind next → tokens_at s at ≡ record { at = at; token = Item kind next } ∷ tokens_at s next
tokens_item s at kind next i e = tokens_step s at i ∙ ap (λ (t : Token). record { at = at; token = t } ∷ following (tokens_at s) t) e

pub tokens_end : (s : Bytes) (at : ℕ) → at ≤ length s → token_at s at ≡ End → tokens_at s at ≡ record { at = at; token = End } ∷ []
tokens_end s at i e = tokens_step s at i ∙ ap (λ (t : Token). record { at = at; token = t } ∷ following (tokens_at s) t) e

pub tokens_cut : (s : Bytes) (at : ℕ) → at ≤ length s → token_at s at ≡ Cut → tokens_at s at ≡ record { at = at; token = Cut } ∷ []
tokens_cut s at i e = tokens_step s at i ∙ ap (λ (t : Token). record { at = at; token = t } ∷ following (tokens_at s) t) e
