-- Two structure blocks that agree but in hidden value bytes: they have the same tokens, are judged alike, and say the same events but
-- for those values.
use Rattle.std.specs.Prelude.{◌≡◌, refl, ◌⊎◌, Bool, true, false, get_or, take, drop, eqb, leb, ltb}
use Rattle.std.proofs.Math.Path.{sym}
use Rattle.std.proofs.Common.{ap, ◌∙◌, inl, inr, length-drop, ext_get_or, get_or-take, eqb-true, leb-true, ltb-true}
use mathlib.Core.List.{List, [], ◌∷◌}
use Prim.Native.Nat.{ℕ, zero, suc, ◌+◌, ◌≤◌, ◌<◌, min}
use native.Mathlib.Omega.{arith}
use Rattle.std.proofs.Math.ListN.{length, length-take}
use Rattle.std.proofs.Math.Seq.{get_or-drop}
use Rattle.rules.specs.Octets.{Bytes, word_at, length_to, nul_in, part}
use Rattle.rules.specs.Outcome.{Verdict}
use Rattle.rules.specs.Blob.{Block}
use Rattle.rules.specs.Tokens.{Placed, begin_at, prop_at, tagged, token_at, following, tokens_from, tokens}
use Rattle.rules.specs.Events.{Walk, at_start, Step, stop, done, go, node_name_at, string_at, property_reads, opening, closing, holding, after, judge, shape_judged, Property, Event, opens, has, closes, saying, events_of, events_in}
use Rattle.rules.specs.Tree.{top, rest}
use Rattle.rules.specs.Withheld.{in_value}
use Rattle.rules.specs.declared.Token.{Token}
use Rattle.rules.specs.declared.Token.TheVariants.{Item, End, Cut}
use Rattle.rules.specs.declared.Kind.TheVariants.{Begin, EndNode, Prop, Nop}
use Rattle.rules.proofs.Laws.Tests.{by_test, never, and_true}
use Rattle.rules.proofs.Laws.Secrecy.Alike.{Veiled, veiled, both_open, both_have, both_close}
use Rattle.rules.proofs.Laws.Octets.{nul_stop, nul_on}
use Rattle.rules.proofs.Laws.Tokens.{PropSeen, Seen, token_seen}

-- ---- the same bytes give the same

-- from a place on, up to another
abbrev pub Clear : Bytes → Bytes → ℕ → ℕ → Type 0
Clear s c i j = (x : ℕ) → i ≤ x → x < j → get_or s x 0 ≡ get_or c x 0

pub word_same : (s c : Bytes) (i : ℕ) → Clear s c i (i + 4) → word_at s i ≡ word_at c i
unfolding word_at
word_same s c i h =
    rw (
      h i (omega arith) (omega arith),
      h (i + 1) (omega arith) (omega arith),
      h (i + 2) (omega arith) (omega arith),
      h (i + 3) (omega arith) (omega arith),
    )

pub part_same : (s c : Bytes) (v n : ℕ) → length s ≡ length c → Clear s c v (v + n) → part s v n ≡ part c v n
part_same s c v n e h =
    ext_get_or 0 (take n (drop v s)) (take n (drop v c)) (simp (length-take, length-drop, e))
    (λ i p. let q : i < n = omega (arith, length-take n (drop v s)) in
    get_or-take n (drop v s) i 0 q
    ∙ get_or-drop v s i 0
    ∙ h (v + i) (omega arith) (omega arith)
    ∙ sym (get_or-drop v c i 0)
    ∙ sym (get_or-take n (drop v c) i 0 q))

-- where the first NUL stands is known by the bytes up to it
nul_same : (s c : Bytes) → length s ≡ length c → ((i : ℕ) → i ≤ nul_in s → get_or s i 0 ≡ get_or c i 0) → nul_in s ≡ nul_in c
unfolding length_to
nul_same [] [] e h = refl
nul_same [] (y ∷ c) e h = absurd (omega arith)
nul_same (x ∷ s) [] e h = absurd (omega arith)
nul_same (x ∷ s) (y ∷ c) e h =
    let q : x ≡ y = h 0 (omega arith) in
    by_test (eqb x 0)
    (λ t. nul_stop x s t ∙ sym (nul_stop y c (rw q at t)))
    (λ t. let n = nul_on x s t in
    n ∙ ap suc (nul_same s c (omega arith) (λ i p. h (suc i) (omega arith))) ∙ sym (nul_on y c (rw q at t)))

module _ (s c : Bytes) (size : length s ≡ length c) where
  pub begin_same : (b : ℕ) → Clear s c b (b + nul_in (drop b s) + 1) → begin_at s b ≡ begin_at c b
  unfolding begin_at
  begin_same b h =
      let e : nul_in (drop b s) ≡ nul_in (drop b c) =
      nul_same (drop b s) (drop b c) (simp (length-drop, size))
      (λ i p. get_or-drop b s i 0 ∙ h (b + i) (omega arith) (omega arith) ∙ sym (get_or-drop b c i 0)) in
      rw (e, size)

  pub prop_at_same : (b : ℕ) → Clear s c b (b + 8) → prop_at s b ≡ prop_at c b
  unfolding prop_at
  prop_at_same b h =
      rw (word_same s c b (λ x p q. h x p (omega arith)), word_same s c (b + 4) (λ x p q. h x (omega arith) (omega arith)), size)

  tagged_same : (tag b : ℕ) → (tag ≡ 1 → begin_at s b ≡ begin_at c b) → (tag ≡ 3 → prop_at s b ≡ prop_at c b) → tagged tag s b ≡ tagged tag c b
  unfolding tagged
  tagged_same tag b f g = by_test (eqb tag 1)
      (λ e. rw e (f (eqb-true tag 1 e)))
      (λ e. by_test (eqb tag 3)
      (λ h. rw (e, h, g (eqb-true tag 3 h)))
      (λ h. rw (e, h)))

  pub token_same : (at : ℕ) → Clear s c at (at + 4) → (word_at s at ≡ 1 → begin_at s (at + 4) ≡ begin_at c (at + 4))
      → (word_at s at ≡ 3 → prop_at s (at + 4) ≡ prop_at c (at + 4)) → token_at s at ≡ token_at c at
  unfolding token_at
  token_same at h f g = rw (tagged_same (word_at s at) (at + 4) f g, word_same s c at h, size)

-- ---- hidden places

-- x is a place of a value of events, of a node and a name that are secret
abbrev pub Hidden : (S : ℕ → Bytes → Bool) (x : ℕ) → List ℕ → ℕ → List Event → Type 0
Hidden S x stack next [] = ⊥
Hidden S x stack next (opens place name ∷ es) = Hidden S x (next ∷ stack) (suc next) es
Hidden S x stack next (has p ∷ es) = ((in_value p x ≡ true) × (S (top stack) p.name ≡ true)) ⊎ Hidden S x stack next es
Hidden S x stack next (closes place ∷ es) = Hidden S x (rest stack) next es

pub in_value_lem : (p : Property) (x : ℕ) → in_value p x ≡ true → (p.place + 12 ≤ x) × (x < p.place + 12 + length p.value)
unfolding in_value
in_value_lem p x e =
    let k = and_true (leb (p.place + 12) x) (ltb x (p.place + 12 + length p.value)) e in
    (leb-true (p.place + 12) x k.0, ltb-true x (p.place + 12 + length p.value) k.1)

-- ---- the walk over both

pub after_same : (f g : Walk → Verdict) (place : ℕ) (s : Step) → ((w : Walk) → f w ≡ g w) → after f place s ≡ after g place s
after_same f g place (stop number) h = refl
after_same f g place done h = refl
after_same f g place (go w) h = h w

abbrev pub Open : (ℕ → Bytes → Bool) → ℕ → Bytes → Type 0
Open S i n = S i n ≡ false

module _ (S : ℕ → Bytes → Bool) (place : ℕ) (strings s : Bytes) where
  abbrev host : Block
  host = record { place = place; structure = s; strings = strings }

  -- what is hidden behind a place stands behind it, and in the block
  abbrev Behind : ℕ → ℕ → Type 0
  Behind fuel at =
      (x : ℕ) (stack : List ℕ) (next : ℕ) → Hidden S x stack next (events_of host (tokens_from fuel s at))
      → (place + at + 12 ≤ x) × (x < place + length s)

  behind_token_lem : (fuel at : ℕ) → ((next : ℕ) → Behind fuel next) → (k : Token) → Seen s at k → (x : ℕ) (stack : List ℕ) (next : ℕ)
      → Hidden S x stack next (saying host at k (events_of host (following (tokens_from fuel s) k))) → (place + at + 12 ≤ x) × (x < place + length s)
  unfolding events_of
  behind_token_lem fuel at ih (Item (Begin len) to) r x stack next h = let b = ih to x (next ∷ stack) (suc next) h in (omega (arith, r.ends), b.1)
  behind_token_lem fuel at ih (Item EndNode to) r x stack next h = let b = ih to x (rest stack) next h in (omega (arith, r.ends), b.1)
  behind_token_lem fuel at ih (Item (Prop len name value) to) r x stack next (inl h) =
      let p : Property = record { place = place + at; name = string_at strings name; value = part s value len } in
      let b = in_value_lem p x h.0 in
      let l : length (part s value len) ≡ min len (length (drop value s)) = length-take len (drop value s) in
      (b.0, omega (arith, r.ends, r.inside, b.1))
  behind_token_lem fuel at ih (Item (Prop len name value) to) r x stack next (inr h) = let b = ih to x stack next h in (omega (arith, r.ends), b.1)
  behind_token_lem fuel at ih (Item Nop to) r x stack next h = let b = ih to x stack next h in (omega (arith, r.ends), b.1)
  behind_token_lem fuel at ih End r x stack next h = absurd h
  behind_token_lem fuel at ih Cut r x stack next h = absurd h

  pub behind : (fuel at : ℕ) → Behind fuel at
  unfolding tokens_from events_of
  behind zero at x stack next h = absurd h
  behind (suc fuel) at x stack next h = behind_token_lem fuel at (behind fuel) (token_at s at) (token_seen s at) x stack next h

  module _ (c : Bytes) (size : length s ≡ length c) where
    abbrev other : Block
    other = record { place = place; structure = c; strings = strings }

    -- from a place on the blocks agree but in what is hidden
    abbrev pub Veil : ℕ → List ℕ → ℕ → List Event → Type 0
    Veil at stack next es = (x : ℕ) → at ≤ x → (get_or s x 0 ≡ get_or c x 0) ⊎ Hidden S (place + x) stack next es

    -- up to where the next token stands they agree
    clear_to : (fuel at to : ℕ) (stack : List ℕ) (next : ℕ) → Veil at stack next (events_of host (tokens_from fuel s to)) → Clear s c at (to + 12)
    clear_to fuel at to stack next v x p q = elim (v x p) [
      | inl e ↦ e
      | inr m ↦ absurd (omega (arith, (behind fuel to (place + x) stack next m).0))
    ]

    prop_clear : (fuel at len name value to : ℕ) → PropSeen s at len name value to → (stack : List ℕ) (next : ℕ)
        → Veil at stack next (saying host at (Item (Prop len name value) to) (events_of host (tokens_from fuel s to))) → Clear s c at (at + 12)
    prop_clear fuel at len name value to r stack next v x p q = elim (v x p) [
      | inl e ↦ e
      | inr m ↦ elim m [
        | inl h ↦ absurd (omega (
          arith,
          (in_value_lem (record { place = place + at; name = string_at strings name; value = part s value len }) (place + x) h.0).0,
        ))
        | inr h ↦ absurd (omega (arith, r.ends, (behind fuel to (place + x) stack next h).0))
      ]
    ]

    all_clear : (at : ℕ) (stack : List ℕ) (next : ℕ) → Veil at stack next [] → (j : ℕ) → Clear s c at j
    all_clear at stack next v j x p q = elim (v x p) [ inl e ↦ e | inr m ↦ absurd m ]

    -- the token at a place is the same
    token_kept : (fuel at : ℕ) (k : Token) → Seen s at k → (stack : List ℕ) (next : ℕ)
        → Veil at stack next (saying host at k (events_of host (following (tokens_from fuel s) k))) → token_at s at ≡ token_at c at
    unfolding events_of
    token_kept fuel at (Item (Begin len) to) r stack next v =
        let clear : Clear s c at (to + 12) = clear_to fuel at to (next ∷ stack) (suc next) v in
        token_same s c size at (λ x p q. clear x p (omega (arith, r.ends)))
        (λ e. begin_same s c size (at + 4) (λ x p q. clear x (omega arith) (omega (arith, r.ends, r.name))))
        (λ (e : word_at s at ≡ 3). absurd (omega (arith, r.tag)))
    token_kept fuel at (Item EndNode to) r stack next v =
        let clear : Clear s c at (to + 12) = clear_to fuel at to (rest stack) next v in
        token_same s c size at (λ x p q. clear x p (omega (arith, r.ends)))
        (λ (e : word_at s at ≡ 1). absurd (omega (arith, r.tag)))
        (λ (e : word_at s at ≡ 3). absurd (omega (arith, r.tag)))
    token_kept fuel at (Item (Prop len name value) to) r stack next v =
        let clear : Clear s c at (at + 12) = prop_clear fuel at len name value to r stack next v in
        token_same s c size at (λ x p q. clear x p (omega arith))
        (λ (e : word_at s at ≡ 1). absurd (omega (arith, r.tag)))
        (λ e. prop_at_same s c size (at + 4) (λ x p q. clear x (omega arith) (omega arith)))
    token_kept fuel at (Item Nop to) r stack next v =
        let clear : Clear s c at (to + 12) = clear_to fuel at to stack next v in
        token_same s c size at (λ x p q. clear x p (omega (arith, r.ends)))
        (λ (e : word_at s at ≡ 1). absurd (omega (arith, r.tag)))
        (λ (e : word_at s at ≡ 3). absurd (omega (arith, r.tag)))
    token_kept fuel at End r stack next v =
        token_same s c size at (all_clear at stack next v (at + 4))
        (λ e. begin_same s c size (at + 4) (λ x p q. all_clear at stack next v (suc x) x (omega arith) (omega arith)))
        (λ e. prop_at_same s c size (at + 4) (λ x p q. all_clear at stack next v (suc x) x (omega arith) (omega arith)))
    token_kept fuel at Cut r stack next v =
        token_same s c size at (all_clear at stack next v (at + 4))
        (λ e. begin_same s c size (at + 4) (λ x p q. all_clear at stack next v (suc x) x (omega arith) (omega arith)))
        (λ e. prop_at_same s c size (at + 4) (λ x p q. all_clear at stack next v (suc x) x (omega arith) (omega arith)))

    -- the same judgement, and the same events but for what is hidden
    pub record Kept (stack : List ℕ) (next : ℕ) (ts us : List Placed) : Type 0 where
      pub shape : (w : Walk) → judge host w ts ≡ judge other w us
      pub events : Veiled (Open S) stack next (events_of host ts) (events_of other us)

    value_same : (fuel at len name value to : ℕ) → PropSeen s at len name value to → (stack : List ℕ) (next : ℕ)
        → Veil at stack next (saying host at (Item (Prop len name value) to) (events_of host (tokens_from fuel s to)))
        → S (top stack) (string_at strings name) ≡ false → part s value len ≡ part c value len
    value_same fuel at len name value to r stack next v o = part_same s c value len size
        (λ x p q. elim (v x (omega (arith, r.begins))) [
          | inl e ↦ e
          | inr m ↦ elim m [
            | inl h ↦ never (S (top stack) (string_at strings name)) h.1 o
            | inr h ↦ absurd (omega (arith, r.begins, r.ends, (behind fuel to (place + x) stack next h).0))
          ]
        ])

    part_size : (value len : ℕ) → length (part s value len) ≡ length (part c value len)
    part_size value len = simp (length-take, length-drop, size)

    -- behind a value
    later_veil : (fuel at len name value to : ℕ) → PropSeen s at len name value to → (stack : List ℕ) (next : ℕ)
        → Veil at stack next (saying host at (Item (Prop len name value) to) (events_of host (tokens_from fuel s to)))
        → Veil to stack next (events_of host (tokens_from fuel s to))
    later_veil fuel at len name value to r stack next v x p = elim (v x (omega (arith, r.ends))) [
      | inl e ↦ inl e
      | inr m ↦ elim m [
        | inl h ↦
            let b = in_value_lem (record { place = place + at; name = string_at strings name; value = part s value len }) (place + x) h.0 in
            let l : length (part s value len) ≡ min len (length (drop value s)) = length-take len (drop value s) in
            absurd (omega (arith, r.ends, b.1))
        | inr h ↦ inr h
      ]
    ]

    -- what holds from the next place on holds from this one on, whichever token stands here
    kept_token : (fuel at : ℕ) (k : Token) → Seen s at k
        → ((to : ℕ) (stack : List ℕ) (next : ℕ) → Veil to stack next (events_of host (tokens_from fuel s to))
        → Kept stack next (tokens_from fuel s to) (tokens_from fuel c to))
        → (stack : List ℕ) (next : ℕ) → Veil at stack next (saying host at k (events_of host (following (tokens_from fuel s) k)))
        → Kept stack next (record { at = at; token = k } ∷ following (tokens_from fuel s) k)
        (record { at = at; token = k } ∷ following (tokens_from fuel c) k)
    unfolding judge events_of
    kept_token fuel at (Item (Begin len) to) r ih stack next v =
        let w = ih to (next ∷ stack) (suc next) (λ x p. v x (omega (arith, r.ends))) in
        let clear : Clear s c at (to + 12) = clear_to fuel at to (next ∷ stack) (suc next) v in
        let e : node_name_at s at len ≡ node_name_at c at len = part_same s c (at + 4) len size (λ x p q. clear x (omega arith) (omega (arith, r.ends))) in
        record {
          shape = λ z. rw e (after_same _ _ (place + at) (opening z (node_name_at c at len)) w.shape);
          events = rw e (both_open w.events);
        }
    kept_token fuel at (Item EndNode to) r ih stack next v =
        let w = ih to (rest stack) next (λ x p. v x (omega (arith, r.ends))) in
        record { shape = λ z. after_same _ _ (place + at) (closing z) w.shape; events = both_close w.events }
    kept_token fuel at (Item (Prop len name value) to) r ih stack next v =
        let w = ih to stack next (later_veil fuel at len name value to r stack next v) in
        record {
          shape = λ z. after_same _ _ (place + at) (holding z (property_reads strings name)) w.shape;
          events =
              both_have (record { place = refl; name = refl; size = part_size value len; value = value_same fuel at len name value to r stack next v })
              w.events;
        }
    kept_token fuel at (Item Nop to) r ih stack next v =
        let w = ih to stack next (λ x p. v x (omega (arith, r.ends))) in
        record { shape = λ z. w.shape z; events = w.events }
    kept_token fuel at End r ih stack next v = record { shape = λ z. rw size; events = veiled }
    kept_token fuel at Cut r ih stack next v = record { shape = λ z. refl; events = veiled }

    kept : (fuel at : ℕ) (stack : List ℕ) (next : ℕ) → Veil at stack next (events_of host (tokens_from fuel s at))
        → Kept stack next (tokens_from fuel s at) (tokens_from fuel c at)
    unfolding tokens_from judge events_of
    kept zero at stack next v = record { shape = λ z. refl; events = veiled }
    kept (suc fuel) at stack next v =
        rw (← token_kept fuel at (token_at s at) (token_seen s at) stack next v)
        (kept_token fuel at (token_at s at) (token_seen s at) (kept fuel) stack next v)

    -- THE SAME SHAPE, AND THE SAME EVENTS BUT FOR WHAT IS HIDDEN
    pub shape_kept : Veil 0 [] 0 (events_in host) → shape_judged host ≡ shape_judged other
    unfolding shape_judged events_in tokens
    shape_kept v = rw (← size) ((kept (suc (length s)) 0 [] 0 v).shape at_start)

    pub events_kept : Veil 0 [] 0 (events_in host) → Veiled (Open S) [] 0 (events_in host) (events_in other)
    unfolding events_in tokens
    events_kept v = rw (← size) (kept (suc (length s)) 0 [] 0 v).events

  pub behind_all : (x : ℕ) → Hidden S x [] 0 (events_in host) → (place ≤ x) × (x < place + length s)
  unfolding events_in tokens
  behind_all x h = let b = behind (suc (length s)) 0 x [] 0 h in (omega arith, b.1)
