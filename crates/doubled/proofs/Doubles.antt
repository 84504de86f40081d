-- The properties of one node: read one after the other, and judged by what comes after a part of them.
use mathlib.Core.Path.{◌≡◌, refl, sym, ap, ap₂, ◌∙◌, subst}
use mathlib.Core.Bool.{Bool, true, false, ◌||◌}
use mathlib.Core.List.{List, [], ◌∷◌, ◌++◌, append_assoc, append-nil}
use Prim.Native.Nat.{ℕ, zero, suc, ◌+◌, ◌-◌, ◌≤◌, ◌<◌}
use native.Mathlib.Omega.{arith}
use native.Mathlib.Numerals.{add-one}
use lib.ListN.{length, take, drop, length-drop}
use lib.Seq.{take_all, take-nil}
use Rattle.rules.specs.Octets.{Bytes, same, part, word_at}
use Rattle.rules.specs.Outcome.{Verdict, gives, refuses, passes, ◌then◌}
use Rattle.rules.specs.Blob.{block_of}
use Rattle.rules.specs.Events.{Property, string_at}
use Rattle.rules.specs.Tree.{named, doubled_props}
use Rattle.rules.proofs.Laws.Tests.{by_test, or_nothing, or_right, or_assoc}
use Rattle.rules.proofs.Laws.Tokens.{prop_says}
use Rattle.tokens.specs.declared.Property as read
use Rattle.tokens.specs.Properties.{property_at}
use Rattle.tokens.proofs.Properties.{here_found, props_none, props_here}
use Rattle.doubled.specs.Passes.{props_at}
use Rattle.doubled.specs.Props.{first_hit, up_to_hit, Met, Unmet, MeetsBy}
use Rattle.doubled.specs.declared.props.Hit.{Hit}
use Rattle.std.specs.Prelude.{Option, Some, None}

-- ---- the next property

pub record Next (s strings : Bytes) (from at name next : ℕ) : Type 0 where
  pub value : Bytes
  pub ahead : from ≤ at
  pub inside : at + 12 ≤ next
  pub within : next ≤ length s
  pub offset : word_at s (at + 8) ≡ name
  pub list : (place : ℕ) → props_at s strings place from ≡ record { place = place + at; name = string_at strings name; value = value } ∷ props_at s strings place next

module _ (s strings : Bytes) (from : ℕ) (i : from ≤ length s) (r : Option read.Property) (e : r ≡ property_at s from) where
  pub next_here : (q : read.Property) → r ≡ Some q → Next s strings from q.at q.name q.next
  next_here q f =
      let k = here_found s from r e q f in
      let p = prop_says s q.at q.len q.name q.value q.next k.token in
      let eight : q.at + 8 ≡ q.at + 4 + 4 = omega arith in
      record {
        value = part s q.value q.len;
        ahead = k.ahead;
        inside = omega (arith, p.ends);
        within = p.inside;
        offset = ap (word_at s) eight ∙ sym p.offset;
        list = λ place. props_here (block_of place s strings) from i r e q f;
      }

  pub next_none : r ≡ None → (place : ℕ) → props_at s strings place from ≡ []
  next_none f place = props_none (block_of place s strings) from i r e f

-- ---- parts of a list

take_next : (i : ℕ) (ps : List Property) (q : Property) (qs : List Property) → drop i ps ≡ q ∷ qs → take (suc i) ps ≡ take i ps ++ q ∷ []
take_next zero [] q qs e = let z : ◌≡◌ {A = ℕ} 0 1 = cc in absurd (omega arith)
take_next zero (x ∷ ps) q qs e = ap (λ (y : Property). y ∷ []) (heads x q ps qs e)
  where
    heads : (x q : Property) (ps qs : List Property) → x ∷ ps ≡ q ∷ qs → x ≡ q
    heads x q ps qs e = cc
take_next (suc i) [] q qs e = let z : ◌≡◌ {A = ℕ} 0 1 = cc in absurd (omega arith)
take_next (suc i) (x ∷ ps) q qs e = ap (λ (l : List Property). x ∷ l) (take_next i ps q qs e)

drop_next : (i : ℕ) (ps : List Property) (q : Property) (qs : List Property) → drop i ps ≡ q ∷ qs → drop (suc i) ps ≡ qs
drop_next zero [] q qs e = let z : ◌≡◌ {A = ℕ} 0 1 = cc in absurd (omega arith)
drop_next zero (x ∷ ps) q qs e = cc
drop_next (suc i) [] q qs e = let z : ◌≡◌ {A = ℕ} 0 1 = cc in absurd (omega arith)
drop_next (suc i) (x ∷ ps) q qs e = drop_next i ps q qs e

-- ---- the first that passes a test

module _ (f : Bytes → Bool) (q : Property) (qs : List Property) where
  hit_fault : f q.name ≡ true → first_hit f (q ∷ qs) ≡ refuses 10 q.place
  unfolding first_hit
  hit_fault e = rw (first_hit, e)

  miss_fault : f q.name ≡ false → first_hit f (q ∷ qs) ≡ first_hit f qs
  unfolding first_hit
  miss_fault e = rw (first_hit, e)

  hit_rest : f q.name ≡ true → up_to_hit f (q ∷ qs) ≡ []
  unfolding up_to_hit
  hit_rest e = rw (up_to_hit, e)

  miss_rest : f q.name ≡ false → up_to_hit f (q ∷ qs) ≡ q ∷ up_to_hit f qs
  unfolding up_to_hit
  miss_rest e = rw (up_to_hit, e)

none_fault : (f : Bytes → Bool) → first_hit f [] ≡ passes
unfolding first_hit
none_fault f = refl

none_rest : (f : Bytes → Bool) → up_to_hit f [] ≡ []
unfolding up_to_hit
none_rest f = refl

-- a search that has passed i of them, and stands before what is left
pub record Looked (f : Bytes → Bool) (ps : List Property) (left i : ℕ) (qs : List Property) : Type 0 where
  pub here : qs ≡ drop i ps
  pub fault : first_hit f (take left ps) ≡ first_hit f (take (left - i) qs)
  pub rest : up_to_hit f (take left ps) ≡ take i ps ++ up_to_hit f (take (left - i) qs)

pub looked_start : (f : Bytes → Bool) (ps : List Property) (left : ℕ) → Looked f ps left 0 ps
looked_start f ps left = let e : left - 0 ≡ left = omega arith in record { here = refl; fault = rw e; rest = rw e }

module _ (f : Bytes → Bool) (ps : List Property) (left i : ℕ) (qs : List Property) (k : Looked f ps left i qs) where
  pub looked_none : i ≤ left → qs ≡ [] → (first_hit f (take left ps) ≡ passes) × (up_to_hit f (take left ps) ≡ take left ps)
  looked_none h e =
      let d : drop i ps ≡ [] = sym k.here ∙ e in
      let n : length ps ≤ i = omega (arith, ap length d, length-drop i ps) in
      let t : take (left - i) qs ≡ [] = ap (take (left - i)) e ∙ take-nil (left - i) in (
        k.fault ∙ ap (first_hit f) t ∙ none_fault f,
        k.rest ∙ ap (λ (l : List Property). take i ps ++ up_to_hit f l) t ∙ ap (λ (l : List Property). take i ps ++ l) (none_rest f) ∙ append-nil (take i ps) ∙ take_all i ps n ∙ sym (take_all left ps (omega arith)),
      )

  pub looked_done : i ≡ left → (first_hit f (take left ps) ≡ passes) × (up_to_hit f (take left ps) ≡ take left ps)
  looked_done e =
      let z : left - i ≡ 0 = omega arith in
      let t : take (left - i) qs ≡ [] = ap (λ (n : ℕ). take n qs) z in (
        k.fault ∙ ap (first_hit f) t ∙ none_fault f,
        k.rest ∙ ap (λ (l : List Property). take i ps ++ up_to_hit f l) t ∙ ap (λ (l : List Property). take i ps ++ l) (none_rest f) ∙ append-nil (take i ps) ∙ ap (λ (n : ℕ). take n ps) e,
      )

  module _ (h : i < left) (q : Property) (rs : List Property) (e : qs ≡ q ∷ rs) where
    next : take (left - i) qs ≡ q ∷ take (left - (i + 1)) rs
    next = let n : left - i ≡ suc (left - (i + 1)) = omega arith in rw (n, e)

    pub looked_hit : f q.name ≡ true → (first_hit f (take left ps) ≡ refuses 10 q.place) × (up_to_hit f (take left ps) ≡ take i ps)
    looked_hit t = (
      k.fault ∙ ap (first_hit f) next ∙ hit_fault f q _ t,
      k.rest ∙ ap (λ (l : List Property). take i ps ++ up_to_hit f l) next ∙ ap (λ (l : List Property). take i ps ++ l) (hit_rest f q _ t) ∙ append-nil (take i ps),
    )

    pub looked_miss : f q.name ≡ false → Looked f ps left (i + 1) rs
    looked_miss t =
        let d : drop i ps ≡ q ∷ rs = sym k.here ∙ e in
        let more : take i ps ++ q ∷ [] ≡ take (i + 1) ps = sym (ap (λ (n : ℕ). take n ps) (add-one i) ∙ take_next i ps q rs d) in
        record {
          here = rw (add-one i) (sym (drop_next i ps q rs d));
          fault = k.fault ∙ ap (first_hit f) next ∙ miss_fault f q _ t;
          rest =
              k.rest
              ∙ ap (λ (l : List Property). take i ps ++ up_to_hit f l) next
              ∙ ap (λ (l : List Property). take i ps ++ l) (miss_rest f q _ t)
              ∙ sym (append_assoc (take i ps) (q ∷ []) _)
              ∙ ap (λ (l : List Property). l ++ up_to_hit f (take (left - (i + 1)) rs)) more;
        }

-- ---- a part of the properties, and those behind it

named_append : (x : Bytes) (ys xs : List Property) → named x (ys ++ xs) ≡ named x ys || named x xs
unfolding named
named_append x [] xs = refl
named_append x (y ∷ ys) xs = ap (λ (b : Bool). same x y.name || b) (named_append x ys xs) ∙ sym (or_assoc (same x y.name) (named x ys) (named x xs))

module _ (seen : List Property) (p : Property) (ps : List Property) where
  pub props_fault : named p.name seen ≡ true → doubled_props seen (p ∷ ps) ≡ refuses 10 p.place
  unfolding doubled_props
  props_fault e = rw (doubled_props, e)

  pub props_go : named p.name seen ≡ false → doubled_props seen (p ∷ ps) ≡ doubled_props (p ∷ seen) ps
  unfolding doubled_props
  props_go e = rw (doubled_props, e)

pub judged_none : (seen : List Property) → doubled_props seen [] ≡ passes
unfolding doubled_props
judged_none seen = refl

pub then_passes : (v : Verdict) → (v then passes) ≡ v
then_passes (gives u) = refl
then_passes (refuses n x) = refl

pub then_refuses : (v w : Verdict) (n x : ℕ) → ((v then refuses n x) then w) ≡ (v then refuses n x)
then_refuses (gives u) w n x = refl
then_refuses (refuses m y) w n x = refl

-- What is named in xs is at fault; before it, the rest is judged by itself.
module _ (f : Bytes → Bool) (xs : List Property) (same : (x : Bytes) → named x xs ≡ f x) where
  split : (ys ps : List Property) → doubled_props (ys ++ xs) ps ≡ (doubled_props ys (up_to_hit f ps) then first_hit f ps)
  split ys [] = judged_none (ys ++ xs) ∙ sym (ap₂ (λ (v w : Verdict). v then w) (ap (doubled_props ys) (none_rest f) ∙ judged_none ys) (none_fault f))
  split ys (p ∷ ps) =
      let n : named p.name (ys ++ xs) ≡ named p.name ys || f p.name = named_append p.name ys xs ∙ ap (λ (b : Bool). named p.name ys || b) (same p.name) in
      by_test (f p.name)
      (λ t. props_fault (ys ++ xs) p ps (n ∙ or_right (named p.name ys) (f p.name) t)
      ∙ sym (ap₂ (λ (v w : Verdict). v then w) (ap (doubled_props ys) (hit_rest f p ps t) ∙ judged_none ys) (hit_fault f p ps t)))
      (λ t. let m : named p.name (ys ++ xs) ≡ named p.name ys = n ∙ ap (λ (b : Bool). named p.name ys || b) t ∙ or_nothing (named p.name ys) in
      by_test (named p.name ys)
      (λ u. props_fault (ys ++ xs) p ps (m ∙ u)
      ∙ sym (ap (λ (v : Verdict). v then first_hit f (p ∷ ps)) (ap (doubled_props ys) (miss_rest f p ps t) ∙ props_fault ys p (up_to_hit f ps) u)))
      (λ u. props_go (ys ++ xs) p ps (m ∙ u)
      ∙ split (p ∷ ys) ps
      ∙ sym (ap₂ (λ (v w : Verdict). v then w) (ap (doubled_props ys) (miss_rest f p ps t) ∙ props_go ys p (up_to_hit f ps) u) (miss_fault f p ps t))))

  pub behind : (ps : List Property) → doubled_props xs ps ≡ (doubled_props [] (up_to_hit f ps) then first_hit f ps)
  behind ps = split [] ps

pub meets_here : (f : Bytes → Bool) (s strings : Bytes) (from left : ℕ) (hit : Hit) (r : Option Hit) → r ≡ Some hit → MeetsBy f s strings from left r → Met f s strings from left hit.index hit.at
meets_here f s strings from left hit r e h = subst (MeetsBy f s strings from left) e h

pub meets_none : (f : Bytes → Bool) (s strings : Bytes) (from left : ℕ) (r : Option Hit) → r ≡ None → MeetsBy f s strings from left r → Unmet f s strings from left
meets_none f s strings from left r e h = subst (MeetsBy f s strings from left) e h

-- ---- as many as are left, and what was found behind them

-- all of them, and nothing found
pub left_all : (ps : List Property) (left : ℕ) → left ≡ length ps → (doubled_props [] (take left ps) then passes) ≡ doubled_props [] ps
left_all ps left e = then_passes _ ∙ ap (doubled_props []) (take_all left ps (omega arith))

pub left_zero : (left : ℕ) (ps : List Property) (v : Verdict) → left ≡ 0 → (doubled_props [] (take left ps) then v) ≡ v
left_zero left ps v e = ap (λ (w : Verdict). w then v) (ap (doubled_props []) (ap (λ (n : ℕ). take n ps) e) ∙ judged_none [])

-- a full chunk, and what is behind it: one of that is in the chunk, or none is
module _ (f : Bytes → Bool) (xs rs : List Property) (left : ℕ) (v a : Verdict)
    (same : (x : Bytes) → named x xs ≡ f x) (e : a ≡ doubled_props xs (take left rs)) where
  pub left_hit : (index x : ℕ) → first_hit f (take left rs) ≡ refuses 10 x → up_to_hit f (take left rs) ≡ take index rs
      → (a then v) ≡ (doubled_props [] (take index rs) then refuses 10 x)
  left_hit index x g b =
      ap (λ (w : Verdict). w then v) (e ∙ behind f xs same (take left rs) ∙ ap₂ (λ (l : List Property) (w : Verdict). doubled_props [] l then w) b g)
      ∙ then_refuses (doubled_props [] (take index rs)) v 10 x

  pub left_miss : first_hit f (take left rs) ≡ passes → up_to_hit f (take left rs) ≡ take left rs
      → (a then v) ≡ (doubled_props [] (take left rs) then v)
  left_miss g b =
      ap (λ (w : Verdict). w then v)
      (e ∙ behind f xs same (take left rs) ∙ ap₂ (λ (l : List Property) (w : Verdict). doubled_props [] l then w) b g ∙ then_passes (doubled_props [] (take left rs)))
