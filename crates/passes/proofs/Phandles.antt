-- Refusal 12 as a walk over events.
use mathlib.Core.Path.{◌≡◌, refl, sym, ap, ap₂, ◌∙◌, subst}
use mathlib.Core.Bool.{Bool, true, false, ◌||◌}
use mathlib.Core.List.{List, [], ◌∷◌}
use Prim.Native.Nat.{ℕ, zero, suc, ◌+◌, ◌≤◌}
use native.Mathlib.Omega.{arith}
use lib.ListN.{length}
use Rattle.rules.specs.Octets.{Bytes, word_at, part}
use Rattle.rules.specs.Outcome.{Verdict, refuses, passes}
use Rattle.rules.specs.Blob.{Block, block_of}
use Rattle.rules.specs.Tokens.{token_at}
use Rattle.rules.specs.Events.{Property, Event, opens, has, closes, string_at, saying, events_in}
use Rattle.rules.specs.Tree.{Node, props_of, rest, nodes_from, nodes_of, is_phandle, phandle_prop}
use Rattle.rules.specs.declared.Token.{Token}
use Rattle.rules.specs.declared.Token.TheVariants.{Item}
use Rattle.rules.specs.declared.Kind.{Kind}
use Rattle.rules.specs.declared.Kind.TheVariants.{Begin, EndNode, Prop, Nop}
use Rattle.rules.proofs.Laws.Tests.{by_test}
use Rattle.passes.specs.declared.shared.Search.{Search}
use Rattle.std.specs.Prelude.{Option, Some, None}
use Rattle.passes.specs.Rows.{row_has, row_below, row_given, rows_from, next_number, passed, row_give, row_prop, row_turn}
use Rattle.rules.specs.Laws.Events.{events_at}
use Rattle.doubled.specs.Passes.{nodes_in}
use Rattle.doubled.proofs.Ranges.{any_more}
use Rattle.std.specs.List.{list_any, range_with_len}
use Rattle.doubled.proofs.Turns.{events_all, events_item, events_stop}
use Rattle.rules.proofs.Laws.Passes.{phandle_here, phandle_past}

-- ---- a search over the rows

pub below_any : (w : List ℕ) (v n : ℕ) → list_any (λ j. row_has w j v) (range_with_len 0 n) ≡ row_below w n v
unfolding row_below
below_any w v zero = refl
below_any w v (suc n) =
    any_more (λ j. row_has w j v) 0 n ∙ ap₂ (λ (p q : Bool). p || q) (below_any w v n) (ap (λ (j : ℕ). row_has w j v) (let e : 0 + n ≡ n = omega arith in e))

-- ---- events

abbrev stepped : (place : ℕ) → (Bool → ℕ → List ℕ → Verdict × List ℕ) → Option Search → List ℕ → Verdict × List ℕ
stepped place go (Some search) w = go search.wants search.number w
stepped place go None w = (refuses 12 place, w)

unfoldable pub rows_rest : (wants : Bool) (i : ℕ) → List ℕ → List Event → Verdict × List ℕ
rows_rest wants i w [] = (passes, w)
rows_rest wants i w (opens place name ∷ es) = rows_rest true (next_number i wants) w es
rows_rest wants i w (has p ∷ es) =
    stepped p.place (λ (o : Bool) (j : ℕ) (x : List ℕ). rows_rest o j x es)
    (row_prop wants (is_phandle p.name) (record { number = i; wants = wants }) (word_at p.value 0) w).0
    (row_prop wants (is_phandle p.name) (record { number = i; wants = wants }) (word_at p.value 0) w).1
rows_rest wants i w (closes place ∷ es) = rows_rest false (next_number i wants) w es

-- what is left of the nodes, the one in which a phandle is looked for first
abbrev left : Bool → List Property → List Node → List Node
left true ps ns = record { place = 0; parent = 0; name = []; props = ps } ∷ ns
left false ps ns = ns

module _ (p : Property) (i : ℕ) (w : List ℕ) (es : List Event) where
  abbrev v : ℕ
  v = word_at p.value 0

  has_other : is_phandle p.name ≡ false → rows_rest true i w (has p ∷ es) ≡ rows_rest true i w es
  unfolding rows_rest
  has_other c = rw c

  has_fault : is_phandle p.name ≡ true → row_below w i v ≡ true → rows_rest true i w (has p ∷ es) ≡ (refuses 12 p.place, w)
  unfolding rows_rest row_give
  has_fault c b = rw (c, row_give, b)

  has_gives : is_phandle p.name ≡ true → row_below w i v ≡ false → rows_rest true i w (has p ∷ es) ≡ rows_rest false (suc i) (row_given w i v) es
  unfolding rows_rest row_give
  has_gives c b = rw (c, row_give, b)

module _ (p : Property) (ps : List Property) (i : ℕ) (w : List ℕ) (ns : List Node) where
  abbrev u : ℕ
  u = word_at p.value 0

  abbrev with : List Property → List Node
  with qs = left true qs ns

  from_other : is_phandle p.name ≡ false → rows_from w i (with (p ∷ ps)) ≡ rows_from w i (with ps)
  unfolding rows_from
  from_other c = rw (rows_from, phandle_past p ps c)

  from_fault : is_phandle p.name ≡ true → row_below w i u ≡ true → rows_from w i (with (p ∷ ps)) ≡ (refuses 12 p.place, w)
  unfolding rows_from
  from_fault c b = rw (rows_from, phandle_here p ps c, b)

  from_gives : is_phandle p.name ≡ true → row_below w i u ≡ false → rows_from w i (with (p ∷ ps)) ≡ rows_from (row_given w i u) (suc i) ns
  unfolding rows_from
  from_gives c b = rw (rows_from, phandle_here p ps c, b)

pub rows_nodes : (wants : Bool) (i : ℕ) (w : List ℕ) (stack : List ℕ) (next : ℕ) (es : List Event)
    → rows_rest wants i w es ≡ rows_from w i (left wants (props_of es) (nodes_from stack next es))
unfolding rows_rest rows_from props_of nodes_from phandle_prop
rows_nodes true i w stack next [] = refl
rows_nodes false i w stack next [] = refl
rows_nodes true i w stack next (opens place name ∷ es) = rows_nodes true (suc i) w (next ∷ stack) (suc next) es
rows_nodes false i w stack next (opens place name ∷ es) = rows_nodes true i w (next ∷ stack) (suc next) es
rows_nodes true i w stack next (closes place ∷ es) = rows_nodes false (suc i) w (rest stack) next es
rows_nodes false i w stack next (closes place ∷ es) = rows_nodes false i w (rest stack) next es
rows_nodes false i w stack next (has p ∷ es) = rows_nodes false i w stack next es
rows_nodes true i w stack next (has p ∷ es) =
    let ns : List Node = nodes_from stack next es in
    let v : ℕ = word_at p.value 0 in
    by_test (is_phandle p.name)
    (λ c. by_test (row_below w i v)
    (λ b. has_fault p i w es c b ∙ sym (from_fault p (props_of es) i w ns c b))
    (λ b. has_gives p i w es c b ∙ rows_nodes false (suc i) (row_given w i v) stack next es ∙ sym (from_gives p (props_of es) i w ns c b)))
    (λ c. has_other p i w es c ∙ rows_nodes true i w stack next es ∙ sym (from_other p (props_of es) i w ns c))

-- ---- one token

pub row_said : (b : Block) (q : Search) (w : List ℕ) (at : ℕ) (kind : Kind) (next : ℕ) (es : List Event)
    → rows_rest q.wants q.number w (saying b at (Item kind next) es)
    ≡ stepped (b.place + at) (λ (o : Bool) (j : ℕ) (x : List ℕ). rows_rest o j x es)
    (row_turn b.structure b.strings kind q w).0 (row_turn b.structure b.strings kind q w).1
unfolding rows_rest
row_said b q w at (Begin len) next es = refl
row_said b q w at EndNode next es = refl
row_said b q w at (Prop len name value) next es = refl
row_said b q w at Nop next es = refl

rows_none : (wants : Bool) (i : ℕ) (w : List ℕ) → rows_rest wants i w [] ≡ (passes, w)
unfolding rows_rest
rows_none wants i w = refl

-- ---- the walk from its start to its end

pub rows_start : (s strings : Bytes) (w : List ℕ) (p : ℕ) → rows_rest false 0 w (events_at (block_of p s strings) 0) ≡ rows_from w 0 (nodes_in s strings p)
unfolding nodes_of
rows_start s strings w p = ap (rows_rest false 0 w) (events_all (block_of p s strings)) ∙ rows_nodes false 0 w [] 0 (events_in (block_of p s strings))

module _ (b : Block) (q : Search) (w : List ℕ) (at : ℕ) (h : at ≤ length b.structure) (r : Token) (e : r ≡ token_at b.structure at) where
  -- what the definition says of what is left
  abbrev pub from_here : Verdict × List ℕ
  from_here = rows_rest q.wants q.number w (events_at b at)

  pub rows_stop : ((kind : Kind) (next : ℕ) → r ≡ Item kind next → ⊥) → from_here ≡ (passes, w)
  rows_stop k = ap (rows_rest q.wants q.number w) (events_stop b at h r e k) ∙ rows_none q.wants q.number w

  module _ (kind : Kind) (next : ℕ) (f : r ≡ Item kind next) (t : Option Search) (x : List ℕ) (g : (t, x) ≡ row_turn b.structure b.strings kind q w) where
    abbrev go : Option Search → Verdict × List ℕ
    go p = stepped (b.place + at) (λ (o : Bool) (j : ℕ) (y : List ℕ). rows_rest o j y (events_at b next)) p x

    rows_step : from_here ≡ go t
    rows_step =
        ap (rows_rest q.wants q.number w) (events_item b at h r e kind next f)
        ∙ row_said b q w at kind next (events_at b next)
        ∙ ap (λ (p : Option Search × List ℕ). stepped (b.place + at) (λ (o : Bool) (j : ℕ) (y : List ℕ). rows_rest o j y (events_at b next)) p.0 p.1) (sym g)

    pub rows_fault : t ≡ None → from_here ≡ (refuses 12 (b.place + at), x)
    rows_fault k = rows_step ∙ ap go k

    pub rows_go : (p : Search) → t ≡ Some p → rows_rest p.wants p.number x (events_at b next) ≡ from_here
    rows_go p k = sym (rows_step ∙ ap go k)

-- ---- the arms of a turn

module _ (s strings : Bytes) (kind : Kind) (q : Search) (w : List ℕ) where
  abbrev turn : Option Search × List ℕ
  turn = row_turn s strings kind q w

  pub turn_begin : (len j : ℕ) → kind ≡ Begin len → j ≡ passed q → (Some (record { number = j; wants = true }), w) ≡ turn
  turn_begin len j e f = rw (e, f)

  pub turn_end : (j : ℕ) → kind ≡ EndNode → j ≡ passed q → (Some (record { number = j; wants = false }), w) ≡ turn
  turn_end j e f = rw (e, f)

  pub turn_nop : kind ≡ Nop → (Some q, w) ≡ turn
  turn_nop e = rw e

  module _ (len name value : ℕ) (e : kind ≡ Prop len name value) where
    pub turn_shut : q.wants ≡ false → (Some q, w) ≡ turn
    turn_shut f = rw (e, f)

    module _ (f : q.wants ≡ true) (n : Bytes) (g : n ≡ string_at strings name) where
      pub turn-other : is_phandle n ≡ false → (Some q, w) ≡ turn
      turn-other h = let k : is_phandle (string_at strings name) ≡ false = ap is_phandle (sym g) ∙ h in rw (e, f, k)

      pub turn-give : (v : ℕ) (r : Option Search) (x : List ℕ) → is_phandle n ≡ true → v ≡ word_at (part s value len) 0 → (r, x) ≡ row_give w q.number v → (r, x) ≡ turn
      turn-give v r x h l m =
          let k : is_phandle (string_at strings name) ≡ true = ap is_phandle (sym g) ∙ h in
          m ∙ ap (row_give w q.number) l ∙ sym (rw (e, f, k))

-- ---- the number of the next node grows by one at most

abbrev Numbered : ℕ → Option Search → Type 0
Numbered i (Some q) = q.number ≤ i + 1
Numbered i None = Unit {0}

give_fault : (w : List ℕ) (i v : ℕ) → row_below w i v ≡ true → row_give w i v ≡ (None, w)
unfolding row_give
give_fault w i v e = rw (row_give, e)

give_go : (w : List ℕ) (i v : ℕ) → row_below w i v ≡ false → row_give w i v ≡ (Some (record { number = suc i; wants = false }), row_given w i v)
unfolding row_give
give_go w i v e = rw (row_give, e)

number_prop : (wants c : Bool) (q : Search) (v : ℕ) (w : List ℕ) → Numbered q.number (row_prop wants c q v w).0
number_prop false c q v w = omega arith
number_prop true false q v w = omega arith
number_prop true true q v w = by_test (row_below w q.number v) (λ e. rw (give_fault w q.number v e) tt) (λ e. rw (give_go w q.number v e) (omega arith))

number_passed : (i : ℕ) (wants : Bool) → next_number i wants ≤ i + 1
number_passed i true = omega arith
number_passed i false = omega arith

number_turn : (s strings : Bytes) (kind : Kind) (q : Search) (w : List ℕ) → Numbered q.number (row_turn s strings kind q w).0
number_turn s strings (Begin len) q w = number_passed q.number q.wants
number_turn s strings EndNode q w = number_passed q.number q.wants
number_turn s strings (Prop len name value) q w = number_prop q.wants (is_phandle (string_at strings name)) q (word_at (part s value len) 0) w
number_turn s strings Nop q w = omega arith

pub turn_number : (s strings : Bytes) (kind : Kind) (q : Search) (w : List ℕ) (r : Option Search) (x : List ℕ) (p : Search)
    → (r, x) ≡ row_turn s strings kind q w → r ≡ Some p → p.number ≤ q.number + 1
turn_number s strings kind q w r x p e f =
    subst (Numbered q.number) (sym (ap (λ (y : Option Search × List ℕ). y.0) e) ∙ f) (number_turn s strings kind q w)
