-- A turn of the walk's loop, on plain values: b is the block, d the work space as the loop found it, `work` as it stands, `at`
-- and w how far the walk has come.
use mathlib.Core.Path.{◌≡◌, refl, sym, ap, ◌∙◌, subst}
use mathlib.Core.Bool.{false}
use mathlib.Core.List.{List, [], ◌∷◌, ◌++◌, append_assoc, append-nil}
use Prim.Native.Nat.{ℕ, suc, ◌+◌, ◌-◌, ◌*◌, ◌≤◌, ◌<◌}
use native.Mathlib.Omega.{arith}
use native.Mathlib.Numerals.{add-one}
use lib.Dec.{eqb}
use lib.ListN.{length, get_or, set, length-append, get_or-append}
use lib.Seq.{get_or-append-add}
use Rattle.rules.specs.Ceilings.{work_words, node_ceiling, open_ceiling}
use Rattle.rules.specs.Outcome.{Verdict, gives, ◌then◌}
use Rattle.rules.specs.Blob.{Block}
use Rattle.rules.specs.Tokens.{token_at}
use Rattle.rules.specs.Events.{Event, after, on_token, judge, shape_judged, saying, events_in}
use Rattle.rules.specs.Events as events
use Rattle.rules.specs.Tree.{top, rest, nodes_from, nodes_of}
use Rattle.rules.specs.Reader.{space_of}
use Rattle.rules.proofs.Laws.Tokens.{item_ahead}
use Rattle.rules.specs.Laws.Events.{events_at}
use Rattle.rules.proofs.Laws.Events.{judged_at, judged_all, events_all, judged_item, judged_end, judged_cut, events_item, events_end, events_cut}
use Rattle.rules.specs.Laws.Reader.{start_of, starts_of}
use Rattle.rules.proofs.Laws.Reader.{starts_length, starts_opens, starts_has, starts_closes, starts_none, table_fits, space_length, space_space, space_get, space_row}
use Rattle.rules.specs.declared.Token.{Token}
use Rattle.rules.specs.declared.Token.TheVariants.{Item, End, Cut}
use Rattle.rules.specs.declared.Kind.{Kind}
use Rattle.rules.specs.declared.Kind.TheVariants.{Begin, EndNode, Prop, Nop}
use Rattle.rules.specs.Laws.Constants.{NODE_WORDS}
use Rattle.shape.specs.declared.Refusal.{Refusal}
use Rattle.std.specs.Prelude.{Result, Ok, Err}
use Rattle.shape.specs.declared.Walk.{Walk}
use Rattle.shape.specs.declared.Turn.{Turn}
use Rattle.shape.specs.declared.Turn.TheVariants.{Opens, Closes, Stays}
use Rattle.shape.specs.Answers.{meaning}
use Rattle.shape.specs.Shape.{Stands, opened_by, closed_by, row_begun, parent_in, follows, Only, Room, turn_of, DoesItem, Ends, Leaves, Shaped}
use Rattle.shape.proofs.Steps.{refused_then}

-- ---- the open nodes, from the innermost up: each one's row has its parent's number

abbrev pub Climbs : (words : List ℕ) (count : ℕ) → List ℕ → Type 0
Climbs words count [] = Unit
Climbs words count (i ∷ is) = (i < count) × (get_or words (NODE_WORDS * i + 1) 0 ≡ top is) × Climbs words count is

climbs_more : (words more : List ℕ) (count : ℕ) (stack : List ℕ) → length words ≡ NODE_WORDS * count → Climbs words count stack → Climbs (words ++ more) (count + 1) stack
climbs_more words more count [] l h = tt
climbs_more words more count (i ∷ is) l h =
    (omega (arith, h.0), get_or-append words more 0 (NODE_WORDS * i + 1) (omega (arith, h.0)) ∙ h.1, climbs_more words more count is l h.2)

climbs_push : (words : List ℕ) (count place : ℕ) (stack : List ℕ) → length words ≡ NODE_WORDS * count → Climbs words count stack
    → Climbs (words ++ start_of place (top stack)) (count + 1) (count ∷ stack)
climbs_push words count place stack l h =
    let e : NODE_WORDS * count + 1 ≡ length words + 1 = omega arith in (
      omega arith,
      ap (λ (k : ℕ). get_or (words ++ start_of place (top stack)) k 0) e ∙ get_or-append-add words (start_of place (top stack)) 1 0,
      climbs_more words (start_of place (top stack)) count stack l h,
    )

top_small : (words : List ℕ) (count : ℕ) (stack : List ℕ) → Climbs words count stack → top stack ≤ count
top_small words count [] h = omega arith
top_small words count (i ∷ is) h = omega (arith, h.0)

top_open : (words : List ℕ) (count : ℕ) (stack : List ℕ) → Climbs words count stack → 0 < length stack
    → (top stack < count) × (get_or words (NODE_WORDS * top stack + 1) 0 ≡ top (rest stack)) × Climbs words count (rest stack) × (length (rest stack) ≡ length stack - 1)
top_open words count [] h p = absurd (let z : ⊥ = omega arith in z)
top_open words count (i ∷ is) h p = (h.0, h.1, h.2, omega arith)

-- ---- the invariant

abbrev pub walked : Walk → List ℕ → events.Walk
walked w stack = record { stack = stack; count = w.count; ended = w.ended }

-- the rest, from here, is the whole; the work space holds the rows so far
pub record Inv (b : Block) (d work : List ℕ) (at : ℕ) (w : Walk) : Type 0 where
  pub stack : List ℕ
  pub words : List ℕ
  pub inside : at ≤ length b.structure
  pub judged : judged_at b (walked w stack) at ≡ shape_judged b
  pub rows : words ++ starts_of (nodes_from stack w.count (events_at b at)) ≡ starts_of (nodes_of (events_in b))
  pub here : work ≡ space_of words d
  pub long : length words ≡ NODE_WORDS * w.count
  pub few : w.count ≤ node_ceiling
  pub depth : w.depth ≡ length stack
  pub node : w.node ≡ top stack
  pub climbs : Climbs words w.count stack

pub starts : (b : Block) (d : List ℕ) (w : Walk) → (w.depth ≡ 0) × ((w.node ≡ 0) × ((w.count ≡ 0) × (w.ended ≡ false))) → d ≡ space_of [] d → Inv b d d 0 w
unfolding nodes_of
starts b d w h e = subst (Inv b d d 0) (λ i. record { depth = (sym h.0) i; node = (sym h.1.0) i; count = (sym h.1.1.0) i; ended = (sym h.1.1.1) i }) (record {
  stack = [];
  words = [];
  inside = omega arith;
  judged = sym (judged_all b);
  rows = ap (λ (es : List Event). starts_of (nodes_from [] 0 es)) (sym (events_all b));
  here = e;
  long = refl;
  few = omega arith;
  depth = refl;
  node = refl;
  climbs = tt;
})

-- what an item does does not depend on the place of the next token
same_item : (b : Block) (v : events.Walk) (at : ℕ) (kind : Kind) (next : ℕ) → on_token b v at (Item kind 0) ≡ on_token b v at (Item kind next)
same_item b v at (Begin len) next = refl
same_item b v at EndNode next = refl
same_item b v at (Prop len name value) next = refl
same_item b v at Nop next = refl

-- the rows that a kind adds, by the turn that it makes
module _ (b : Block) (at next : ℕ) (stack : List ℕ) (count : ℕ) (es : List Event) where
  rows_opens : (kind : Kind) → turn_of kind ≡ Opens
      → starts_of (nodes_from stack count (saying b at (Item kind next) es)) ≡ start_of (b.place + at) (top stack) ++ starts_of (nodes_from (count ∷ stack) (suc count) es)
  rows_opens (Begin len) e = starts_opens stack count (b.place + at) _ es
  rows_opens EndNode e = let z : ◌≡◌ {A = ℕ} 0 1 = cc in absurd (omega arith)
  rows_opens (Prop len name value) e = let z : ◌≡◌ {A = ℕ} 0 1 = cc in absurd (omega arith)
  rows_opens Nop e = let z : ◌≡◌ {A = ℕ} 0 1 = cc in absurd (omega arith)

  rows_closes : (kind : Kind) → turn_of kind ≡ Closes
      → starts_of (nodes_from stack count (saying b at (Item kind next) es)) ≡ starts_of (nodes_from (rest stack) count es)
  rows_closes (Begin len) e = let z : ◌≡◌ {A = ℕ} 0 1 = cc in absurd (omega arith)
  rows_closes EndNode e = starts_closes stack count (b.place + at) es
  rows_closes (Prop len name value) e = let z : ◌≡◌ {A = ℕ} 0 1 = cc in absurd (omega arith)
  rows_closes Nop e = let z : ◌≡◌ {A = ℕ} 0 1 = cc in absurd (omega arith)

  rows_stays : (kind : Kind) → turn_of kind ≡ Stays
      → starts_of (nodes_from stack count (saying b at (Item kind next) es)) ≡ starts_of (nodes_from stack count es)
  rows_stays (Begin len) e = let z : ◌≡◌ {A = ℕ} 0 1 = cc in absurd (omega arith)
  rows_stays EndNode e = let z : ◌≡◌ {A = ℕ} 0 1 = cc in absurd (omega arith)
  rows_stays (Prop len name value) e = starts_has stack count _ es
  rows_stays Nop e = refl

leaves : (answer : Result ℕ Refusal) (words d work : List ℕ) → length words ≤ work_words → work ≡ space_of words d → Leaves answer words d work
leaves (Ok count) words d work l e = e
leaves (Err refusal) words d work l e = ap (space_of []) e ∙ space_space [] words d (omega arith) l

-- ---- the turns

module _ {b : Block} {d work : List ℕ} {at : ℕ} {w : Walk} (i : Inv b d work at w) where
  abbrev v : events.Walk
  v = walked w i.stack

  stands : Stands w v
  stands = record { depth = i.depth; node = i.node; count = refl; ended = refl }

  short : length i.words ≤ work_words
  short = omega (arith, i.long, i.few, table_fits)

  pub as_long : work_words ≤ length d → length work ≡ length d
  as_long room = ap length i.here ∙ space_length i.words d short room

  pub node_small : w.node ≤ w.count
  node_small = omega (arith, i.node, top_small i.words w.count i.stack i.climbs)

  module _ {token : Token} {kind : Kind} {next : ℕ} {turn : Result Turn Refusal} (is : token ≡ token_at b.structure at) (case : token ≡ Item kind next)
      (does : DoesItem w (b.place + at) b at kind turn) where
    pub ahead : (at + 4 ≤ next) × (next ≤ length b.structure)
    ahead = item_ahead b.structure at token kind next is case

    turned : follows (λ (u : events.Walk). judged_at b u next) v turn ≡ shape_judged b
    turned =
        sym (does.same v stands (λ (u : events.Walk). judged_at b u next))
        ∙ ap (after (λ (u : events.Walk). judged_at b u next) (b.place + at)) (same_item b v at kind next)
        ∙ sym (judged_item b at i.inside v kind next (sym is ∙ case))
        ∙ i.judged

    events_on : events_at b at ≡ saying b at (Item kind next) (events_at b next)
    events_on = events_item b at i.inside kind next (sym is ∙ case)

    pub at_stop : {f : Refusal} → turn ≡ Err f → Shaped b d work (Err f)
    at_stop {f = f} e = record {
      judged = sym (ap (λ (o : Verdict). o then gives (length (nodes_of (events_in b)))) (sym turned ∙ ap (follows (λ (u : events.Walk). judged_at b u next) v) e) ∙ refused_then f _);
      table = ap (space_of []) i.here ∙ space_space [] i.words d (omega arith) short;
    }

    pub opens_room : turn ≡ Ok Opens → (w.depth < open_ceiling) × (w.count < node_ceiling)
    opens_room e = subst (Room w) e does.room

    pub closes_room : turn ≡ Ok Closes → 0 < w.depth
    closes_room e = subst (Room w) e does.room

    pub closes_node : turn ≡ Ok Closes → w.node < node_ceiling
    closes_node e =
        omega (arith, i.node, i.few, (top_open i.words w.count i.stack i.climbs (omega (arith, closes_room e, i.depth))).0)

    pub at_open : turn ≡ Ok Opens → Inv b d (row_begun work w (b.place + at)) next (opened_by w)
    at_open e =
        let n : ℕ = w.count in
        let row : List ℕ = start_of (b.place + at) (top i.stack) in
        let r = opens_room e in
        let o : turn_of kind ≡ Opens = subst (Only (turn_of kind)) e does.only in
        record {
          stack = n ∷ i.stack;
          words = i.words ++ row;
          inside = ahead.1;
          judged =
              ap (λ (k : ℕ). judged_at b (record { stack = n ∷ i.stack; count = k; ended = false }) next) (add-one n)
              ∙ sym (ap (follows (λ (u : events.Walk). judged_at b u next) v) e)
              ∙ turned;
          rows =
              append_assoc i.words row _
              ∙ ap (λ (k : ℕ). i.words ++ (row ++ starts_of (nodes_from (n ∷ i.stack) k (events_at b next)))) (add-one n)
              ∙ ap (λ (x : List ℕ). i.words ++ x)
              (sym (rows_opens b at next i.stack n (events_at b next) kind o) ∙ ap (λ (es : List Event). starts_of (nodes_from i.stack n es)) (sym events_on))
              ∙ i.rows;
          here =
              ap (λ (x : List ℕ). set (set x (NODE_WORDS * n) (b.place + at)) (NODE_WORDS * n + 1) w.node) i.here
              ∙ space_row i.words d (NODE_WORDS * n) (b.place + at) w.node (sym i.long) (omega (arith, r.1, table_fits))
              ∙ ap (λ (p : ℕ). space_of (i.words ++ start_of (b.place + at) p) d) i.node;
          long = omega (arith, length-append i.words row, i.long);
          few = omega (arith, r.1);
          depth = omega (arith, i.depth);
          node = refl;
          climbs = climbs_push i.words n (b.place + at) i.stack i.long i.climbs;
        }

    pub at_close : turn ≡ Ok Closes → Inv b d work next (closed_by w (parent_in work w))
    at_close e =
        let p = closes_room e in
        let c = top_open i.words w.count i.stack i.climbs (omega (arith, p, i.depth)) in
        let o : turn_of kind ≡ Closes = subst (Only (turn_of kind)) e does.only in
        record {
          stack = rest i.stack;
          words = i.words;
          inside = ahead.1;
          judged = sym (ap (follows (λ (u : events.Walk). judged_at b u next) v) e) ∙ turned;
          rows =
              ap (λ (x : List ℕ). i.words ++ x)
              (sym (rows_closes b at next i.stack w.count (events_at b next) kind o)
              ∙ ap (λ (es : List Event). starts_of (nodes_from i.stack w.count es)) (sym events_on))
              ∙ i.rows;
          here = i.here;
          long = i.long;
          few = i.few;
          depth = omega (arith, i.depth, c.3);
          node =
              ap (λ (x : List ℕ). get_or x (NODE_WORDS * w.node + 1) 0) i.here
              ∙ space_get i.words d (NODE_WORDS * w.node + 1) (omega (arith, closes_node e, table_fits)) short
              ∙ ap (λ (k : ℕ). get_or i.words (NODE_WORDS * k + 1) 0) i.node
              ∙ c.1;
          climbs = c.2;
        }

    pub at_stay : turn ≡ Ok Stays → Inv b d work next w
    at_stay e =
        let o : turn_of kind ≡ Stays = subst (Only (turn_of kind)) e does.only in
        record {
          stack = i.stack;
          words = i.words;
          inside = ahead.1;
          judged = sym (ap (follows (λ (u : events.Walk). judged_at b u next) v) e) ∙ turned;
          rows =
              ap (λ (x : List ℕ). i.words ++ x)
              (sym (rows_stays b at next i.stack w.count (events_at b next) kind o)
              ∙ ap (λ (es : List Event). starts_of (nodes_from i.stack w.count es)) (sym events_on))
              ∙ i.rows;
          here = i.here;
          long = i.long;
          few = i.few;
          depth = i.depth;
          node = i.node;
          climbs = i.climbs;
        }

  -- no item stands here, so that no event follows
  ended : events_at b at ≡ [] → i.words ≡ starts_of (nodes_of (events_in b))
  ended e =
      sym (append-nil i.words)
      ∙ ap (λ (x : List ℕ). i.words ++ x) (sym (starts_none i.stack w.count) ∙ ap (λ (es : List Event). starts_of (nodes_from i.stack w.count es)) (sym e))
      ∙ i.rows

  finished : (token : Token) (answer : Result ℕ Refusal) (next : events.Walk → Verdict) → events_at b at ≡ []
      → judged_at b v at ≡ after next (b.place + at) (on_token b v at token)
      → meaning answer ≡ (after next (b.place + at) (on_token b v at token) then gives w.count)
      → Shaped b d work answer
  finished token answer next e j m =
      let words : i.words ≡ starts_of (nodes_of (events_in b)) = ended e in
      let count : w.count ≡ length (nodes_of (events_in b)) = omega (arith, i.long, ap length words, starts_length (nodes_of (events_in b))) in
      record {
        judged = m ∙ ap (λ (o : Verdict). o then gives w.count) (sym j ∙ i.judged) ∙ ap (λ (n : ℕ). shape_judged b then gives n) count;
        table = subst (λ (ws : List ℕ). Leaves answer ws d work) words (leaves answer i.words d work short i.here);
      }

  pub at_end : (token : Token) (answer : Result ℕ Refusal) → token ≡ token_at b.structure at → ((kind : Kind) (next : ℕ) → token ≡ Item kind next → ⊥)
      → Ends w (b.place + at) (eqb (at + 4) (length b.structure)) token answer
      → Shaped b d work answer
  at_end (Item kind next) answer is h e = absurd (h kind next refl)
  at_end End answer is h e =
      finished End answer (λ (u : events.Walk). judge b u []) (events_end b at i.inside (sym is)) (judged_end b at i.inside v (sym is)) (e v stands (λ (u : events.Walk). judge b u []))
  at_end Cut answer is h e =
      finished Cut answer (λ (u : events.Walk). judge b u []) (events_cut b at i.inside (sym is)) (judged_cut b at i.inside v (sym is)) (e v stands (λ (u : events.Walk). judge b u []))
