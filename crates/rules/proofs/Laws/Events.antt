-- The laws of the walk over tokens and of the events that they say: a step by how many nodes are open, and one turn for each token.
use Rattle.std.specs.Prelude.{◌≡◌, refl, Bool, true, not, List, [], ◌∷◌, ℕ, ◌+◌, ◌≤◌, ◌<◌, eqb, leb, length, if◌then◌else◌}
use Rattle.std.proofs.Math.Path.{ap}
use Rattle.std.proofs.Common.{arith}
use Rattle.rules.specs.Ceilings.{open_ceiling, node_ceiling}
use Rattle.rules.specs.Octets.{Bytes}
use Rattle.rules.specs.Names.{node_name_reads}
use Rattle.rules.specs.Outcome.{Verdict}
use Rattle.rules.specs.Blob.{Block}
use Rattle.rules.specs.Tokens.{token_at}
use Rattle.rules.specs.Events.{Walk, at_start, stop, done, go, opened, opening, closing, holding, ending, after, on_token, judge, shape_judged, saying, events_of, events_in}
use Rattle.rules.specs.Tree.{rest}
use Rattle.rules.specs.Laws.Tokens.{tokens_at}
use Rattle.rules.proofs.Laws.Tokens.{tokens_all, tokens_item, tokens_end, tokens_cut}
use Rattle.rules.specs.declared.Token.TheVariants.{Item, End, Cut}
use Rattle.rules.specs.declared.Kind.{Kind}
use Rattle.rules.specs.Laws.Events.{events_at}

-- ---- a step, where no node is open and where one is

pub opening_root : (w : Walk) (name : Bytes) → length w.stack ≡ 0
    → opening w name ≡ (if not (eqb w.count 0) then stop 6 else if not (eqb (length name) 0) then stop 7 else opened w)
unfolding opening
opening_root w name h = by w.stack h
  where
    by : (is : List ℕ) → length is ≡ 0 → opening (record { stack = is; count = w.count; ended = w.ended }) name ≡ (if not (eqb w.count 0) then stop 6 else if not (eqb (length name) 0) then stop 7 else opened (record { stack = is; count = w.count; ended = w.ended }))
    by [] h = refl
    by (i ∷ is) h = absurd (let z : ⊥ = omega arith in z)

pub opening_inner : (w : Walk) (name : Bytes) → 0 < length w.stack
    → opening w name ≡ (if not (node_name_reads name) then stop 7 else if leb open_ceiling (length w.stack) then stop 8 else if leb node_ceiling w.count then stop 9 else opened w)
unfolding opening
opening_inner w name h = by w.stack h
  where
    by : (is : List ℕ) → 0 < length is → opening (record { stack = is; count = w.count; ended = w.ended }) name ≡ (if not (node_name_reads name) then stop 7 else if leb open_ceiling (length (is)) then stop 8 else if leb node_ceiling w.count then stop 9 else opened (record { stack = is; count = w.count; ended = w.ended }))
    by [] h = absurd (let z : ⊥ = omega arith in z)
    by (i ∷ is) h = refl

pub closing_none : (w : Walk) → length w.stack ≡ 0
    → closing w ≡ stop 6
unfolding closing
closing_none w h = by w.stack h
  where
    by : (is : List ℕ) → length is ≡ 0 → closing (record { stack = is; count = w.count; ended = w.ended }) ≡ stop 6
    by [] h = refl
    by (i ∷ is) h = absurd (let z : ⊥ = omega arith in z)

pub closing_some : (w : Walk) → 0 < length w.stack
    → closing w ≡ go (record { stack = rest w.stack; count = w.count; ended = true })
unfolding closing
closing_some w h = by w.stack h
  where
    by : (is : List ℕ) → 0 < length is → closing (record { stack = is; count = w.count; ended = w.ended }) ≡ go (record { stack = rest (is); count = w.count; ended = true })
    by [] h = absurd (let z : ⊥ = omega arith in z)
    by (i ∷ is) h = refl

pub holding_none : (w : Walk) (reads : Bool) → length w.stack ≡ 0
    → holding w reads ≡ stop 6
unfolding holding
holding_none w reads h = by w.stack h
  where
    by : (is : List ℕ) → length is ≡ 0 → holding (record { stack = is; count = w.count; ended = w.ended }) reads ≡ stop 6
    by [] h = refl
    by (i ∷ is) h = absurd (let z : ⊥ = omega arith in z)

pub holding_some : (w : Walk) (reads : Bool) → 0 < length w.stack
    → holding w reads ≡ (if w.ended then stop 6 else if not reads then stop 7 else go w)
unfolding holding
holding_some w reads h = by w.stack h
  where
    by : (is : List ℕ) → 0 < length is → holding (record { stack = is; count = w.count; ended = w.ended }) reads ≡ (if w.ended then stop 6 else if not reads then stop 7 else go (record { stack = is; count = w.count; ended = w.ended }))
    by [] h = absurd (let z : ⊥ = omega arith in z)
    by (i ∷ is) h = refl

pub ending_none : (w : Walk) (last : Bool) → length w.stack ≡ 0
    → ending w last ≡ (if eqb w.count 0 then stop 6 else if not last then stop 6 else done)
unfolding ending
ending_none w last h = by w.stack h
  where
    by : (is : List ℕ) → length is ≡ 0 → ending (record { stack = is; count = w.count; ended = w.ended }) last ≡ (if eqb w.count 0 then stop 6 else if not last then stop 6 else done)
    by [] h = refl
    by (i ∷ is) h = absurd (let z : ⊥ = omega arith in z)

pub ending_some : (w : Walk) (last : Bool) → 0 < length w.stack
    → ending w last ≡ stop 6
unfolding ending
ending_some w last h = by w.stack h
  where
    by : (is : List ℕ) → 0 < length is → ending (record { stack = is; count = w.count; ended = w.ended }) last ≡ stop 6
    by [] h = absurd (let z : ⊥ = omega arith in z)
    by (i ∷ is) h = refl

-- ---- a turn

-- the walk from a place on, and the events from there on
abbrev pub judged_at : Block → Walk → ℕ → Verdict
judged_at b w at = judge b w (tokens_at b.structure at)

pub judged_all : (b : Block) → shape_judged b ≡ judged_at b at_start 0
unfolding shape_judged
judged_all b = ap (judge b at_start) (tokens_all b.structure)

pub events_all : (b : Block) → events_in b ≡ events_at b 0
unfolding events_in
events_all b = ap (events_of b) (tokens_all b.structure)

module _ (b : Block) (at : ℕ) (i : at ≤ length b.structure) where
  -- an item, and then what follows it
  pub judged_item : (w : Walk) (kind : Kind) (next : ℕ) → token_at b.structure at ≡ Item kind next
      → judged_at b w at ≡ after (λ (v : Walk). judged_at b v next) (b.place + at) (on_token b w at (Item kind next))
  unfolding judge
  judged_item w kind next e = ap (judge b w) (tokens_item b.structure at kind next i e)

  pub judged_end : (w : Walk) → token_at b.structure at ≡ End
      → judged_at b w at ≡ after (λ (v : Walk). judge b v []) (b.place + at) (on_token b w at End)
  unfolding judge
  judged_end w e = ap (judge b w) (tokens_end b.structure at i e)

  pub judged_cut : (w : Walk) → token_at b.structure at ≡ Cut
      → judged_at b w at ≡ after (λ (v : Walk). judge b v []) (b.place + at) (on_token b w at Cut)
  unfolding judge
  judged_cut w e = ap (judge b w) (tokens_cut b.structure at i e)

  pub events_item : (kind : Kind) (next : ℕ) → token_at b.structure at ≡ Item kind next → events_at b at ≡ saying b at (Item kind next) (events_at b next)
  unfolding events_of
  events_item kind next e = ap (events_of b) (tokens_item b.structure at kind next i e)

  pub events_end : token_at b.structure at ≡ End → events_at b at ≡ []
  unfolding events_of
  events_end e = ap (events_of b) (tokens_end b.structure at i e)

  pub events_cut : token_at b.structure at ≡ Cut → events_at b at ≡ []
  unfolding events_of
  events_cut e = ap (events_of b) (tokens_cut b.structure at i e)
