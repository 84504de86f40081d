-- The place of a refusal is an offset of the blob, or its end; from 6 on, one of the structure block, or its end.
use Rattle.std.proofs.Math.Path.{◌≡◌, refl, subst}
use Rattle.std.specs.Prelude.{Bool, true, false, ◌&&◌, ◌||◌, eqb, length, drop, if◌then◌else◌}
use Rattle.std.proofs.Math.Bool.{not}
use mathlib.Core.List.{List, [], ◌∷◌}
use Rattle.std.proofs.Math.Option.{Option, none, some}
use Prim.Native.Nat.{ℕ, zero, suc, ◌+◌, ◌≤◌}
use Rattle.std.proofs.Common.{add-zero, arith, length-take}
use Rattle.std.proofs.Math.Dec.{ltb}
use Rattle.rules.specs.Ceilings.{blob_ceiling}
use Rattle.rules.specs.Octets.{Bytes, word_at}
use Rattle.rules.specs.Outcome.{Verdict, gives, refuses, passes, ◌then◌, Test, first}
use Rattle.rules.specs.Blob.{Header, header_in, misplaced, Block, header_judged, block_in}
use Rattle.rules.specs.Tokens.{Placed, token_at, following, tokens_from, tokens}
use Rattle.rules.specs.Lists.{one_of}
use Rattle.rules.specs.Events.{Walk, Step, stop, done, go, on_token, after, judge, shape_judged, Property, Event, opens, has, closes, saying, events_of, events_in, at_start}
use Rattle.rules.specs.Tree.{Node, Tree, rest, props_of, nodes_from, nodes_of, sibling, named, doubled_props, doubled_from, doubled_judged, is_phandle, read_name, differs, words_from, words_judged, phandle_prop, shared_from, shared_judged}
use Rattle.rules.specs.Reader.{events_read, tree_read, blob_judged}
use Rattle.rules.specs.Exactly.{RefusedInStructure}
use Rattle.rules.proofs.Laws.Tests.{by_test}
use Rattle.rules.proofs.Laws.Blob.{Inside, header_inside, block_inside}
use Rattle.rules.proofs.Laws.Tokens.{Ahead, token_ahead}
use Rattle.rules.specs.declared.Token.{Token}
use Rattle.rules.specs.declared.Token.TheVariants.{Item, End, Cut}
use Rattle.rules.specs.declared.Kind.TheVariants.{Begin, EndNode, Prop, Nop}

-- a judgement that refuses, if at all, with a number and a place that P allows
abbrev pub Within : (P : (number place : ℕ) → Type 0) → Verdict → Type 0
Within P (gives u) = Unit
Within P (refuses number place) = P number place

module _ (P : (number place : ℕ) → Type 0) where
  -- a place where any number is allowed
  abbrev Free : (place : ℕ) → Type 0
  Free place = (number : ℕ) → P number place

  then_within : (v o : Verdict) → Within P v → (v ≡ passes → Within P o) → Within P (v then o)
  then_within (gives tt) o h k = k refl
  then_within (refuses number place) o h k = h

  -- a test, and what comes behind it
  if_within : (fails : Bool) (number place : ℕ) (o : Verdict) → P number place → Within P o → Within P (if fails then refuses number place else o)
  if_within true number place o h k = h
  if_within false number place o h k = k

  test_within : (fails : Bool) (number place : ℕ) (o : Verdict) → P number place → Within P o
      → Within P (first (record { fails = fails; number = number; place = place } ∷ []) then o)
  test_within true number place o h k = h
  test_within false number place o h k = k

  -- ---- the header: its tests, 1 to 5, refuse at 0

  abbrev Tests : List Test → Type 0
  Tests [] = Unit
  Tests (t ∷ ts) = P t.number t.place × Tests ts

  tests_within : (ts : List Test) → Tests ts → Within P (first ts)
  tests_within [] h = tt
  tests_within (t ∷ ts) h = if_within t.fails t.number t.place (first ts) h.0 (tests_within ts h.1)

  pub header_within : (b : Bytes) → ((number : ℕ) → number ≤ 5 → P number 0) → Within P (header_judged b)
  unfolding header_judged
  header_within b k =
      let h : Header = header_in b in
      tests_within
      (record { fails = ltb (length b) 40; number = 1; place = 0 }
      ∷ record { fails = not (eqb h.magic 0xd00dfeed); number = 2; place = 0 }
      ∷ record { fails = ltb h.total 40 || ltb (length b) h.total || ltb blob_ceiling h.total; number = 3; place = 0 }
      ∷ record { fails = not (eqb h.version 17) || not (eqb h.compatible 16); number = 4; place = 0 }
      ∷ record { fails = misplaced b; number = 5; place = 0 }
      ∷ [])
      (k 1 (omega arith), (k 2 (omega arith), (k 3 (omega arith), (k 4 (omega arith), (k 5 (omega arith), tt)))))

  -- ---- the walk

  abbrev Low : List Placed → ℕ → Type 0
  Low [] place = Free place
  Low (t ∷ ts) place = Free (place + t.at) × Low ts place

  after_within : (rest : Walk → Verdict) (place : ℕ) (s : Step) → Free place → ((w : Walk) → Within P (rest w)) → Within P (after rest place s)
  after_within rest place (stop number) h k = h number
  after_within rest place done h k = tt
  after_within rest place (go w) h k = k w

  judge_within : (b : Block) (w : Walk) (ts : List Placed) → Low ts b.place → Within P (judge b w ts)
  unfolding judge
  judge_within b w [] h = h 6
  judge_within b w (t ∷ ts) h =
      after_within (λ (v : Walk). judge b v ts) (b.place + t.at) (on_token b w t.at t.token) h.0 (λ (v : Walk). judge_within b v ts h.1)

  -- ---- tokens, events and nodes

  module _ (s : Bytes) (place : ℕ) (fits : (at : ℕ) → at ≤ length s → Free (place + at)) where
    at_start_lem : Free place
    at_start_lem = subst Free (add-zero place) (fits 0 (omega arith))

    following_low : (at : ℕ) (from : ℕ → List Placed) → ((k : ℕ) → k ≤ length s → Low (from k) place) → (t : Token) → Ahead s at t → Low (following from t) place
    following_low at from ih (Item kind next) k = ih next k.1
    following_low at from ih End k = at_start_lem
    following_low at from ih Cut k = at_start_lem

    tokens_low : (fuel at : ℕ) → at ≤ length s → Low (tokens_from fuel s at) place
    unfolding tokens_from
    tokens_low zero at h = at_start_lem
    tokens_low (suc fuel) at h = (fits at h, following_low at (tokens_from fuel s) (tokens_low fuel) (token_at s at) (token_ahead s at))

  abbrev LowEvents : List Event → Type 0
  LowEvents [] = Unit
  LowEvents (opens place name ∷ es) = Free place × LowEvents es
  LowEvents (has p ∷ es) = Free p.place × LowEvents es
  LowEvents (closes place ∷ es) = Free place × LowEvents es

  events_low : (b : Block) (ts : List Placed) → Low ts b.place → LowEvents (events_of b ts)
  unfolding events_of
  events_low b [] h = tt
  events_low b (t ∷ ts) h = by t.token (events_low b ts h.1)
    where
      by : (k : Token) → LowEvents (events_of b ts) → LowEvents (saying b t.at k (events_of b ts))
      by (Item (Begin len) next) l = (h.0, l)
      by (Item EndNode next) l = (h.0, l)
      by (Item (Prop len name value) next) l = (h.0, l)
      by (Item Nop next) l = l
      by End l = l
      by Cut l = l

  abbrev LowProps : List Property → Type 0
  LowProps [] = Unit
  LowProps (p ∷ ps) = Free p.place × LowProps ps

  abbrev LowNodes : List Node → Type 0
  LowNodes [] = Unit
  LowNodes (n ∷ ns) = Free n.place × LowProps n.props × LowNodes ns

  props_low : (es : List Event) → LowEvents es → LowProps (props_of es)
  unfolding props_of
  props_low [] h = tt
  props_low (opens place name ∷ es) h = tt
  props_low (has p ∷ es) h = (h.0, props_low es h.1)
  props_low (closes place ∷ es) h = tt

  nodes_low : (stack : List ℕ) (next : ℕ) (es : List Event) → LowEvents es → LowNodes (nodes_from stack next es)
  unfolding nodes_from
  nodes_low stack next [] h = tt
  nodes_low stack next (opens place name ∷ es) h = (h.0, props_low es h.1, nodes_low (next ∷ stack) (suc next) es h.1)
  nodes_low stack next (has p ∷ es) h = nodes_low stack next es h.1
  nodes_low stack next (closes place ∷ es) h = nodes_low (rest stack) next es h.1

  -- ---- 10, 11 and 12

  doubled_props_lem : (seen ps : List Property) → LowProps ps → Within P (doubled_props seen ps)
  unfolding doubled_props
  doubled_props_lem seen [] h = tt
  doubled_props_lem seen (p ∷ ps) h = test_within (named p.name seen) 10 p.place (doubled_props (p ∷ seen) ps) (h.0 10) (doubled_props_lem (p ∷ seen) ps h.1)

  doubled_within : (seen ns : List Node) → LowNodes ns → Within P (doubled_from seen ns)
  unfolding doubled_from
  doubled_within seen [] h = tt
  doubled_within seen (n ∷ ns) h =
      test_within (sibling n seen) 10 n.place (doubled_props [] n.props then doubled_from (n ∷ seen) ns) (h.0 10)
      (then_within (doubled_props [] n.props) (doubled_from (n ∷ seen) ns) (doubled_props_lem [] n.props h.1) (λ _. doubled_within (n ∷ seen) ns h.2))

  words_props : (had : Option ℕ) (ps : List Property) → LowProps ps → Within P (words_from had ps)
  unfolding words_from
  words_props had [] h = tt
  words_props had (p ∷ ps) h =
      let ts : List Test =
      record { fails = read_name p.name && not (eqb (length p.value) 4); number = 11; place = p.place }
      ∷ record { fails = is_phandle p.name && differs had (word_at p.value 0); number = 11; place = p.place }
      ∷ [] in
      let next : Option ℕ = if is_phandle p.name then some (word_at p.value 0) else had in
      then_within (first ts) (words_from next ps) (tests_within ts (h.0 11, (h.0 11, tt))) (λ _. words_props next ps h.1)

  words_within : (ns : List Node) → LowNodes ns → Within P (words_judged ns)
  unfolding words_judged
  words_within [] h = tt
  words_within (n ∷ ns) h = then_within (words_from none n.props) (words_judged ns) (words_props none n.props h.1) (λ _. words_within ns h.2)

  phandle_low : (ps : List Property) (p : Property) → LowProps ps → phandle_prop ps ≡ some p → Free p.place
  unfolding phandle_prop
  phandle_low [] p h e = let z : ◌≡◌ {A = ℕ} 0 1 = cc in absurd (omega arith)
  phandle_low (q ∷ ps) p h e = by_test (is_phandle q.name)
      (λ f. let s : some q ≡ some p = rw (f, phandle_prop) at e in let same : q ≡ p = cc in subst (λ (x : Property). Free x.place) same h.0)
      (λ f. phandle_low ps p h.1 (rw (f, phandle_prop) at e))

  shared_node : (seen : List ℕ) (n : Node) (ns : List Node) → ((next : List ℕ) → Within P (shared_from next ns)) → (o : Option Property) → phandle_prop n.props ≡ o
      → ((p : Property) → o ≡ some p → Free p.place) → Within P (shared_from seen (n ∷ ns))
  unfolding shared_from
  shared_node seen n ns ih none e h = rw (e, shared_from) (ih seen)
  shared_node seen n ns ih (some p) e h =
      rw (e, shared_from)
      (test_within (one_of (word_at p.value 0) seen) 12 p.place (shared_from (word_at p.value 0 ∷ seen) ns) (h p refl 12) (ih (word_at p.value 0 ∷ seen)))

  shared_within : (seen : List ℕ) (ns : List Node) → LowNodes ns → Within P (shared_from seen ns)
  unfolding shared_from
  shared_within seen [] h = tt
  shared_within seen (n ∷ ns) h =
      shared_node seen n ns (λ next. shared_within next ns h.2) (phandle_prop n.props) refl (λ p e. phandle_low n.props p h.1 e)

-- ---- where the blocks of a header that passes stand

module _ (P : (number place : ℕ) → Type 0) (b : Bytes) (header : (number : ℕ) → number ≤ 5 → P number 0)
    (block : Inside b → (at : ℕ) → at ≤ length (block_in b).structure → (number : ℕ) → P number ((block_in b).place + at)) where
  pub judged_at_lem : Within P (blob_judged b)
  unfolding blob_judged shape_judged doubled_judged shared_judged tree_read events_read nodes_of events_in tokens
  judged_at_lem =
      let k : Block = block_in b in
      let t : Tree = tree_read b in
      then_within P (header_judged b) (shape_judged k then doubled_judged t then words_judged t then shared_judged t) (header_within P b header)
      (λ e. let low : Low P (tokens k.structure) k.place =
      tokens_low P k.structure k.place (block (header_inside b e)) (suc (length k.structure)) 0 (omega arith) in
      let nodes : LowNodes P t = nodes_low P [] 0 (events_in k) (events_low P k (tokens k.structure) low) in
      then_within P (shape_judged k) (doubled_judged t then words_judged t then shared_judged t) (judge_within P k at_start (tokens k.structure) low)
      (λ _. then_within P (doubled_judged t) (words_judged t then shared_judged t) (doubled_within P [] t nodes)
      (λ _. then_within P (words_judged t) (shared_judged t) (words_within P t nodes) (λ _. shared_within P [] t nodes))))

-- ---- THE PLACE OF A REFUSAL IS AT MOST THE LENGTH OF THE BLOB

abbrev InBlob : Bytes → (number place : ℕ) → Type 0
InBlob b number place = place ≤ length b

pub judged_within : (b : Bytes) → Within (InBlob b) (blob_judged b)
judged_within b = judged_at_lem (InBlob b) b (λ n h. omega arith) (λ i at h n. omega (arith, block_inside b i))

pub refused_inside : (b : Bytes) (number place : ℕ) → blob_judged b ≡ refuses number place → place ≤ length b
refused_inside b number place e = subst (Within (InBlob b)) e (judged_within b)

-- ---- THE PLACE OF A REFUSAL FROM 6 ON LIES IN THE STRUCTURE BLOCK, OR AT ITS END

abbrev InStructure : Bytes → (number place : ℕ) → Type 0
InStructure b number place =
    6 ≤ number → ((header_in b).structure ≤ place) × (place ≤ (header_in b).structure + (header_in b).structure_size)

block_in_lem : (b : Bytes) (at : ℕ) → at ≤ length (block_in b).structure → (number : ℕ) → InStructure b number ((block_in b).place + at)
unfolding block_in
block_in_lem b at h number six =
    let l = length-take (header_in b).structure_size (drop (header_in b).structure b) in
    (omega arith, omega arith)

pub refused_in_structure : RefusedInStructure
refused_in_structure b number place e six = subst (Within (InStructure b)) e
    (judged_at_lem (InStructure b) b (λ n h s. absurd (let z : ⊥ = omega arith in z)) (λ i at h n. block_in_lem b at h n)) six
