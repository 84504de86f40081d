-- The tree of a blob that the reader accepts is formed: parents come before their children, names are not empty and hold no slash,
-- siblings differ. And the nodes that a request configures, where it passes 42, are nodes, each once.
use Rattle.std.proofs.Math.Path.{◌≡◌, refl, ap}
use Rattle.std.proofs.Common.{sym, ◌∙◌, subst, eq-eqb}
use Rattle.std.proofs.Math.Logic.{inl, inr}
use Rattle.std.specs.Prelude.{Bool, ◌&&◌, eqb}
use Rattle.std.proofs.Math.Bool.{true, false}
use Rattle.std.proofs.Math.Option.{none, some}
use mathlib.Core.List.Memᴰ
use mathlib.Core.List.{List, [], ◌∷◌}
use Prim.Native.Nat.{ℕ, zero, suc, ◌+◌, ◌≤◌, ◌<◌}
use native.Mathlib.Omega.{arith}
use Rattle.std.proofs.Math.ListN.{length, get_or-eq_default}
use Rattle.rules.specs.Octets.{Bytes, same}
use Rattle.rules.specs.Outcome.{passes, ◌then◌}
use Rattle.rules.specs.Blob.{Block, block_in, header_judged, missing}
use Rattle.rules.specs.Tokens.{Placed, following, tokens_from, tokens, token_at}
use Rattle.rules.specs.Events.{Walk, node_name_at, property_reads, on_token, after, judge, shape_judged, Event, opens, saying, events_of, events_in}
use Rattle.rules.specs.Tree.{Node, Tree, node, nowhere, nodes_from, nodes_of, Frame, numbers, sibling, doubled_from, doubled_judged, words_judged, shared_judged}
use Rattle.rules.specs.Reader.{events_read, tree_read, blob_judged}
use Rattle.rules.specs.Derivation.{Request, Given, given, node_among, node_at, repeats, configured_from, configured_judged, nodes_named, asked}
use Rattle.rules.specs.declared.Token.{Token}
use Rattle.rules.specs.declared.Token.TheVariants.{Item, End, Cut}
use Rattle.rules.specs.declared.Kind.TheVariants.{Begin, EndNode, Prop, Nop}
use Rattle.rules.specs.Listing.{◌∈◌}
use Rattle.rules.proofs.Laws.Tests.{by_test, by_le, never, or_left, or_right, or_false, true_and}
use Rattle.rules.proofs.Laws.Octets.{same_eq, eq_same}
use Rattle.rules.specs.Laws.Lists.{Distinct, none as alone, more}
use Rattle.rules.proofs.Laws.Lists.{numbers_mem, small_more}
use Rattle.rules.proofs.Laws.References.{by_option}
use Rattle.rules.proofs.Laws.Verdicts.{gives_refuses, then_passes, one_passes}
use Rattle.rules.proofs.Laws.Shape.{reads_named, reads_plain, Opens, opening_passes, closing_passes, holding_passes}
use Rattle.rules.proofs.Laws.Passes.{doubled_step}
use Rattle.rules.specs.Laws.Paths.{Formed}

-- ---- the walk over the tokens

-- node i as the walk grants it
pub record Sound (i : ℕ) (n : Node) : Type 0 where
  pub root : i ≡ 0 → n.name ≡ []
  pub up : 0 < i → n.parent < i
  pub named : 0 < i → n.name ≡ [] → ⊥
  pub plain : 47 ∈ n.name → ⊥

-- of nodes from the number `next` on
abbrev pub SoundFrom : ℕ → Tree → Type 0
SoundFrom next t = (j : ℕ) → j < length t → Sound (next + j) (node t j)

pub empty_name : (s : Bytes) → length s ≡ 0 → s ≡ []
empty_name [] e = refl
empty_name (x ∷ s) e = absurd (omega arith)

opened_sound : (stack : List ℕ) (count at : ℕ) (name : Bytes) (es : List Event) → ((x : ℕ) → x ∈ stack → x < count) → Opens stack count name
    → SoundFrom (suc count) (nodes_from (count ∷ stack) (suc count) es) → SoundFrom count (nodes_from stack count (opens at name ∷ es))
unfolding nodes_from
opened_sound [] count at name es small o h zero l =
    record {
      root = λ e. empty_name name o.1;
      up = λ (p : 0 < count + 0). omega (arith, o.0);
      named = λ (p : 0 < count + 0) e. omega (arith, o.0);
      plain = λ m. Memᴰ.not-nil (rw (empty_name name o.1) at m);
    }
opened_sound (i ∷ is) count at name es small o h zero l =
    let k : i < count = small i (Memᴰ.head refl) in
    record {
      root = λ (e : count + 0 ≡ 0). absurd (omega arith);
      up = λ p. omega arith;
      named = λ p e. reads_named name o.0 e;
      plain = λ m. reads_plain name o.0 m;
    }
opened_sound stack count at name es small o h (suc j) l =
    let e : suc count + j ≡ count + suc j = omega arith in
    subst (λ (k : ℕ). Sound k (node (nodes_from (count ∷ stack) (suc count) es) j)) e (h j (omega arith))

module _ (b : Block) where
  -- a walk that passes leaves sound nodes
  abbrev Walked : ℕ → ℕ → Type 0
  Walked fuel at =
      (stack : List ℕ) (count : ℕ) (ended : Bool) → ((x : ℕ) → x ∈ stack → x < count)
      → judge b (record { stack = stack; count = count; ended = ended }) (tokens_from fuel b.structure at) ≡ passes
      → SoundFrom count (nodes_from stack count (events_of b (tokens_from fuel b.structure at)))

  walk_token : (fuel at : ℕ) → ((next : ℕ) → Walked fuel next) → (k : Token) (stack : List ℕ) (count : ℕ) (ended : Bool)
      → ((x : ℕ) → x ∈ stack → x < count)
      → after (λ (v : Walk). judge b v (following (tokens_from fuel b.structure) k)) (b.place + at)
      (on_token b (record { stack = stack; count = count; ended = ended }) at k) ≡ passes
      → SoundFrom count (nodes_from stack count (saying b at k (events_of b (following (tokens_from fuel b.structure) k))))
  unfolding nodes_from events_of
  walk_token fuel at ih (Item (Begin len) next) stack count ended small h =
      let name : Bytes = node_name_at b.structure at len in
      let ts : List Placed = tokens_from fuel b.structure next in
      let o = opening_passes (λ (v : Walk). judge b v ts) (b.place + at) stack count ended name h in
      opened_sound stack count (b.place + at) name (events_of b ts) small o.1
      (ih next (count ∷ stack) (suc count) false (small_more stack count small) o.0)
  walk_token fuel at ih (Item EndNode next) [] count ended small h =
      absurd (closing_passes (λ (v : Walk). judge b v (tokens_from fuel b.structure next)) (b.place + at) [] count ended h)
  walk_token fuel at ih (Item EndNode next) (i ∷ is) count ended small h =
      ih next is count true (λ x m. small x (Memᴰ.tail m))
      (closing_passes (λ (v : Walk). judge b v (tokens_from fuel b.structure next)) (b.place + at) (i ∷ is) count ended h)
  walk_token fuel at ih (Item (Prop len name value) next) stack count ended small h =
      let o =
      holding_passes (λ (v : Walk). judge b v (tokens_from fuel b.structure next)) (b.place + at) stack count ended
      (property_reads b.strings name) h in
      ih next stack count false small o.on
  walk_token fuel at ih (Item Nop next) stack count ended small h = ih next stack count ended small h
  walk_token fuel at ih End stack count ended small h = λ j l. absurd (omega arith)
  walk_token fuel at ih Cut stack count ended small h = λ j l. absurd (omega arith)

  walked : (fuel at : ℕ) → Walked fuel at
  unfolding tokens_from judge events_of
  walked zero at stack count ended small h = gives_refuses tt 6 b.place h
  walked (suc fuel) at stack count ended small h = walk_token fuel at (walked fuel) (token_at b.structure at) stack count ended small h

  pub walk_sound : shape_judged b ≡ passes → SoundFrom 0 (nodes_of (events_in b))
  unfolding shape_judged events_in nodes_of tokens
  walk_sound h = walked (suc (length b.structure)) 0 [] 0 false (λ x m. absurd (Memᴰ.not-nil m)) h

-- ---- 10: no two siblings share a name

sibling_yes : (n : Node) {m : Node} {ms : List Node} → m ∈ ms → n.parent ≡ m.parent → n.name ≡ m.name → sibling n ms ≡ true
unfolding sibling
sibling_yes n (Memᴰ.head {x = k} {xs = ks} e) p q =
    or_left (eqb n.parent k.parent && same n.name k.name) (sibling n ks)
    (true_and (eqb n.parent k.parent) (same n.name k.name)
    (eq-eqb n.parent k.parent (p ∙ ap (λ (x : Node). x.parent) e))
    (eq_same n.name k.name (q ∙ ap (λ (x : Node). x.name) e)))
sibling_yes n (Memᴰ.tail {x = k} {xs = ks} i) p q =
    or_right (eqb n.parent k.parent && same n.name k.name) (sibling n ks) (sibling_yes n i p q)

-- two nodes that are told apart
abbrev Apart : Node → Node → Type 0
Apart n m = n.parent ≡ m.parent → n.name ≡ m.name → ⊥

apart_seen : (seen ns : List Node) → doubled_from seen ns ≡ passes → (m : Node) → m ∈ seen → (j : ℕ) → j < length ns → Apart (node ns j) m
apart_seen seen [] h m k j l = absurd (omega arith)
apart_seen seen (n ∷ ns) h m k zero l = λ p q. never (sibling n seen) (sibling_yes n k p q) (doubled_step seen n ns h).siblings
apart_seen seen (n ∷ ns) h m k (suc j) l = apart_seen (n ∷ seen) ns (doubled_step seen n ns h).later m (Memᴰ.tail k) j (omega arith)

apart_later : (seen ns : List Node) → doubled_from seen ns ≡ passes → (i j : ℕ) → i < j → j < length ns → Apart (node ns j) (node ns i)
apart_later seen [] h i j g l = absurd (omega arith)
apart_later seen (n ∷ ns) h i zero g l = absurd (omega arith)
apart_later seen (n ∷ ns) h zero (suc j) g l =
    apart_seen (n ∷ seen) ns (doubled_step seen n ns h).later n (Memᴰ.head refl) j (omega arith)
apart_later seen (n ∷ ns) h (suc i) (suc j) g l = apart_later (n ∷ seen) ns (doubled_step seen n ns h).later i j (omega arith) (omega arith)

pub siblings_differ : (t : Tree) → doubled_judged t ≡ passes → (i j : ℕ) → i < length t → j < length t → (node t i).parent ≡ (node t j).parent
    → (node t i).name ≡ (node t j).name → i ≡ j
unfolding doubled_judged
siblings_differ t h i j g l p q = by_le i j
    (λ a. by_le j i
    (λ c. omega arith)
    (λ c. absurd (apart_later [] t h i j c l (sym p) (sym q))))
    (λ a. absurd (apart_later [] t h j i a g p q))

-- ---- what the reader grants

pub record Accepted (b : Bytes) : Type 0 where
  pub header : header_judged b ≡ passes
  pub shape : shape_judged (block_in b) ≡ passes
  pub doubled : doubled_judged (tree_read b) ≡ passes
  pub words : words_judged (tree_read b) ≡ passes
  pub shared : shared_judged (tree_read b) ≡ passes

pub accepted : (b : Bytes) → blob_judged b ≡ passes → Accepted b
unfolding blob_judged
accepted b h =
    let t : Tree = tree_read b in
    let e = then_passes (header_judged b) (shape_judged (block_in b) then doubled_judged t then words_judged t then shared_judged t) tt h in
    let f = then_passes (shape_judged (block_in b)) (doubled_judged t then words_judged t then shared_judged t) tt e.1 in
    let g = then_passes (doubled_judged t) (words_judged t then shared_judged t) tt f.1 in
    let k = then_passes (words_judged t) (shared_judged t) tt g.1 in
    record { header = e.0; shape = f.0; doubled = g.0; words = k.0; shared = k.1 }

pub accepting : (b : Bytes) → Accepted b → blob_judged b ≡ passes
unfolding blob_judged
accepting b a = rw (a.header, a.shape, a.doubled, a.words, a.shared)

nodes_sound : (b : Bytes) → Accepted b → SoundFrom 0 (tree_read b)
unfolding tree_read events_read
nodes_sound b a = walk_sound (block_in b) a.shape

sound_formed : (t : Tree) → SoundFrom 0 t → doubled_judged t ≡ passes → Formed t
sound_formed t s d =
    record {
      up = λ i h. omega (arith, (s (suc i) h).up (omega arith));
      named = λ i h. (s (suc i) h).named (omega arith);
      plain = λ i m. by_le (length t) i
          (λ h. Memᴰ.not-nil (rw (get_or-eq_default t nowhere h) at m))
          (λ h. (s i h).plain m);
      siblings = λ i j g h p q. let e : suc i ≡ suc j = siblings_differ t d (suc i) (suc j) g h p q in omega arith;
    }

-- THE TREE READ IS FORMED
pub read_formed : (b : Bytes) → blob_judged b ≡ passes → Formed (tree_read b)
read_formed b h = let a = accepted b h in sound_formed (tree_read b) (nodes_sound b a) a.doubled

-- ---- 42: the nodes that are configured

module _ (f : Frame) where
  among_here : (p : Bytes) (i : ℕ) (is : List ℕ) → same (f.path i) p ≡ true → node_among f p (i ∷ is) ≡ some i
  unfolding node_among
  among_here p i is e = rw (e, node_among)

  among_past : (p : Bytes) (i : ℕ) (is : List ℕ) → same (f.path i) p ≡ false → node_among f p (i ∷ is) ≡ node_among f p is
  unfolding node_among
  among_past p i is e = rw (e, node_among)

  pub among_some : (p : Bytes) (is : List ℕ) (x : ℕ) → node_among f p is ≡ some x → (x ∈ is) × (f.path x ≡ p)
  unfolding node_among
  among_some p [] x e = let z : ◌≡◌ {A = ℕ} 0 1 = cc in absurd (omega arith)
  among_some p (i ∷ is) x e = by_test (same (f.path i) p)
      (λ s. let q : i ≡ x = cc (among_here p i is s) in (Memᴰ.head (sym q), rw (← q) (same_eq (f.path i) p s)))
      (λ s. let r = among_some p is x (sym (among_past p i is s) ∙ e) in (Memᴰ.tail r.0, r.1))

  pub named_skip : (g : Given) (gs : List Given) → node_at f g.path ≡ none → nodes_named f (g ∷ gs) ≡ nodes_named f gs
  unfolding nodes_named
  named_skip g gs e = rw (e, nodes_named)

  pub named_step : (g : Given) (gs : List Given) (i : ℕ) → node_at f g.path ≡ some i → nodes_named f (g ∷ gs) ≡ i ∷ nodes_named f gs
  unfolding nodes_named
  named_step g gs i e = rw (e, nodes_named)

  -- no more nodes than entries
  pub named_few : (gs : List Given) → length (nodes_named f gs) ≤ length gs
  unfolding nodes_named
  named_few [] = omega arith
  named_few (g ∷ gs) = by_option (node_at f g.path)
      (λ e. omega (arith, named_few gs, ap length (named_skip g gs e)))
      (λ i e. omega (arith, named_few gs, ap length (named_step g gs i e)))

  -- a node that a list names is a node, with a path of the list
  pub named_mem : (gs : List Given) (x : ℕ) → x ∈ nodes_named f gs → (x < f.size) × ((g : Given) × (g ∈ gs) × (f.path x ≡ g.path))
  unfolding nodes_named
  named_mem [] x m = absurd (Memᴰ.not-nil m)
  named_mem (g ∷ gs) x m = by_option (node_at f g.path)
      (λ e. past (named_mem gs x (rw (named_skip g gs e) at m)))
      (λ i e. elim (Memᴰ.cases_cons (rw (named_step g gs i e) at m)) [
        | inl q ↦
            let r = among_some g.path (numbers f) i e in
            (omega (arith, (numbers_mem 0 f.size i r.0).1), (g, Memᴰ.head refl, rw q r.1))
        | inr k ↦ past (named_mem gs x k)
      ])
    where
      past : (x < f.size) × ((h : Given) × (h ∈ gs) × (f.path x ≡ h.path)) → (x < f.size) × ((h : Given) × (h ∈ g ∷ gs) × (f.path x ≡ h.path))
      past r = (r.0, (r.1.0, Memᴰ.tail r.1.1, r.1.2))

  repeats_yes : {p s : Bytes} {ss : List Bytes} → s ∈ ss → p ≡ s → repeats p ss ≡ true
  unfolding repeats
  repeats_yes {p} (Memᴰ.head {x = x} {xs = xs} e) q = or_left (same p x) (repeats p xs) (eq_same p x (q ∙ e))
  repeats_yes {p} (Memᴰ.tail {x = x} {xs = xs} m) q = or_right (same p x) (repeats p xs) (repeats_yes m q)

  configured_step : (seen : List Bytes) (g : Given) (gs : List Given) → configured_from f seen (g ∷ gs) ≡ passes
      → (repeats g.path seen ≡ false) × (configured_from f (g.path ∷ seen) gs ≡ passes)
  unfolding configured_from
  configured_step seen g gs h =
      let a = then_passes _ (configured_from f (g.path ∷ seen) gs) tt h in
      let c = or_false (missing (node_at f g.path)) (repeats g.path seen) (one_passes _ 42 g.offset a.0) in
      (c.1, a.1)

  configured_new : {g : Given} (seen : List Bytes) {gs : List Given} → configured_from f seen gs ≡ passes → g ∈ gs → (p : Bytes) → p ∈ seen
      → g.path ≡ p → ⊥
  configured_new seen h (Memᴰ.head {x = k} {xs = ks} e) p m q =
      never (repeats k.path seen) (repeats_yes m (ap (λ (x : Given). x.path) (sym e) ∙ q)) (configured_step seen k ks h).0
  configured_new seen h (Memᴰ.tail {x = k} {xs = ks} i) p m q =
      configured_new (k.path ∷ seen) (configured_step seen k ks h).1 i p (Memᴰ.tail m) q

  named_distinct : (seen : List Bytes) (gs : List Given) → configured_from f seen gs ≡ passes → Distinct (nodes_named f gs)
  unfolding nodes_named
  named_distinct seen [] h = alone
  named_distinct seen (g ∷ gs) h =
      let s = configured_step seen g gs h in
      let d = named_distinct (g.path ∷ seen) gs s.1 in
      by_option (node_at f g.path)
      (λ e. rw (named_skip g gs e) d)
      (λ i e. rw (named_step g gs i e)
      (more (λ m. let r = named_mem gs i m in
      configured_new (g.path ∷ seen) s.1 r.1.1 g.path (Memᴰ.head refl) (sym r.1.2 ∙ (among_some g.path (numbers f) i e).1)) d))

  -- THE CONFIGURED NODES ARE NODES, EACH ONCE
  pub conf_distinct : (q : Request) → configured_judged f q ≡ passes → Distinct (asked f q).conf
  unfolding configured_judged asked
  conf_distinct q h = named_distinct [] (given q.configured) h

  pub conf_small : (q : Request) (x : ℕ) → x ∈ (asked f q).conf → x < f.size
  unfolding asked
  conf_small q x m = (named_mem (given q.configured) x m).0
