-- What the reader's walk accepts the grammar derives, within 01's limits, and of nodes that say the same.
use Rattle.std.specs.Prelude.{◌≡◌, Bool, eqb, length}
use Rattle.std.proofs.Math.Path.{refl, ap}
use Rattle.std.proofs.Common.{sym, ◌∙◌, add-zero, drop_of_length-le}
use Rattle.std.proofs.Math.Bool.{true, false}
use mathlib.Core.List.{List, [], ◌∷◌, ◌++◌, append_assoc, append-nil}
use Prim.Native.Nat.{ℕ, zero, suc, ◌+◌, ◌≤◌, ◌<◌}
use native.Mathlib.Omega.{arith}
use Rattle.std.proofs.Math.ListN.{drop}
use borrow.Author.Tests.{eqb-true, ne_eqb}
use Rattle.rules.specs.Ceilings.{open_ceiling, node_ceiling}
use Rattle.rules.specs.Octets.{Bytes, part, has_nul}
use Rattle.rules.specs.Names.{node_name_reads, property_name_reads}
use Rattle.rules.specs.Outcome.{passes}
use Rattle.rules.specs.Blob.{Block}
use Rattle.rules.specs.Tokens.{token_at, following, tokens_from, tokens}
use Rattle.rules.specs.Events.{Walk, node_name_at, string_at, property_reads, ending, on_token, after, judge, shape_judged, Event, opens, closes, saying, events_of, events_in}
use Rattle.rules.specs.Written.{has_said, unplaced}
use Rattle.rules.specs.declared.Token.{Token}
use Rattle.rules.specs.declared.Token.TheVariants.{Item, End, Cut}
use Rattle.rules.specs.declared.Kind.TheVariants.{Begin, EndNode, Prop, Nop}
use Rattle.rules.proofs.Laws.Tests.{by_test, never}
use Rattle.rules.proofs.Laws.Verdicts.{gives_refuses}
use Rattle.rules.proofs.Laws.Shape.{some_open, some_nodes, opening_passes, closing_passes, holding_passes}
use Rattle.rules.specs.Grammar.{Forest, empty, node, Word, Pads, Stands, Props, no_props, nop_props, prop, Nodes, no_nodes, nop_nodes, a_node, Structure, a_root, size, height, PropsNamed, Named, Limits, tell_props, tell}
use Rattle.rules.proofs.Laws.Trips.Found.{Tagged, tag_found, Begun, begin_found, Propped, prop_found, stands_found}
use Rattle.rules.proofs.Laws.Tokens.{Seen, token_seen}

-- ---- what is left of a structure, while `depth` nodes are open and `count` have been opened

-- children of the innermost, its END_NODE, and so on outwards; at last NOPs and END
data Suffix (strings : Bytes) : (depth count : ℕ) → Bytes → List Event → Type 0 where
  last : {ns end : Bytes} {count : ℕ} → Nodes strings ns empty → Word 9 end → Suffix strings 0 count (ns ++ end) []
  close : {c end r : Bytes} {depth count : ℕ} {f : Forest} {es : List Event} → Nodes strings c f → Named f → suc depth + height f ≤ open_ceiling
      → count + size f ≤ node_ceiling → Word 2 end → Suffix strings depth (count + size f) r es
      → Suffix strings (suc depth) count (c ++ (end ++ r)) (tell f (closes 0 ∷ es))

-- the same, by its parts
record Closed (strings : Bytes) (depth count : ℕ) (bs : Bytes) (es : List Event) : Type 0 where
  c : Bytes
  end : Bytes
  r : Bytes
  f : Forest
  later : List Event
  nodes : Nodes strings c f
  named : Named f
  deep : suc depth + height f ≤ open_ceiling
  many : count + size f ≤ node_ceiling
  word : Word 2 end
  suffix : Suffix strings depth (count + size f) r later
  bytes : bs ≡ c ++ (end ++ r)
  says : es ≡ tell f (closes 0 ∷ later)

record Last (strings : Bytes) (bs : Bytes) (es : List Event) : Type 0 where
  ns : Bytes
  end : Bytes
  nodes : Nodes strings ns empty
  word : Word 9 end
  bytes : bs ≡ ns ++ end
  says : es ≡ []

closed : {strings : Bytes} {depth count : ℕ} {bs : Bytes} {es : List Event} → Suffix strings (suc depth) count bs es
    → Closed strings depth count bs es
closed (close {c = c} {end = end} {r = r} {f = f} {es = es} n m d k o x) =
    record { c = c; end = end; r = r; f = f; later = es; nodes = n; named = m; deep = d; many = k; word = o; suffix = x; bytes = refl; says = refl }

lasting : {strings : Bytes} {count : ℕ} {bs : Bytes} {es : List Event} → Suffix strings 0 count bs es → Last strings bs es
lasting (last {ns = ns} {end = end} n o) = record { ns = ns; end = end; nodes = n; word = o; bytes = refl; says = refl }

-- before that, while the innermost has had no child, its properties
record Inner (strings : Bytes) (depth count : ℕ) (bs : Bytes) (es : List Event) : Type 0 where
  a : Bytes
  r : Bytes
  ps : List (Bytes × Bytes)
  later : List Event
  props : Props strings a ps
  named : PropsNamed ps
  suffix : Suffix strings depth count r later
  bytes : bs ≡ a ++ r
  says : es ≡ tell_props ps later

-- before all, the whole
record Whole (strings : Bytes) (bs : Bytes) (es : List Event) : Type 0 where
  tree : Forest
  structure : Structure strings bs tree
  limits : Limits tree
  says : es ≡ tell tree []

-- what is left, by how far the walk has come
abbrev Rest : Bytes → List ℕ → ℕ → Bool → Bytes → List Event → Type 0
Rest strings [] zero ended bs es = Whole strings bs es
Rest strings [] (suc count) ended bs es = Suffix strings 0 (suc count) bs es
Rest strings (i ∷ is) count true bs es = Suffix strings (suc (length is)) count bs es
Rest strings (i ∷ is) count false bs es = Inner strings (suc (length is)) count bs es

-- bytes and events one behind the other
join : (tag name pad a c end r ns : Bytes) {r₀ r₁ r₂ : Bytes} → r₀ ≡ a ++ r₁ → r₁ ≡ c ++ (end ++ r₂) → r₂ ≡ ns ++ r
    → tag ++ (name ++ (0 ∷ (pad ++ r₀))) ≡ (tag ++ (name ++ (0 ∷ (pad ++ (a ++ (c ++ (end ++ ns))))))) ++ r
join tag name pad a c end r ns e f g = rw (e, f, g) (simp append_assoc)

join_says : (ps : List (Bytes × Bytes)) (f : Forest) {es es₁ es₂ es₃ : List Event} → es ≡ tell_props ps es₁ → es₁ ≡ tell f (closes 0 ∷ es₂) → es₂ ≡ es₃
    → es ≡ tell_props ps (tell f (closes 0 ∷ es₃))
join_says ps f e g h = e ∙ ap (tell_props ps) (g ∙ ap (λ (l : List Event). tell f (closes 0 ∷ l)) h)

module _ (strings : Bytes) where
  moved : {depth count : ℕ} {bs bs' : Bytes} {es es' : List Event} → bs' ≡ bs → es' ≡ es → Suffix strings depth count bs es
      → Suffix strings depth count bs' es'
  moved e f x = rw (e, f) x

  -- with no property yet
  bare : {depth count : ℕ} {bs : Bytes} {es : List Event} → Suffix strings depth count bs es → Inner strings depth count bs es
  unfolding tell_props
  bare {bs = bs} {es = es} x = record { a = []; r = bs; ps = []; later = es; props = no_props; named = tt; suffix = x; bytes = refl; says = refl }

  -- the rest in a node, whether it has had a child or not
  either : {depth count : ℕ} {bs : Bytes} {es : List Event} (i : ℕ) (is : List ℕ) (ended : Bool) → depth ≡ suc (length is)
      → Suffix strings depth count bs es → Rest strings (i ∷ is) count ended bs es
  either i is true e x = rw e at x
  either i is false e x = bare (rw e at x)

  -- ---- END_NODE

  closes_rest : (depth count : ℕ) (tag r : Bytes) (es : List Event) → suc depth ≤ open_ceiling → count ≤ node_ceiling → Word 2 tag
      → Suffix strings depth count r es → Suffix strings (suc depth) count (tag ++ r) (closes 0 ∷ es)
  unfolding tell size height
  closes_rest depth count tag r es d m o x =
      let a : suc depth + 0 ≤ open_ceiling = omega arith in
      let b : count + 0 ≤ node_ceiling = omega arith in
      let y : Suffix strings depth (count + 0) r es = rw (add-zero count) x in
      close no_nodes tt a b o y

  -- ---- BEGIN

  module _ (tag name pad r : Bytes) (o : Word 1 tag) (p : has_nul name ≡ false) (q : Pads (length name + 1) pad) where
    child_rest : (depth count : ℕ) (es : List Event) → node_name_reads name ≡ true → Inner strings (suc (suc depth)) (suc count) r es
        → Suffix strings (suc depth) count (tag ++ (name ++ (0 ∷ (pad ++ r)))) (opens 0 name ∷ es)
    unfolding tell size height
    child_rest depth count es n x =
        let y = closed x.suffix in
        let z = closed y.suffix in
        let a = y.deep in
        let b = z.deep in
        let k = z.many in
        let m : suc count + size y.f + size z.f ≡ count + size (node name x.ps y.f z.f) = omega arith in
        moved (join tag name pad x.a y.c y.end (z.end ++ z.r) z.c x.bytes y.bytes z.bytes)
        (ap (λ (l : List Event). opens 0 name ∷ l) (join_says x.ps y.f x.says y.says z.says))
        (close (a_node o p q x.props y.nodes y.word z.nodes) (n, x.named, y.named, z.named) (omega arith) (omega arith)
        z.word (rw m at z.suffix))

    root_rest : (es : List Event) → length name ≡ 0 → Inner strings 1 1 r es → Whole strings (tag ++ (name ++ (0 ∷ (pad ++ r)))) (opens 0 name ∷ es)
    unfolding tell size height
    root_rest es n x =
        let y = closed x.suffix in
        let z = lasting y.suffix in
        let a = y.deep in
        let k = y.many in
        let e = join tag name pad x.a y.c y.end z.end z.ns x.bytes y.bytes z.bytes in
        record {
          tree = node name x.ps y.f empty;
          structure = rw e (a_root (a_node o p q x.props y.nodes y.word z.nodes) z.word);
          limits = record { names = (n, x.named, y.named); deep = omega arith; many = omega arith };
          says = ap (λ (l : List Event). opens 0 name ∷ l) (join_says x.ps y.f x.says y.says z.says);
        }

  -- ---- PROP

  prop_rest : (depth count : ℕ) (tag len off pad r name value : Bytes) (offset : ℕ) (es : List Event) → Word 3 tag → Word (length value) len
      → Word offset off → Stands strings offset name → Pads (length value) pad → property_name_reads name ≡ true → Inner strings depth count r es
      → Inner strings depth count (tag ++ (len ++ (off ++ (value ++ (pad ++ r))))) (has_said name value ∷ es)
  unfolding tell_props
  prop_rest depth count tag len off pad r name value offset es o l f k q n x =
      record {
        a = tag ++ (len ++ (off ++ (value ++ (pad ++ x.a))));
        r = x.r;
        ps = (name, value) ∷ x.ps;
        later = x.later;
        props = prop o l f k q x.props;
        named = (n, x.named);
        suffix = x.suffix;
        bytes = rw x.bytes (simp append_assoc);
        says = ap (λ (t : List Event). has_said name value ∷ t) x.says;
      }

  -- ---- NOP

  nop_suffix : {depth count : ℕ} {r : Bytes} {es : List Event} (tag : Bytes) → Word 4 tag → Suffix strings depth count r es
      → Suffix strings depth count (tag ++ r) es
  nop_suffix tag o (last {ns = ns} {end = end} n e) = rw (← append_assoc tag ns end) (last (nop_nodes o n) e)
  nop_suffix tag o (close {c = c} {end = end} {r = r} n m d k e x) = rw (← append_assoc tag c (end ++ r)) (close (nop_nodes o n) m d k e x)

  nop_inner : {depth count : ℕ} {r : Bytes} {es : List Event} (tag : Bytes) → Word 4 tag → Inner strings depth count r es
      → Inner strings depth count (tag ++ r) es
  nop_inner tag o x =
      record {
        a = tag ++ x.a;
        r = x.r;
        ps = x.ps;
        later = x.later;
        props = nop_props o x.props;
        named = x.named;
        suffix = x.suffix;
        bytes = ap (λ (l : Bytes). tag ++ l) x.bytes ∙ sym (append_assoc tag x.a x.r);
        says = x.says;
      }

  nop_structure : {r : Bytes} {f : Forest} (tag : Bytes) → Word 4 tag → Structure strings r f → Structure strings (tag ++ r) f
  nop_structure tag o (a_root {s = s} {end = end} d e) = rw (← append_assoc tag s end) (a_root (nop_nodes o d) e)

  nop_rest : (stack : List ℕ) (count : ℕ) (ended : Bool) (tag r : Bytes) (es : List Event) → Word 4 tag → Rest strings stack count ended r es
      → Rest strings stack count ended (tag ++ r) es
  nop_rest [] zero ended tag r es o x = record { tree = x.tree; structure = nop_structure tag o x.structure; limits = x.limits; says = x.says }
  nop_rest [] (suc count) ended tag r es o x = nop_suffix tag o x
  nop_rest (i ∷ is) count true tag r es o x = nop_suffix tag o x
  nop_rest (i ∷ is) count false tag r es o x = nop_inner tag o x

  -- ---- what is left behind an END_NODE

  outer_rest : (is : List ℕ) (count : ℕ) (bs : Bytes) (es : List Event) → 0 < count → Rest strings is count true bs es
      → Suffix strings (length is) count bs es
  outer_rest [] zero bs es h x = absurd (let z : ⊥ = omega arith in z)
  outer_rest [] (suc count) bs es h x = x
  outer_rest (i ∷ is) count bs es h x = x

-- ---- the walk

abbrev walk : List ℕ → ℕ → Bool → Walk
walk stack count ended = record { stack = stack; count = count; ended = ended }

module _ (b : Block) where
  abbrev s : Bytes
  s = b.structure

  abbrev Parses : ℕ → ℕ → Type 0
  Parses fuel at =
      (stack : List ℕ) (count : ℕ) (ended : Bool) → length stack ≤ open_ceiling → count ≤ node_ceiling → length stack ≤ count
      → judge b (walk stack count ended) (tokens_from fuel s at) ≡ passes
      → Rest b.strings stack count ended (drop at s) (unplaced (events_of b (tokens_from fuel s at)))

  abbrev TokenParses : ℕ → ℕ → Token → Type 0
  TokenParses fuel at k =
      (stack : List ℕ) (count : ℕ) (ended : Bool) → length stack ≤ open_ceiling → count ≤ node_ceiling → length stack ≤ count
      → after (λ (v : Walk). judge b v (following (tokens_from fuel s) k)) (b.place + at) (on_token b (walk stack count ended) at k) ≡ passes
      → Rest b.strings stack count ended (drop at s) (unplaced (saying b at k (events_of b (following (tokens_from fuel s) k))))

  module _ (fuel at : ℕ) (ih : (next : ℕ) → Parses fuel next) where
    begin_parses : (len next : ℕ) → Begun s at len next → TokenParses fuel at (Item (Begin len) next)
    unfolding unplaced
    begin_parses len next g [] zero ended d m l h =
        let name : Bytes = node_name_at s at len in
        let o = opening_passes (λ (v : Walk). judge b v (tokens_from fuel s next)) (b.place + at) [] 0 ended name h in
        rw g.bytes
        (root_rest b.strings g.tag name g.pad (drop next s) g.word g.plain g.pads _ o.1.1
        (ih next (0 ∷ []) 1 false some_open some_nodes (omega arith) o.0))
    begin_parses len next g [] (suc count) ended d m l h =
        let o = opening_passes (λ (v : Walk). judge b v (tokens_from fuel s next)) (b.place + at) [] (suc count) ended (node_name_at s at len) h in
        absurd (let z : ⊥ = omega (arith, o.1.0) in z)
    begin_parses len next g (i ∷ is) count ended d m l h =
        let name : Bytes = node_name_at s at len in
        let o = opening_passes (λ (v : Walk). judge b v (tokens_from fuel s next)) (b.place + at) (i ∷ is) count ended name h in
        rw g.bytes
        (either b.strings i is ended refl
        (child_rest b.strings g.tag name g.pad (drop next s) g.word g.plain g.pads (length is) count _ o.1.0
        (ih next (count ∷ i ∷ is) (suc count) false o.1.1 o.1.2 (omega arith) o.0)))

    close_parses : (next : ℕ) → Tagged s at next 2 → TokenParses fuel at (Item EndNode next)
    unfolding unplaced
    close_parses next g [] count ended d m l h =
        absurd (closing_passes (λ (v : Walk). judge b v (tokens_from fuel s next)) (b.place + at) [] count ended h)
    close_parses next g (i ∷ is) count ended d m l h =
        let o = closing_passes (λ (v : Walk). judge b v (tokens_from fuel s next)) (b.place + at) (i ∷ is) count ended h in
        let x = ih next is count true (omega arith) m (omega arith) o in
        rw g.bytes
        (either b.strings i is ended refl
        (closes_rest b.strings (length is) count g.tag (drop next s) _ d m g.word
        (outer_rest b.strings is count (drop next s) _ (omega arith) x)))

    prop_parses : (len name value next : ℕ) → Propped s at len name value next → TokenParses fuel at (Item (Prop len name value) next)
    unfolding unplaced
    prop_parses len name value next g [] count ended d m l h =
        absurd ((holding_passes (λ (v : Walk). judge b v (tokens_from fuel s next)) (b.place + at) [] count ended
        (property_reads b.strings name) h).inside refl)
    prop_parses len name value next g (i ∷ is) count true d m l h =
        let o = holding_passes (λ (v : Walk). judge b v (tokens_from fuel s next)) (b.place + at) (i ∷ is) count true
        (property_reads b.strings name) h in
        never true refl o.first
    prop_parses len name value next g (i ∷ is) count false d m l h =
        let o = holding_passes (λ (v : Walk). judge b v (tokens_from fuel s next)) (b.place + at) (i ∷ is) count false
        (property_reads b.strings name) h in
        let t = stands_found b.strings name o.name in
        rw g.bytes
        (prop_rest b.strings (suc (length is)) count g.tag g.size g.off g.pad (drop next s)
        (string_at b.strings name) (part s value len) name _
        g.word g.sizes g.offset t.0 g.pads t.1 (ih next (i ∷ is) count false d m l o.on))

    nop_parses : (next : ℕ) → Tagged s at next 4 → TokenParses fuel at (Item Nop next)
    nop_parses next g stack count ended d m l h =
        rw g.bytes (nop_rest b.strings stack count ended g.tag (drop next s) _ g.word (ih next stack count ended d m l h))

    end_parses : Tagged s at (at + 4) 9 → TokenParses fuel at End
    unfolding unplaced ending events_of
    end_parses g [] zero ended d m l h = gives_refuses tt 6 (b.place + at) h
    end_parses g [] (suc count) ended d m l h = by_test (eqb (at + 4) (length s))
        (λ e. let q = eqb-true (at + 4) (length s) e in
        let z : drop at s ≡ [] ++ g.tag = g.bytes ∙ ap (λ (x : Bytes). g.tag ++ x) (drop_of_length-le s {i = at + 4} (omega arith))
        ∙ append-nil g.tag in
        rw z (last no_nodes g.word))
        (λ e. gives_refuses tt 6 (b.place + at) (rw (ne_eqb (suc count) 0 (λ (z : suc count ≡ 0). omega arith), e) at h))
    end_parses g (i ∷ is) count ended d m l h = gives_refuses tt 6 (b.place + at) h

    token_parses : (k : Token) → Seen s at k → TokenParses fuel at k
    token_parses (Item (Begin len) next) t = begin_parses len next (begin_found s at len next t)
    token_parses (Item EndNode next) t = close_parses next (tag_found s at next 2 t)
    token_parses (Item (Prop len name value) next) t = prop_parses len name value next (prop_found s at len name value next t)
    token_parses (Item Nop next) t = nop_parses next (tag_found s at next 4 t)
    token_parses End t = end_parses (tag_found s at (at + 4) 9 t)
    token_parses Cut t = λ stack count ended d m l h. gives_refuses tt 6 (b.place + at) h

  parses : (fuel at : ℕ) → Parses fuel at
  unfolding tokens_from judge events_of
  parses zero at stack count ended d m l h = gives_refuses tt 6 b.place h
  parses (suc fuel) at stack count ended d m l h = token_parses fuel at (parses fuel) (token_at s at) (token_seen s at) stack count ended d m l h

  -- WHAT IS ACCEPTED THE GRAMMAR DERIVES WITHIN 01'S LIMITS, WITH THE SAME EVENTS
  pub reads_grammar : shape_judged b ≡ passes
      → (f : Forest) × Structure b.strings b.structure f × Limits f × (unplaced (events_in b) ≡ tell f [])
  unfolding shape_judged events_in tokens
  reads_grammar h =
      let x = parses (suc (length s)) 0 [] 0 false (omega arith) (omega arith) (omega arith) h in
      (x.tree, x.structure, x.limits, x.says)
