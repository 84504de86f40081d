-- Demand 2 of the copy: the guest's events are a tree that the reader accepts, of exactly the copied nodes, in order, with all their
-- properties.
use Rattle.std.specs.Prelude.{◌≡◌, refl, Bool, true, ◌&&◌, ℕ, zero, suc, ◌+◌, ◌<◌, length, eqb}
use Rattle.std.proofs.Common.{sym, ap, ap₂, ◌∙◌, inl, inr, arith, add-zero, zero-add, eqb-true, eq-eqb}
use Rattle.std.proofs.Math.Bool.{false}
use Rattle.std.proofs.Math.Option.{none}
use mathlib.Core.List.Memᴰ
use mathlib.Core.List.{List, [], ◌∷◌, map}
use Rattle.rules.specs.Octets.{Bytes, word_at, same}
use Rattle.rules.specs.Lists.{one_of, keep}
use Rattle.rules.specs.Outcome.{passes}
use Rattle.rules.specs.Blob.{block_in}
use Rattle.rules.specs.Events.{Property, Event}
use Rattle.rules.specs.Tree.{Node, Tree, node, nodes_from, nodes_of, frame, numbers, numbers_from, sibling, doubled_props, doubled_from, doubled_judged, words_from, words_judged, phandle_prop, shared_from, shared_judged}
use Rattle.rules.specs.Reader.{events_read, tree_read}
use Rattle.rules.specs.References.{Rules}
use Rattle.rules.specs.Listing.{◌∈◌, listed}
use Rattle.rules.specs.Copy.{copied, guest_events}
use Rattle.rules.specs.Derivation.{Request, asked}
use Rattle.rules.specs.Demands.{Fits, Granted, plain, rank}
use Rattle.rules.proofs.Laws.Tests.{never, and_true, or_cases, or_left, or_right, true_and, not_passed}
use Rattle.rules.proofs.Laws.Lists.{keep_yes, keep_no}
use Rattle.rules.proofs.Laws.References.{by_option}
use Rattle.rules.proofs.Laws.Verdicts.{then_passes}
use Rattle.rules.proofs.Laws.Passes.{doubled_step, shared_none, shared_split, shared_join}
use Rattle.rules.proofs.Laws.Formed.{accepted, read_formed, conf_distinct, conf_small}
use Rattle.rules.proofs.Laws.Listing.{listed_small}
use Rattle.rules.proofs.Laws.Listed.{configured_granted}
use Rattle.rules.proofs.Laws.Copy.{copied_root, copied_parent}
use Rattle.rules.proofs.Laws.Nested.{Nested, finished, root, events_pass, events_nested, nested_events}
use Rattle.rules.specs.Laws.Sieve.{Upward}
use Rattle.rules.proofs.Laws.Sieve.{rank_inj, CopyOf, Picked, nothing, keeping, leaving, sieve_nested, sieve_picked}

-- ---- 11 and 12 of a copy

words_picked : {k : ℕ → Bool} {next : ℕ} {t u : Tree} → Picked k next t u → words_judged u ≡ passes → words_judged t ≡ passes
unfolding words_judged
words_picked nothing h = h
words_picked (keeping {a = a} {b = b} {t = t} {u = u} y c p) h =
    let e = then_passes (words_from none b.props) (words_judged u) tt h in
    rw (c.props, e.0) (words_picked p e.1)
words_picked (leaving {b = b} {u = u} y p) h = words_picked p (then_passes (words_from none b.props) (words_judged u) tt h).1

-- fewer have been seen
abbrev Fewer : List ℕ → List ℕ → Type 0
Fewer old new = (x : ℕ) → one_of x old ≡ true → one_of x new ≡ true

fewer_both : (old new : List ℕ) (w : ℕ) → Fewer old new → Fewer (w ∷ old) (w ∷ new)
unfolding one_of
fewer_both old new w f x h = elim (or_cases (eqb x w) (one_of x old) h) [
  | inl e ↦ or_left (eqb x w) (one_of x new) e
  | inr e ↦ or_right (eqb x w) (one_of x new) (f x e)
]

fewer_more : (old new : List ℕ) (w : ℕ) → Fewer old new → Fewer old (w ∷ new)
unfolding one_of
fewer_more old new w f x h = or_right (eqb x w) (one_of x new) (f x h)

shared_picked : {k : ℕ → Bool} {next : ℕ} {t u : Tree} (old new : List ℕ) → Fewer old new → Picked k next t u
    → shared_from new u ≡ passes → shared_from old t ≡ passes
unfolding shared_from
shared_picked old new f nothing h = h
shared_picked old new f (keeping {a = a} {b = b} {t = t} {u = u} y c p) h = by_option (phandle_prop b.props)
    (λ e. shared_none old a t (rw c.props e) ∙ shared_picked old new f p (sym (shared_none new b u e) ∙ h))
    (λ q e. let s = shared_split new b u q e h in
    let w : ℕ = word_at q.value 0 in
    shared_join old a t q (rw c.props e) (not_passed (one_of w old) (λ o. never (one_of w new) (f w o) s.0))
    (shared_picked (w ∷ old) (w ∷ new) (fewer_both old new w f) p s.1))
shared_picked old new f (leaving {b = b} {t = t} {u = u} y p) h = by_option (phandle_prop b.props)
    (λ e. shared_picked old new f p (sym (shared_none new b u e) ∙ h))
    (λ q e. let w : ℕ = word_at q.value 0 in
    shared_picked old (w ∷ new) (fewer_more old new w f) p (shared_split new b u q e h).1)

-- ---- 10 of a copy

-- copies of some of these nodes
data Among (k : ℕ → Bool) : List Node → List Node → Type 0 where
  none_seen : Among k [] []
  both_seen : {a b : Node} {t u : List Node} → CopyOf k a b → Among k t u → Among k (a ∷ t) (b ∷ u)
  one_seen : {b : Node} {t u : List Node} → Among k t u → Among k t (b ∷ u)

-- a copy's sibling of the same name is one's own
sibling_copy : (k : ℕ → Bool) (a b : Node) {t u : List Node} → CopyOf k a b → Among k t u → sibling a t ≡ true → sibling b u ≡ true
unfolding sibling
sibling_copy k a b c none_seen h = h
sibling_copy k a b c (one_seen {b = n} {u = u} s) h =
    or_right (eqb b.parent n.parent && same b.name n.name) (sibling b u) (sibling_copy k a b c s h)
sibling_copy k a b c (both_seen {a = m} {b = n} {t = t} {u = u} d s) h =
    elim (or_cases (eqb a.parent m.parent && same a.name m.name) (sibling a t) h) [
      | inl e ↦
          let x = and_true (eqb a.parent m.parent) (same a.name m.name) e in
          let p : b.parent ≡ n.parent =
          rank_inj k b.parent n.parent c.kept d.kept (sym c.parent ∙ eqb-true a.parent m.parent x.0 ∙ d.parent) in
          or_left (eqb b.parent n.parent && same b.name n.name) (sibling b u)
          (true_and (eqb b.parent n.parent) (same b.name n.name) (eq-eqb b.parent n.parent p) (rw (c.name, d.name) at x.1))
      | inr e ↦ or_right (eqb b.parent n.parent && same b.name n.name) (sibling b u) (sibling_copy k a b c s e)
    ]

doubled_picked : {k : ℕ → Bool} {next : ℕ} {t u old new : List Node} → Among k old new → Picked k next t u → doubled_from new u ≡ passes
    → doubled_from old t ≡ passes
unfolding doubled_from
doubled_picked s nothing h = h
doubled_picked {k} {old = old} {new = new} s (keeping {a = a} {b = b} {t = t} {u = u} y c p) h =
    let d = doubled_step new b u h in
    let o : sibling a old ≡ false = not_passed (sibling a old) (λ e. never (sibling b new) (sibling_copy k a b c s e) d.siblings) in
    let e : doubled_props [] a.props ≡ passes = ap (doubled_props []) c.props ∙ d.props in
    rw (o, e) (doubled_picked (both_seen c s) p d.later)
doubled_picked {new = new} s (leaving {b = b} {u = u} y p) h = doubled_picked (one_seen s) p (doubled_step new b u h).later

-- ---- names and properties of a copy

copy_plain : (k : ℕ → Bool) (a b : Node) → CopyOf k a b → plain a ≡ plain b
copy_plain k a b c = λ i. record { name = c.name i; props = map (λ (p : Property). (p.name, p.value)) (c.props i) }

later : (n : ℕ) (b : Node) (u : Tree) (f : ℕ → Node) → ((j : ℕ) → j < length (b ∷ u) → node (b ∷ u) j ≡ f (n + j))
    → (j : ℕ) → j < length u → node u j ≡ f (suc n + j)
later n b u f h j l = let e : n + suc j ≡ suc n + j = omega arith in rw e at (h (suc j) (omega arith))

-- what is the same of a node and its copy, read off all copies
told_picked : {A : Type 0} {k : ℕ → Bool} (of from : Node → A) → ((a b : Node) → CopyOf k a b → of a ≡ from b) → {next : ℕ} {t u : Tree} (f : ℕ → Node)
    → Picked k next t u → ((j : ℕ) → j < length u → node u j ≡ f (next + j))
    → map of t ≡ map (λ (i : ℕ). from (f i)) (keep k (numbers_from next (length u)))
unfolding numbers_from keep
told_picked of from same f nothing h = refl
told_picked {A} {k} of from same f (keeping {next = n} {a = a} {b = b} {t = t} {u = u} y c p) h =
    rw (keep_yes k n (numbers_from (suc n) (length u)) y)
    (ap₂ (λ (x : A) (l : List A). x ∷ l) (same a b c ∙ ap from (here (h 0 (omega arith)))) (told_picked of from same f p (later n b u f h)))
  where
    here : b ≡ f (n + 0) → b ≡ f n
    here e = rw add-zero at e
told_picked {A} {k} of from same f (leaving {next = n} {b = b} {t = t} {u = u} y p) h =
    rw (keep_no k n (numbers_from (suc n) (length u)) y) (told_picked of from same f p (later n b u f h))

-- ---- the guest's events

first_up : {ended : Bool} {n : ℕ} {es : List Event} → Nested ended [] n es → (node (nodes_from [] n es) 0).parent ≡ 0
unfolding nodes_from
first_up (finished z) = refl
first_up (root z e t) = refl

module _ (r : Rules) (host : Bytes) (q : Request) (g : Granted host q) where
  abbrev t : Tree
  t = tree_read host

  abbrev k : ℕ → Bool
  k = copied r (asked (frame t) q) t

  host_nested : Nested false [] 0 (events_read host)
  unfolding events_read
  host_nested = events_nested (events_read host) (events_pass (block_in host) (accepted host g.read).shape)

  root_up : (node t 0).parent ≡ 0
  unfolding tree_read nodes_of
  root_up = first_up host_nested

  -- with a node its parent is copied; the root has none, and its parent's number is its own
  parent_copied : Upward k 0 t
  parent_copied zero h y = rw root_up (copied_root r (asked (frame t) q) t)
  parent_copied (suc i) h y = copied_parent r (asked (frame t) q) t (read_formed host g.read) small i h (rw zero-add at y)
    where
      small : (x : ℕ) → x ∈ listed r t (asked (frame t) q).conf (asked (frame t) q).excl → x < length t
      small =
          listed_small r t (asked (frame t) q).conf (asked (frame t) q).excl (read_formed host g.read)
          (conf_distinct (frame t) q (configured_granted t q g.request)) (conf_small (frame t) q)

  abbrev guest : List Event
  guest = guest_events r (asked (frame t) q) t (events_read host)

  guest_nested : Nested false [] 0 guest
  unfolding guest_events keep rank
  guest_nested = sieve_nested k (copied_root r (asked (frame t) q) t) host_nested tt (λ x m. absurd (Memᴰ.not-nil m)) false (λ a b. refl)

  guest_picked : Picked k 0 (nodes_of guest) t
  unfolding guest_events keep rank nodes_of tree_read
  guest_picked = sieve_picked k host_nested parent_copied

  -- THE GUEST'S TREE PASSES 6 TO 12
  pub guest_fits : Fits guest
  unfolding doubled_judged shared_judged
  guest_fits =
      let a = accepted host g.read in
      record {
        shape = nested_events guest_nested;
        doubled = doubled_picked none_seen guest_picked a.doubled;
        words = words_picked guest_picked a.words;
        shared = shared_picked [] [] (λ x e. e) guest_picked a.shared;
      }

  -- IT HAS THE COPIED NODES' NAMES, PROPERTIES, VALUES AND ORDER
  pub guest_plain : map plain (nodes_of guest) ≡ map (λ (i : ℕ). plain (node t i)) (keep k (numbers (frame t)))
  guest_plain = told_picked plain plain (copy_plain k) (node t) guest_picked (λ j h. rw zero-add)

  -- EACH COPY'S PARENT IS THE COPY OF ITS NODE'S PARENT
  pub guest_parents : map (λ (n : Node). n.parent) (nodes_of guest) ≡ map (λ (i : ℕ). rank k (node t i).parent) (keep k (numbers (frame t)))
  guest_parents = told_picked (λ (n : Node). n.parent) (λ (n : Node). rank k n.parent) (λ a b c. c.parent) (node t) guest_picked (λ j h. rw zero-add)
