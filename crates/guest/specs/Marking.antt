-- What a caller of the copy shows of its marks: they say of each node of the tree whether it is copied. What holds of the rule by
-- which nodes are copied, that it is closed upwards, then holds of the marks, and the sieve is the same by either.
use Rattle.std.specs.Prelude.{◌≡◌, Bool, false, ℕ, zero, suc, ◌+◌, ◌<◌, eqb, length, get_or}
use Rattle.std.proofs.Math.Path.{refl}
use Rattle.std.proofs.Common.{sym, ap, ◌∙◌, inl, inr, arith, zero-add, lt-ltb}
use mathlib.Core.List.Memᴰ
use mathlib.Core.List.{List, [], ◌∷◌}
use Rattle.std.proofs.Math.Nat.{add-zero}
use Rattle.rules.specs.Ceilings.{node_ceiling}
use Rattle.rules.specs.Space.{marks_at}
use Rattle.rules.specs.Octets.{Bytes}
use Rattle.rules.specs.Outcome.{passes}
use Rattle.rules.specs.Blob.{Block}
use Rattle.rules.specs.Events.{Event, opens, shape_judged, events_in}
use Rattle.rules.specs.Tree.{Node, Tree, props_of, top, nodes_from, nodes_of}
use Rattle.rules.specs.Copy.{sieve}
use Rattle.rules.specs.Listing.{◌∈◌}
use Rattle.rules.proofs.Laws.Nested.{Nested, finished, root, child, holds, shuts, events_pass, events_nested}
use Rattle.rules.specs.Laws.Sieve.{Upward}
use Rattle.guest.specs.Walked.{marked, sieved, Ready}

abbrev opened : (stack : List ℕ) (place : ℕ) (name : Bytes) (es : List Event) → Node
opened stack place name es = record { place = place; parent = top stack; name = name; props = props_of es }

-- below the ceiling a mark is its word
pub marked_word : (ws : List ℕ) (i : ℕ) → i < node_ceiling → marked ws i ≡ eqb (get_or ws (marks_at + i) 0) 1
unfolding marked
marked_word ws i h = rw (lt-ltb i node_ceiling h)

module _ (k l : ℕ → Bool) where
  -- the two say the same of the open nodes, and of the nodes to come
  abbrev Agree : List ℕ → (next : ℕ) → Tree → Type 0
  Agree stack next t = ((x : ℕ) → x ∈ stack → k x ≡ l x) × ((i : ℕ) → i < length t → k (next + i) ≡ l (next + i))

  agree_open : (stack : List ℕ) (n : ℕ) (b : Node) (t : Tree) → Agree stack n (b ∷ t) → Agree (n ∷ stack) (suc n) t
  agree_open stack n b t a = (
    λ x m. elim (Memᴰ.cases_cons m) [ inl e ↦ ap k e ∙ here (a.1 0 (omega arith)) ∙ ap l (sym e) | inr p ↦ a.0 x p ],
    λ i h. let e : suc n + i ≡ n + suc i = omega arith in rw e (a.1 (suc i) (omega arith)),
  )
    where
      here : k (n + 0) ≡ l (n + 0) → k n ≡ l n
      here e = rw add-zero at e

  opens_alike : (stack : List ℕ) (n place : ℕ) (name : Bytes) (es : List Event) → k (n + 0) ≡ l (n + 0)
      → sieve k (n ∷ stack) (suc n) es ≡ sieve l (n ∷ stack) (suc n) es → sieve k stack n (opens place name ∷ es) ≡ sieve l stack n (opens place name ∷ es)
  unfolding sieve
  opens_alike stack n place name es e ih = let f : k n ≡ l n = rw add-zero at e in rw (f, ih)

  sieve_alike : {ended : Bool} {stack : List ℕ} {next : ℕ} {es : List Event} → Nested ended stack next es → Agree stack next (nodes_from stack next es)
      → sieve k stack next es ≡ sieve l stack next es
  unfolding sieve nodes_from
  sieve_alike (finished z) a = refl
  sieve_alike (root {count = n} {place = p} {name = name} {es = es} z e t) a =
      opens_alike [] n p name es (a.1 0 (omega arith)) (sieve_alike t (agree_open [] n (opened [] p name es) (nodes_from (n ∷ []) (suc n) es) a))
  sieve_alike (child {i = i} {count = n} {place = p} {is = is} {name = name} {es = es} e f g t) a =
      opens_alike (i ∷ is) n p name es (a.1 0 (omega arith)) (sieve_alike t (agree_open (i ∷ is) n (opened (i ∷ is) p name es) (nodes_from (n ∷ i ∷ is) (suc n) es) a))
  sieve_alike (holds {i = i} {p = p} e t) a = rw (a.0 i (Memᴰ.head refl), sieve_alike t a)
  sieve_alike (shuts {i = i} {place = p} t) a = rw (a.0 i (Memᴰ.head refl), sieve_alike t (λ x m. a.0 x (Memᴰ.tail m), a.1))

  -- closed upwards, by either
  opens_upward : (stack : List ℕ) (n : ℕ) (b : Node) (t : Tree) → k (n + 0) ≡ l (n + 0) → k b.parent ≡ l b.parent
      → (Upward k (suc n) t → Upward l (suc n) t) → Upward k n (b ∷ t) → Upward l n (b ∷ t)
  opens_upward stack n b t e f ih up zero h y = sym f ∙ up 0 h (e ∙ y)
  opens_upward stack n b t e f ih up (suc j) h y =
      let q : suc n + j ≡ n + suc j = omega arith in
      ih (λ i g z. let r : suc n + i ≡ n + suc i = omega arith in up (suc i) (omega arith) (rw (← r) z)) j (omega arith) (rw q y)

  upward_alike : {ended : Bool} {stack : List ℕ} {next : ℕ} {es : List Event} → Nested ended stack next es → k 0 ≡ l 0 → Agree stack next (nodes_from stack next es)
      → Upward k next (nodes_from stack next es) → Upward l next (nodes_from stack next es)
  unfolding nodes_from
  upward_alike (finished z) o a up = λ j h y. absurd (omega arith)
  upward_alike (root {count = n} {place = p} {name = name} {es = es} z e t) o a up =
      opens_upward [] n (opened [] p name es) (nodes_from (n ∷ []) (suc n) es) (a.1 0 (omega arith)) o
      (upward_alike t o (agree_open [] n (opened [] p name es) (nodes_from (n ∷ []) (suc n) es) a)) up
  upward_alike (child {i = i} {count = n} {place = p} {is = is} {name = name} {es = es} e f g t) o a up =
      opens_upward (i ∷ is) n (opened (i ∷ is) p name es) (nodes_from (n ∷ i ∷ is) (suc n) es) (a.1 0 (omega arith)) (a.0 i (Memᴰ.head refl))
      (upward_alike t o (agree_open (i ∷ is) n (opened (i ∷ is) p name es) (nodes_from (n ∷ i ∷ is) (suc n) es) a)) up
  upward_alike (holds e t) o a up = upward_alike t o a up
  upward_alike (shuts t) o a up = upward_alike t o (λ x m. a.0 x (Memᴰ.tail m), a.1) up

-- a structure that passes has a root
some_node : {ended : Bool} {es : List Event} → Nested ended [] 0 es → 0 < length (nodes_from [] 0 es)
unfolding nodes_from
some_node (finished z) = absurd (z refl)
some_node (root z e t) = omega arith

module _ (b : Block) (k : ℕ → Bool) (ws : List ℕ) (shape : shape_judged b ≡ passes)
    (says : (i : ℕ) → i < length (nodes_of (events_in b)) → marked ws i ≡ k i) where
  nested : Nested false [] 0 (events_in b)
  nested = events_nested (events_in b) (events_pass b shape)

  agree : (j : ℕ) → j < length (nodes_from [] 0 (events_in b)) → k (0 + j) ≡ marked ws (0 + j)
  unfolding nodes_of
  agree j h = rw (zero-add j) (sym (says j h))

  -- THE MARKS ARE READY
  pub marks_ready : Upward k 0 (nodes_of (events_in b)) → Ready b.place b.structure b.strings ws
  unfolding nodes_of
  marks_ready up = record {
    shape = shape;
    upward = upward_alike k (marked ws) nested (sym (says 0 (some_node nested))) (λ x m. absurd (Memᴰ.not-nil m), agree) up;
  }

  -- AND THE SIEVE IS THE SAME
  pub marks_sieve : sieved b.place b.structure b.strings ws ≡ sieve k [] 0 (events_in b)
  marks_sieve = sym (sieve_alike k (marked ws) nested (λ x m. absurd (Memᴰ.not-nil m), agree))
