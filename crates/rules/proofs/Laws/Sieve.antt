-- The laws of the sieve, of events that pass the shape: what it leaves passes too, and has exactly the kept nodes, in order, with all
-- their properties; a kept node's parent is its old parent's new number.
use Rattle.std.specs.Prelude.{◌≡◌, Bool, length}
use Rattle.std.proofs.Math.Path.{refl, ap}
use Rattle.std.proofs.Common.{◌∙◌}
use Rattle.std.proofs.Math.Bool.{true, false}
use mathlib.Core.List.Memᴰ
use mathlib.Core.List.{List, [], ◌∷◌, map}
use Prim.Native.Nat.{ℕ, zero, suc, ◌+◌, ◌≤◌, ◌<◌}
use native.Mathlib.Omega.{arith}
use Rattle.std.proofs.Math.Nat.{add-zero}
use Rattle.rules.specs.Ceilings.{node_ceiling, open_ceiling}
use Rattle.rules.specs.Names.{node_name_reads}
use Rattle.rules.specs.Octets.{Bytes}
use Rattle.rules.specs.Lists.{keep}
use Rattle.rules.specs.Events.{Property, Event, opens}
use Rattle.rules.specs.Tree.{Node, Tree, props_of, top, nodes_from}
use Rattle.rules.specs.Copy.{sieve}
use Rattle.rules.specs.Listing.{◌∈◌}
use Rattle.rules.specs.Demands.{rank}
use Rattle.rules.proofs.Laws.Tests.{by_test, by_le, never}
use Rattle.rules.proofs.Laws.Lists.{keep_yes, keep_no, small_more}
use Rattle.rules.proofs.Laws.Nested.{Nested, finished, root, child, holds, shuts}
use Rattle.rules.specs.Laws.Sieve.{Upward}

-- ---- new numbers

module _ (k : ℕ → Bool) where
  pub rank_yes : (n : ℕ) → k n ≡ true → rank k (suc n) ≡ suc (rank k n)
  unfolding rank
  rank_yes n e = rw (e, rank)

  pub rank_no : (n : ℕ) → k n ≡ false → rank k (suc n) ≡ rank k n
  unfolding rank
  rank_no n e = rw (e, rank)

  rank_grows : (n : ℕ) → rank k n ≤ rank k (suc n)
  rank_grows n = by_test (k n) (λ e. omega (arith, rank_yes n e)) (λ e. omega (arith, rank_no n e))

  pub rank_le : (n : ℕ) → rank k n ≤ n
  unfolding rank
  rank_le zero = omega arith
  rank_le (suc n) = by_test (k n) (λ e. omega (arith, rank_yes n e, rank_le n)) (λ e. omega (arith, rank_no n e, rank_le n))

  pub rank_lt : (a b : ℕ) → a < b → k a ≡ true → rank k a < rank k b
  rank_lt a zero h e = absurd (omega arith)
  rank_lt a (suc b) h e = by_le b a
      (λ g. let q : a ≡ b = omega arith in omega (arith, rank_yes a e, ap (λ (z : ℕ). rank k (suc z)) q))
      (λ g. omega (arith, rank_lt a b g e, rank_grows b))

  -- no two kept numbers have one new number
  pub rank_inj : (a b : ℕ) → k a ≡ true → k b ≡ true → rank k a ≡ rank k b → a ≡ b
  rank_inj a b p q e = by_le a b
      (λ g. by_le b a (λ h. omega arith) (λ h. absurd (omega (arith, rank_lt a b h p))))
      (λ g. absurd (omega (arith, rank_lt b a g q)))

-- ---- the shape of what is left

-- the innermost entry of all is the root
abbrev pub Rooted : List ℕ → Type 0
Rooted [] = Unit {0}
Rooted (i ∷ []) = i ≡ 0
Rooted (i ∷ j ∷ is) = Rooted (j ∷ is)

rooted_rest : (i : ℕ) (is : List ℕ) → Rooted (i ∷ is) → Rooted is
rooted_rest i [] r = tt
rooted_rest i (j ∷ is) r = r

module _ (k : ℕ → Bool) (zeroth : k 0 ≡ true) where
  -- the new stack: the kept ones' new numbers
  abbrev new : List ℕ → List ℕ
  new stack = map (rank k) (keep k stack)

  new_yes : (i : ℕ) (is : List ℕ) → k i ≡ true → new (i ∷ is) ≡ rank k i ∷ new is
  new_yes i is e = rw (keep_yes k i is e)

  new_no : (i : ℕ) (is : List ℕ) → k i ≡ false → new (i ∷ is) ≡ new is
  new_no i is e = rw (keep_no k i is e)

  new_length : (stack : List ℕ) → length (new stack) ≤ length stack
  unfolding keep
  new_length [] = omega arith
  new_length (i ∷ is) = by_test (k i)
      (λ e. rw (new_yes i is e) (omega (arith, new_length is)))
      (λ e. rw (new_no i is e) (omega (arith, new_length is)))

  -- while the root is open so it is in the copy
  new_some : (i : ℕ) (is : List ℕ) → Rooted (i ∷ is) → (j : ℕ) × (js : List ℕ) × (new (i ∷ is) ≡ j ∷ js)
  unfolding keep
  new_some i [] r = (rank k i, [], new_yes i [] (rw r zeroth))
  new_some i (j ∷ is) r = by_test (k i)
      (λ e. (rank k i, new (j ∷ is), new_yes i (j ∷ is) e))
      (λ e. let s = new_some j is r in (s.0, s.1, new_no i (j ∷ is) e ∙ s.2))

  new_nil : new [] ≡ []
  unfolding keep
  new_nil = refl

  rank_positive : (n : ℕ) → 0 < n → 0 < rank k n
  unfolding rank
  rank_positive n h = omega (arith, rank_lt k 0 n h zeroth)

  zero_rank : (n : ℕ) → n ≡ 0 → rank k n ≡ 0
  zero_rank n e = omega (arith, rank_le k n)

  -- a child, whatever stands on the stack
  child_any : {ended : Bool} {count place : ℕ} {name : Bytes} {es : List Event} (stack : List ℕ) → (j : ℕ) (js : List ℕ) → stack ≡ j ∷ js
      → node_name_reads name ≡ true → length stack < open_ceiling → count < node_ceiling → Nested false (count ∷ stack) (suc count) es
      → Nested ended stack count (opens place name ∷ es)
  child_any stack j js e r f g n = rw e (child r (rw e at f) g (rw e at n))

  -- WHAT IS LEFT PASSES THE SHAPE. `ended'` says that the innermost kept node has had a kept child.
  pub sieve_nested : {ended : Bool} {stack : List ℕ} {next : ℕ} {es : List Event} → Nested ended stack next es → Rooted stack
      → ((x : ℕ) → x ∈ stack → x < next) → (ended' : Bool) → (ended ≡ false → k (top stack) ≡ true → ended' ≡ false)
      → Nested ended' (new stack) (rank k next) (sieve k stack next es)
  unfolding sieve
  sieve_nested (finished {count = n} z) r s d h = rw new_nil (finished (λ (e : rank k n ≡ 0). omega (arith, rank_positive n (omega arith))))
  sieve_nested (root {count = n} {place = p} {name = name} {es = es} z e t) r s d h =
      let kn : k n ≡ true = rw z zeroth in
      let ih = sieve_nested t z (small_more [] n s) false (λ a b. refl) in
      rw (kn, new_nil) (root (zero_rank n z) e (rw (new_yes n [] kn, new_nil, rank_yes k n kn) at ih))
  sieve_nested (child {i = i} {count = n} {place = p} {is = is} {name = name} {es = es} e f g t) r s d h = by_test (k n)
      (λ kn. let ih = sieve_nested t r (small_more (i ∷ is) n s) false (λ a b. refl) in
      let o = new_some i is r in
      rw kn
      (child_any (new (i ∷ is)) o.0 o.1 o.2 e (omega (arith, new_length (i ∷ is))) (omega (arith, rank_le k n))
      (rw (new_yes n (i ∷ is) kn, rank_yes k n kn) at ih)))
      (λ kn. let ih = sieve_nested t r (small_more (i ∷ is) n s) d (λ a b. never (k n) b kn) in
      rw kn (rw (new_no n (i ∷ is) kn, rank_no k n kn) at ih))
  sieve_nested (holds {i = i} {count = n} {is = is} {p = p} {es = es} e t) r s d h = by_test (k i)
      (λ ki. let ih = sieve_nested t r s false (λ a b. refl) in
      rw (ki, h refl ki, new_yes i is ki) (holds e (rw (new_yes i is ki) at ih)))
      (λ ki. let ih = sieve_nested t r s d h in rw ki ih)
  sieve_nested (shuts {i = i} {count = n} {place = p} {is = is} {es = es} t) r s d h = by_test (k i)
      (λ ki. let ih = sieve_nested t (rooted_rest i is r) (λ x m. s x (Memᴰ.tail m)) true (λ a b. never true refl a) in
      rw (ki, new_yes i is ki) (shuts ih))
      (λ ki. let ih = sieve_nested t (rooted_rest i is r) (λ x m. s x (Memᴰ.tail m)) d (λ a b. never true refl a) in
      rw (ki, new_no i is ki) ih)

-- ---- the nodes of what is left

-- a node and its copy
pub record CopyOf (k : ℕ → Bool) (a b : Node) : Type 0 where
  pub place : a.place ≡ b.place
  pub name : a.name ≡ b.name
  pub props : a.props ≡ b.props
  pub parent : a.parent ≡ rank k b.parent
  pub kept : k b.parent ≡ true

-- the copies of the kept nodes, where the first node's number is `next`
pub data Picked (k : ℕ → Bool) : ℕ → List Node → List Node → Type 0 where
  nothing : {next : ℕ} → Picked k next [] []
  keeping : {next : ℕ} {a b : Node} {t u : List Node} → k next ≡ true → CopyOf k a b → Picked k (suc next) t u → Picked k next (a ∷ t) (b ∷ u)
  leaving : {next : ℕ} {b : Node} {t u : List Node} → k next ≡ false → Picked k (suc next) t u → Picked k next t (b ∷ u)

module _ (k : ℕ → Bool) where
  -- no property of a node that is not kept
  quiet : {ended : Bool} {stack : List ℕ} {next : ℕ} {es : List Event} → Nested ended stack next es → (ended ≡ false → k (top stack) ≡ false)
      → props_of (sieve k stack next es) ≡ []
  unfolding sieve props_of
  quiet (finished z) h = refl
  quiet (root {count = n} z e t) h = by_test (k n) (λ y. rw y) (λ y. rw y (quiet t (λ p. y)))
  quiet (child {count = n} e f g t) h = by_test (k n) (λ y. rw y) (λ y. rw y (quiet t (λ p. y)))
  quiet (holds e t) h = rw (h refl) (quiet t h)
  quiet (shuts {i = i} t) h = by_test (k i) (λ y. rw y) (λ y. rw y (quiet t (λ p. never true refl p)))

  -- all properties of one that is
  loud : {ended : Bool} {stack : List ℕ} {next : ℕ} {es : List Event} → Nested ended stack next es → k (top stack) ≡ true
      → props_of (sieve k stack next es) ≡ props_of es
  unfolding sieve props_of
  loud (finished z) h = refl
  loud (root {count = n} z e t) h = by_test (k n) (λ y. rw y) (λ y. rw y (quiet t (λ p. y)))
  loud (child {count = n} e f g t) h = by_test (k n) (λ y. rw y) (λ y. rw y (quiet t (λ p. y)))
  loud (holds {p = p} e t) h = rw h (ap (λ (l : List Property). p ∷ l) (loud t h))
  loud (shuts t) h = rw h

  top_new : (stack : List ℕ) → k (top stack) ≡ true → top (map (rank k) (keep k stack)) ≡ rank k (top stack)
  unfolding keep rank
  top_new [] e = refl
  top_new (i ∷ is) e = ap top (ap (map (rank k)) (keep_yes k i is e))

  opened_picked : (stack : List ℕ) (n place : ℕ) (name : Bytes) (es : List Event) → Nested false (n ∷ stack) (suc n) es
      → Upward k n (nodes_from stack n (opens place name ∷ es))
      → Picked k (suc n) (nodes_from (map (rank k) (keep k (n ∷ stack))) (rank k (suc n)) (sieve k (n ∷ stack) (suc n) es))
      (nodes_from (n ∷ stack) (suc n) es)
      → Picked k n (nodes_from (map (rank k) (keep k stack)) (rank k n) (sieve k stack n (opens place name ∷ es)))
      (nodes_from stack n (opens place name ∷ es))
  unfolding sieve nodes_from
  opened_picked stack n place name es t up ih = by_test (k n)
      (λ y. let u : k (top stack) ≡ true = up 0 (omega arith) (rw add-zero y) in
      rw y
      (keeping y (record { place = refl; name = refl; props = loud t y; parent = top_new stack u; kept = u })
      (rw (keep_yes k n stack y, rank_yes k n y) at ih)))
      (λ y. rw y (leaving y (rw (keep_no k n stack y, rank_no k n y) at ih)))

  upward_next : (n : ℕ) (b : Node) (t : Tree) → Upward k n (b ∷ t) → Upward k (suc n) t
  upward_next n b t up j h y = let e : suc n + j ≡ n + suc j = omega arith in up (suc j) (omega arith) (rw (← e) y)

  -- WHAT IS LEFT HAS THE KEPT NODES, IN ORDER, WITH ALL PROPERTIES
  pub sieve_picked : {ended : Bool} {stack : List ℕ} {next : ℕ} {es : List Event} → Nested ended stack next es → Upward k next (nodes_from stack next es)
      → Picked k next (nodes_from (map (rank k) (keep k stack)) (rank k next) (sieve k stack next es)) (nodes_from stack next es)
  unfolding sieve nodes_from
  sieve_picked (finished z) up = nothing
  sieve_picked (root {count = n} {place = p} {name = name} {es = es} z e t) up =
      opened_picked [] n p name es t up (sieve_picked t (upward_next n _ (nodes_from (n ∷ []) (suc n) es) up))
  sieve_picked (child {i = i} {count = n} {place = p} {is = is} {name = name} {es = es} e f g t) up =
      opened_picked (i ∷ is) n p name es t up (sieve_picked t (upward_next n _ (nodes_from (n ∷ i ∷ is) (suc n) es) up))
  sieve_picked (holds {i = i} e t) up = by_test (k i)
      (λ y. rw y (sieve_picked t up))
      (λ y. rw y (sieve_picked t up))
  sieve_picked (shuts {i = i} {is = is} t) up = by_test (k i)
      (λ y. rw (y, keep_yes k i is y) (sieve_picked t up))
      (λ y. rw (y, keep_no k i is y) (sieve_picked t up))
