-- Two ways up from two nodes, until they meet: where they part, the paths do.
use Rattle.std.specs.Prelude.{if◌then◌else◌}
use mathlib.Core.Path.{◌≡◌, refl, sym, ap, ap₂, subst, ◌∙◌}
use mathlib.Core.Logic.{◌⊎◌, inl, inr}
use mathlib.Core.Bool.{true, false, not}
use mathlib.Core.List.{[], ◌∷◌, ◌++◌, append_assoc, append-nil}
use Prim.Native.Nat.{ℕ, zero, suc, ◌≤◌, ◌<◌}
use native.Mathlib.Omega.{arith}
use lib.Dec.{eqb, ltb}
use lib.ListN.{length}
use borrow.Author.Tests.{eq-eqb, ne_eqb, lt-ltb}
use Rattle.rules.specs.Octets.{Bytes, before}
use Rattle.rules.specs.Tree.{Tree, node, spell, path}
use Rattle.rules.specs.Laws.Paths.{Formed, trail}
use Rattle.rules.proofs.Laws.Paths.{trail_step, by_parent}
use Rattle.std.specs.Prelude.{Option, Some, None}
use Rattle.paths.specs.declared.order.Fork.{Fork}
use Rattle.paths.specs.Order.{slash, nearer, Behind, Way, Parted, Leads, Forked}
use Rattle.paths.proofs.Names.{before_front, before_none, before_nil, before_same, Follows, names_order}

module _ (t : Tree) (w : Formed t) where
  -- a node that is not the root has a smaller parent, and its path goes on from its parent's
  up_less : (c : ℕ) → 0 < c → c < length t → (node t c).parent < c
  up_less zero h k = absurd (let z : ⊥ = omega arith in z)
  up_less (suc c) h k = omega (arith, w.up c k)

  goes_on : (c : ℕ) → 0 < c → c < length t → trail t c ≡ trail t (node t c).parent ++ 47 ∷ (node t c).name
  goes_on zero h k = absurd (let z : ⊥ = omega arith in z)
  goes_on (suc c) h k = trail_step t w c k

  pub start : (i : ℕ) → i < length t → Way t i i i
  start i h = record {
    inside = h;
    upper = omega arith;
    tail = [];
    whole = sym (append-nil (trail t i));
    behind = inl (refl, refl);
    next = inl (refl, refl);
  }

  below_next : (i at c : ℕ) → Way t i at c → (at ≤ c) × (at < length t)
  below_next i at c v = elim v.next [ inl e ↦ (omega (arith, e.0), omega (arith, e.0, v.inside)) | inr e ↦ (omega (arith, e.0), omega (arith, e.0, v.inside)) ]

  -- one step up
  climbed : (i at c : ℕ) → 0 < at → Way t i at c → Way t i (node t at).parent at
  climbed i at c h v = by v.next
    where
      l : at < length t
      l = (below_next i at c v).1

      u : (node t at).parent < at
      u = up_less at h l

      by : ((c ≡ at) × (c ≡ i)) ⊎ ((at < c) × ((node t c).parent ≡ at)) → Way t i (node t at).parent at
      by (inl e) = let s : at ≡ i = sym e.0 ∙ e.1 in record {
        inside = l;
        upper = omega arith;
        tail = [];
        whole = rw s (sym (append-nil (trail t i)));
        behind = inl (s, refl);
        next = inr (u, refl);
      }
      by (inr e) = record {
        inside = l;
        upper = omega (arith, e.0, v.upper);
        tail = 47 ∷ ((node t c).name ++ v.tail);
        whole =
            v.whole
            ∙ ap (λ (x : Bytes). x ++ v.tail) (goes_on c (omega (arith, e.0)) v.inside ∙ ap (λ (q : ℕ). trail t q ++ 47 ∷ (node t c).name) e.1)
            ∙ append_assoc (trail t at) (47 ∷ (node t c).name) v.tail;
        behind = inr (λ z. omega (arith, e.0, v.upper), ((node t c).name ++ v.tail, refl));
        next = inr (u, refl);
      }

  pub climb_second : (i j a b left right q : ℕ) → a < b → q ≡ (if ltb (node t b).parent b then (node t b).parent else 0) → Parted t i j a b left right → Parted t i j a q left b
  climb_second i j a b left right q h e p =
      let k = below_next j b right p.second in
      let u : (node t b).parent < b = up_less b (omega arith) k.1 in
      let f : q ≡ (node t b).parent = e ∙ rw (lt-ltb (node t b).parent b u) in
      rw f (record {
        first = p.first;
        second = climbed j b right (omega arith) p.second;
        over = λ x. omega (arith, p.over x);
        under = λ x. h;
        apart = λ x y z. omega (arith, p.over x);
      })

  pub climb_first : (i j a b left right q : ℕ) → b < a → q ≡ (if ltb (node t a).parent a then (node t a).parent else 0) → Parted t i j a b left right → Parted t i j q b a right
  climb_first i j a b left right q h e p =
      let k = below_next i a left p.first in
      let u : (node t a).parent < a = up_less a (omega arith) k.1 in
      let f : q ≡ (node t a).parent = e ∙ rw (lt-ltb (node t a).parent a u) in
      rw f (record {
        first = climbed i a left (omega arith) p.first;
        second = p.second;
        over = λ x. h;
        under = λ x. omega (arith, p.under x);
        apart = λ x y z. omega (arith, p.under y);
      })

  pub both_start : (i j : ℕ) → i < length t → j < length t → Parted t i j i j i j
  both_start i j g h = record {
    first = start i g;
    second = start j h;
    over = λ x. let z : ⊥ = omega arith in absurd z;
    under = λ x. let z : ⊥ = omega arith in absurd z;
    apart = λ x y z. omega arith;
  }

  -- ---- the paths, but that the root's is empty, are in the same order

  -- a path has a slash and a byte at least
  abbrev Slashed : ℕ → Type 0
  Slashed i = (c : ℕ) × (z : Bytes) × (trail t i ≡ 47 ∷ c ∷ z)

  abbrev Long : ℕ → Type 0
  Long i = (trail t i ≡ []) ⊎ Slashed i

  on : (i : ℕ) → suc i < length t → (n : Bytes) → n ≡ (node t (suc i)).name → Long (node t (suc i)).parent → Slashed (suc i)
  on i h [] e l = absurd (w.named i h (sym e))
  on i h (c ∷ z) e (inl f) = (c, z, trail_step t w i h ∙ ap₂ (λ (a n : Bytes). a ++ 47 ∷ n) f (sym e))
  on i h (c ∷ z) e (inr f) = (f.0, f.1 ++ 47 ∷ (node t (suc i)).name, trail_step t w i h ∙ ap (λ (a : Bytes). a ++ 47 ∷ (node t (suc i)).name) f.2)

  long : (i : ℕ) → i < length t → Long i
  unfolding spell
  long = by_parent t w Long (inl refl) (λ i h l. inr (on i h (node t (suc i)).name refl l))

  slashed : (i : ℕ) → suc i < length t → Slashed (suc i)
  slashed i h = on i h (node t (suc i)).name refl (long (node t (suc i)).parent (omega (arith, w.up i h)))

  trail_order : (i j : ℕ) → i < length t → j < length t → before (path t i) (path t j) ≡ before (trail t i) (trail t j)
  unfolding before spell
  trail_order zero zero g h = refl
  trail_order zero (suc j) g h = let s = slashed j h in
      ap (before (47 ∷ [])) s.2 ∙ sym (ap (before []) s.2)
  trail_order (suc i) zero g h = let s = slashed i g in
      ap (λ (x : Bytes). before x (47 ∷ [])) s.2 ∙ sym (ap (λ (x : Bytes). before x []) s.2)
  trail_order (suc i) (suc j) g h = refl

  -- ---- where they have met

  -- the path goes on from `at`
  reach : (i at c : ℕ) → Way t i at c → (z : Bytes) × (trail t i ≡ trail t at ++ z)
  reach i at c v = elim v.next [
    | inl e ↦ ([], rw (sym e.0 ∙ e.1) (sym (append-nil (trail t i))))
    | inr e ↦ (
      47 ∷ ((node t c).name ++ v.tail),
      v.whole
          ∙ ap (λ (x : Bytes). x ++ v.tail) (goes_on c (omega (arith, e.0)) v.inside ∙ ap (λ (q : ℕ). trail t q ++ 47 ∷ (node t c).name) e.1)
          ∙ append_assoc (trail t at) (47 ∷ (node t c).name) v.tail,
    )
  ]

  pub record Down (i at c : ℕ) (tail : Bytes) : Type 0 where
    pub less : at < c
    pub parent : (node t c).parent ≡ at
    pub path : trail t i ≡ trail t at ++ 47 ∷ ((node t c).name ++ tail)
    pub follows : Follows (not (eqb c i)) tail

  followed : (c i : ℕ) (x : Bytes) → Behind c i x → Follows (not (eqb c i)) x
  followed c i x (inl e) = rw (eq-eqb c i e.0) e.1
  followed c i x (inr e) = rw (ne_eqb c i e.0) e.1

  down : (i at c : ℕ) → (v : Way t i at c) → (c ≡ at → ⊥) → Down i at c v.tail
  down i at c v n = elim v.next [
    | inl e ↦ absurd (n e.0)
    | inr e ↦ record {
      less = e.0;
      parent = e.1;
      path = v.whole
          ∙ ap (λ (x : Bytes). x ++ v.tail) (goes_on c (omega (arith, e.0)) v.inside ∙ ap (λ (q : ℕ). trail t q ++ 47 ∷ (node t c).name) e.1)
          ∙ append_assoc (trail t at) (47 ∷ (node t c).name) v.tail;
      follows = followed c i v.tail v.behind;
    }
  ]

  arrived : (i at c : ℕ) → Way t i at c → c ≡ at → at ≡ i
  arrived i at c v e = elim v.next [ inl f ↦ sym f.0 ∙ f.1 | inr f ↦ absurd (let z : ⊥ = omega (arith, f.0) in z) ]

  one_name : (c d : ℕ) → 0 < c → 0 < d → c < length t → d < length t → (node t c).parent ≡ (node t d).parent → (node t c).name ≡ (node t d).name → c ≡ d
  one_name zero d g h k l e f = absurd (let z : ⊥ = omega arith in z)
  one_name (suc c) zero g h k l e f = absurd (let z : ⊥ = omega arith in z)
  one_name (suc c) (suc d) g h k l e f = ap suc (w.siblings c d k l e f)

  module _ (i j at left right : ℕ) (g : i < length t) (h : j < length t) (p : Parted t i j at at left right) where
    -- j is i, or above it
    pub order_above : right ≡ at → before (path t i) (path t j) ≡ false
    order_above e =
        let r = reach i at left p.first in
        let s : trail t j ≡ trail t at ++ [] = ap (trail t) (sym (arrived j at right p.second e)) ∙ sym (append-nil (trail t at)) in
        trail_order i j g h ∙ rw (r.1, s) (before_front (trail t at) r.0 [] ∙ before_none r.0)

    -- i is above j
    pub order_below : (right ≡ at → ⊥) → left ≡ at → before (path t i) (path t j) ≡ true
    order_below n e =
        let d = down j at right p.second n in
        let s : trail t i ≡ trail t at ++ [] = ap (trail t) (sym (arrived i at left p.first e)) ∙ sym (append-nil (trail t at)) in
        trail_order i j g h ∙ rw (s, d.path) (before_front (trail t at) [] _ ∙ before_nil 47 _)

    pub order_names : (right ≡ at → ⊥) → (left ≡ at → ⊥)
        → before (path t i) (path t j) ≡ before ((node t left).name ++ slash (not (eqb left i))) ((node t right).name ++ slash (not (eqb right j)))
    order_names n m =
        let d = down i at left p.first m in
        let e = down j at right p.second n in
        let f : (node t left).name ≡ (node t right).name → ⊥ =
        λ q. p.apart d.less e.less (one_name left right (omega (arith, d.less)) (omega (arith, e.less)) p.first.inside p.second.inside (d.parent ∙ sym e.parent) q) in
        trail_order i j g h
        ∙ rw (d.path, e.path) (before_front (trail t at) _ _ ∙ before_same 47 47 _ _ refl)
        ∙ names_order (node t left).name (node t right).name (not (eqb left i)) (not (eqb right j)) p.first.tail p.second.tail (w.plain left) (w.plain right) f d.follows e.follows

-- ---- as a fork has it

module _ (t : Tree) (w : Formed t) (i j : ℕ) where
  pub fork_start : i < length t → j < length t → Forked t i j i j (record { left = None; right = None })
  fork_start g h = record { left = i; right = j; parted = both_start t w i j g h; first = refl; second = refl }

  module _ (a b : ℕ) (f : Fork) (p : Forked t i j a b f) (q : ℕ) where
    pub fork_right : a < b → q ≡ nearer t b → q < b → Forked t i j a q (record { left = f.left; right = Some b })
    fork_right h e l = record {
      left = p.left;
      right = b;
      parted = climb_second t w i j a b p.left p.right q h e p.parted;
      first = p.first;
      second = (refl, l);
    }

    pub fork_left : b < a → q ≡ nearer t a → q < a → Forked t i j q b (record { left = Some a; right = f.right })
    fork_left h e l = record {
      left = a;
      right = p.right;
      parted = climb_first t w i j a b p.left p.right q h e p.parted;
      first = (refl, l);
      second = p.second;
    }

  pub fork_met : (a b : ℕ) (f : Fork) → a ≡ b → Forked t i j a b f → (at : ℕ) × Forked t i j at at f
  fork_met a b f e p = (a, subst (λ (x : ℕ). Forked t i j a x f) (sym e) p)

  module _ (g : i < length t) (h : j < length t) (at : ℕ) (f : Fork) (p : Forked t i j at at f) where
    -- j is i, or above it
    pub fork_above : f.right ≡ None → before (path t i) (path t j) ≡ false
    fork_above e = order_above t w i j at p.left p.right g h p.parted (subst (λ (o : Option ℕ). Leads at o p.right) e p.second)

    module _ (right : ℕ) (e : f.right ≡ Some right) where
      met_right : (p.right ≡ right) × (at < right)
      met_right = subst (λ (o : Option ℕ). Leads at o p.right) e p.second

      -- i is above j
      pub fork_below : f.left ≡ None → before (path t i) (path t j) ≡ true
      fork_below d =
          order_below t w i j at p.left p.right g h p.parted (λ z. omega (arith, met_right)) (subst (λ (o : Option ℕ). Leads at o p.left) d p.first)

      pub fork_names : (left : ℕ) → f.left ≡ Some left
          → before (path t i) (path t j) ≡ before ((node t left).name ++ slash (not (eqb left i))) ((node t right).name ++ slash (not (eqb right j)))
      fork_names left d =
          let m : (p.left ≡ left) × (at < left) = subst (λ (o : Option ℕ). Leads at o p.left) d p.first in
          order_names t w i j at p.left p.right g h p.parted (λ z. omega (arith, met_right)) (λ z. omega (arith, m))
          ∙ rw (m.0, met_right.0)
