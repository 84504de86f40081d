-- The laws of paths: in a formed tree a node is known by its path, and is below another exactly if its path goes on from the
-- other's and a slash, so that `/soc2` is not below `/soc`.
use Rattle.std.specs.Prelude.{◌≡◌, ◌⊎◌, ◌↔◌, Bool, ◌||◌, [], ◌∷◌, ◌++◌, length}
use Rattle.std.proofs.Math.Path.{refl, ap}
use Rattle.std.proofs.Common.{sym, ap₂, ◌∙◌, inl, inr, append_assoc, arith, eqb-true, eq-eqb}
use Rattle.std.proofs.Math.Bool.{true}
use mathlib.Core.List.Memᴰ
use Prim.Native.Nat.{ℕ, zero, suc, ◌≤◌, ◌<◌}
use Rattle.std.proofs.Math.Dec.{eqb}
use Rattle.std.proofs.lemmas.Bool.{eqb-false}
use Rattle.rules.specs.Octets.{Bytes}
use Rattle.rules.specs.Tree.{Tree, node, climb, below, spell, path}
use Rattle.rules.specs.Listing.{◌∈◌}
use Rattle.rules.proofs.Laws.Tests.{by_test, never, or_cases, or_left, or_right}
use Rattle.rules.specs.Laws.Paths.{Formed, trail}

module _ (t : Tree) (w : Formed t) where
  -- induction from the root down
  pub by_parent : (P : ℕ → Type 0) → P zero → ((i : ℕ) → suc i < length t → P (node t (suc i)).parent → P (suc i)) → (i : ℕ) → i < length t → P i
  by_parent P root child i h = go i i (omega arith) h
    where
      go : (k i : ℕ) → i ≤ k → i < length t → P i
      go zero zero e h = root
      go (suc k) zero e h = root
      go zero (suc i) e h = absurd (omega arith)
      go (suc k) (suc i) e h = child i h (go k (node t (suc i)).parent (omega (arith, w.up i h)) (omega (arith, w.up i h)))

  -- any number of steps that is enough gives the same
  spell_enough : (k l i : ℕ) → i ≤ k → i ≤ l → i < length t → spell t k i ≡ spell t l i
  unfolding spell
  spell_enough zero zero zero d e h = refl
  spell_enough zero (suc l) zero d e h = refl
  spell_enough (suc k) zero zero d e h = refl
  spell_enough (suc k) (suc l) zero d e h = refl
  spell_enough zero l (suc i) d e h = absurd (omega arith)
  spell_enough (suc k) zero (suc i) d e h = absurd (omega arith)
  spell_enough (suc k) (suc l) (suc i) d e h = let u : (node t (suc i)).parent ≤ i = w.up i h in
      ap (λ (s : Bytes). s ++ 47 ∷ (node t (suc i)).name)
      (spell_enough k l (node t (suc i)).parent (omega arith) (omega arith) (omega arith))

  climb_enough : (p k l i : ℕ) → i ≤ k → i ≤ l → i < length t → climb t k p i ≡ climb t l p i
  unfolding climb
  climb_enough p zero zero zero d e h = refl
  climb_enough p zero (suc l) zero d e h = refl
  climb_enough p (suc k) zero zero d e h = refl
  climb_enough p (suc k) (suc l) zero d e h = refl
  climb_enough p zero l (suc i) d e h = absurd (omega arith)
  climb_enough p (suc k) zero (suc i) d e h = absurd (omega arith)
  climb_enough p (suc k) (suc l) (suc i) d e h = let u : (node t (suc i)).parent ≤ i = w.up i h in
      ap (λ (b : Bool). eqb (node t (suc i)).parent p || b) (climb_enough p k l (node t (suc i)).parent (omega arith) (omega arith) (omega arith))

  pub trail_step : (i : ℕ) → suc i < length t → trail t (suc i) ≡ trail t (node t (suc i)).parent ++ 47 ∷ (node t (suc i)).name
  unfolding spell
  trail_step i h = let u : (node t (suc i)).parent ≤ i = w.up i h in
      ap (λ (s : Bytes). s ++ 47 ∷ (node t (suc i)).name)
      (spell_enough i (node t (suc i)).parent (node t (suc i)).parent u (omega arith) (omega arith))

  pub below_step : (p i : ℕ) → suc i < length t → below t p (suc i) ≡ (eqb (node t (suc i)).parent p || below t p (node t (suc i)).parent)
  unfolding climb
  below_step p i h = let u : (node t (suc i)).parent ≤ i = w.up i h in
      ap (λ (b : Bool). eqb (node t (suc i)).parent p || b)
      (climb_enough p i (node t (suc i)).parent (node t (suc i)).parent u (omega arith) (omega arith))

-- ---- byte strings with slashes

cons_inj : (x y : ℕ) (k l : Bytes) → ◌≡◌ {A = Bytes} (x ∷ k) (y ∷ l) → (x ≡ y) × (k ≡ l)
cons_inj x y k l e = (cc, cc)

-- where the last slash stands is known
pub split_last : (a b k l : Bytes) → (47 ∈ k → ⊥) → (47 ∈ l → ⊥) → a ++ 47 ∷ k ≡ b ++ 47 ∷ l → (a ≡ b) × (k ≡ l)
split_last [] [] k l f g e = (refl, (cons_inj 47 47 k l e).1)
split_last [] (y ∷ b) k l f g e = absurd (f (rw (cons_inj 47 y k (b ++ 47 ∷ l) e).1 (Memᴰ.append_right b (Memᴰ.head refl))))
split_last (x ∷ a) [] k l f g e = absurd (g (rw (← (cons_inj x 47 (a ++ 47 ∷ k) l e).1) (Memᴰ.append_right a (Memᴰ.head refl))))
split_last (x ∷ a) (y ∷ b) k l f g e =
    let h = cons_inj x y (a ++ 47 ∷ k) (b ++ 47 ∷ l) e in
    let r = split_last a b k l f g h.1 in
    (ap₂ (λ (z : ℕ) (m : Bytes). z ∷ m) h.0 r.0, r.1)

-- a string has no slash, or a last one
pub last_slash : (s : Bytes) → (47 ∈ s → ⊥) ⊎ ((a : Bytes) × (k : Bytes) × (s ≡ a ++ 47 ∷ k) × (47 ∈ k → ⊥))
last_slash [] = inl (λ m. Memᴰ.not-nil m)
last_slash (x ∷ s) = go (last_slash s)
  where
    go : (47 ∈ s → ⊥) ⊎ ((a : Bytes) × (k : Bytes) × (s ≡ a ++ 47 ∷ k) × (47 ∈ k → ⊥))
        → (47 ∈ x ∷ s → ⊥) ⊎ ((a : Bytes) × (k : Bytes) × (x ∷ s ≡ a ++ 47 ∷ k) × (47 ∈ k → ⊥))
    go (inr r) = inr (x ∷ r.0, r.1, ap (λ (m : Bytes). x ∷ m) r.2, r.3)
    go (inl f) = by_test (eqb 47 x) (λ e. inr ([], s, ap (λ (z : ℕ). z ∷ s) (sym (eqb-true 47 x e)), f))
        (λ e. inl (λ m. elim (Memᴰ.cases_cons m) [ inl q ↦ eqb-false 47 x e q | inr k ↦ f k ]))

module _ (t : Tree) (w : Formed t) where
  not_nil : (a k : Bytes) (x : ℕ) → ◌≡◌ {A = Bytes} [] (a ++ x ∷ k) → ⊥
  not_nil [] k x e = let z : ◌≡◌ {A = ℕ} 0 1 = cc in omega arith
  not_nil (y ∷ a) k x e = let z : ◌≡◌ {A = ℕ} 0 1 = cc in omega arith

  abbrev Known : ℕ → Type 0
  Known i = (j : ℕ) → j < length t → trail t i ≡ trail t j → i ≡ j

  trail_root : Known zero
  unfolding spell
  trail_root zero h e = refl
  trail_root (suc j) h e = absurd (not_nil (trail t (node t (suc j)).parent) (node t (suc j)).name 47 (e ∙ trail_step t w j h))

  trail_child : (i : ℕ) → suc i < length t → Known (node t (suc i)).parent → Known (suc i)
  unfolding spell
  trail_child i g k zero h e = absurd (not_nil (trail t (node t (suc i)).parent) (node t (suc i)).name 47 (sym e ∙ trail_step t w i g))
  trail_child i g k (suc j) h e =
      let u : (node t (suc j)).parent ≤ j = w.up j h in
      let s = split_last (trail t (node t (suc i)).parent) (trail t (node t (suc j)).parent) (node t (suc i)).name (node t (suc j)).name
      (w.plain (suc i)) (w.plain (suc j)) (sym (trail_step t w i g) ∙ e ∙ trail_step t w j h) in
      ap suc (w.siblings i j g h (k (node t (suc j)).parent (omega arith) s.0) s.1)

  pub trail_known : (i : ℕ) → i < length t → Known i
  trail_known = by_parent t w Known trail_root trail_child

  root_other : (j : ℕ) → suc j < length t → 47 ∷ [] ≡ trail t (suc j) → ⊥
  root_other j h e = w.named j h (sym (split_last [] (trail t (node t (suc j)).parent) [] (node t (suc j)).name
      (λ m. Memᴰ.not-nil m) (w.plain (suc j)) (e ∙ trail_step t w j h)).1)

  -- A NODE IS KNOWN BY ITS PATH
  pub path_known : (i j : ℕ) → i < length t → j < length t → path t i ≡ path t j → i ≡ j
  path_known zero zero g h e = refl
  path_known zero (suc j) g h e = absurd (root_other j h e)
  path_known (suc i) zero g h e = absurd (root_other i g (sym e))
  path_known (suc i) (suc j) g h e = trail_known (suc i) g (suc j) h e

  -- node i's path goes on from node p's and a slash
  abbrev pub GoesOn : ℕ → ℕ → Type 0
  GoesOn p i = (s : Bytes) × (trail t i ≡ trail t p ++ 47 ∷ s)

  -- BELOW IS GOING ON FROM A PATH AND A SLASH
  pub below_path : (p i : ℕ) → i < length t → below t p i ≡ true → GoesOn p i
  unfolding climb
  below_path p = by_parent t w (λ i. below t p i ≡ true → GoesOn p i) root child
    where
      root : below t p zero ≡ true → GoesOn p zero
      root e = never true refl (sym e)

      child : (i : ℕ) → suc i < length t → (below t p (node t (suc i)).parent ≡ true → GoesOn p (node t (suc i)).parent)
          → below t p (suc i) ≡ true → GoesOn p (suc i)
      child i h ih b = elim (or_cases (eqb (node t (suc i)).parent p) (below t p (node t (suc i)).parent) (sym (below_step t w p i h) ∙ b)) [
        | inl e ↦ (
          (node t (suc i)).name,
          trail_step t w i h ∙ ap (λ (q : ℕ). trail t q ++ 47 ∷ (node t (suc i)).name) (eqb-true (node t (suc i)).parent p e),
        )
        | inr e ↦ let r = ih e in (
          r.0 ++ 47 ∷ (node t (suc i)).name,
          trail_step t w i h
              ∙ ap (λ (l : Bytes). l ++ 47 ∷ (node t (suc i)).name) r.1
              ∙ append_assoc (trail t p) (47 ∷ r.0) (47 ∷ (node t (suc i)).name),
        )
      ]

  pub path_below : (p : ℕ) → p < length t → (i : ℕ) → i < length t → GoesOn p i → below t p i ≡ true
  unfolding spell
  path_below p g = by_parent t w (λ i. GoesOn p i → below t p i ≡ true) root child
    where
      root : GoesOn p zero → below t p zero ≡ true
      root o = absurd (not_nil (trail t p) o.0 47 o.1)

      child : (i : ℕ) → suc i < length t → (GoesOn p (node t (suc i)).parent → below t p (node t (suc i)).parent ≡ true)
          → GoesOn p (suc i) → below t p (suc i) ≡ true
      child i h ih o = below_step t w p i h ∙ go (last_slash s)
        where
          q : ℕ
          q = (node t (suc i)).parent

          s : Bytes
          s = o.0

          go : (47 ∈ s → ⊥) ⊎ ((a : Bytes) × (k : Bytes) × (s ≡ a ++ 47 ∷ k) × (47 ∈ k → ⊥)) → (eqb q p || below t p q) ≡ true
          go (inl f) =
              let r = split_last (trail t q) (trail t p) (node t (suc i)).name s (w.plain (suc i)) f (sym (trail_step t w i h) ∙ o.1) in
              let u : q ≤ i = w.up i h in
              or_left (eqb q p) (below t p q) (eq-eqb q p (trail_known q (omega arith) p g r.0))
          go (inr c) =
              let e = sym (trail_step t w i h)
              ∙ o.1
              ∙ ap (λ (l : Bytes). trail t p ++ 47 ∷ l) c.2
              ∙ sym (append_assoc (trail t p) (47 ∷ c.0) (47 ∷ c.1)) in
              let r = split_last (trail t q) (trail t p ++ 47 ∷ c.0) (node t (suc i)).name c.1 (w.plain (suc i)) c.3 e in
              or_right (eqb q p) (below t p q) (ih (c.0, r.0))

  pub below_iff : (p i : ℕ) → p < length t → i < length t → (below t p i ≡ true) ↔ GoesOn p i
  below_iff p i g h = (below_path p i h, path_below p g i h)
