-- Climbing from parent to parent, in any tree: what one step says.
use mathlib.Core.Path.{◌≡◌, refl, sym, ap, ◌∙◌}
use mathlib.Core.Bool.{Bool, true, false, ◌||◌}
use mathlib.Core.List.{List, [], ◌∷◌, ◌++◌}
use mathlib.Core.Option as math
use Rattle.std.specs.Prelude.{Option, None, Some, MatchOption}
use Rattle.references.specs.Table.{found}
use Prim.Native.Nat.{ℕ, zero, suc, ◌+◌, ◌-◌, ◌≤◌, ◌<◌}
use native.Mathlib.Nat.{sub-zero}
use native.Mathlib.Omega.{arith}
use native.Mathlib.Numerals.{add-one}
use lib.Dec.{eqb}
use lib.ListN.{length, drop_of_length-le}
use Rattle.std.specs.Prelude.{min}
use Rattle.rules.specs.Events.{string_at}
use Rattle.rules.proofs.Laws.Tests.{by_le}
use borrow.Author.Tests.{eq-eqb, ne_eqb}
use Rattle.rules.specs.Octets.{Bytes, same}
use Rattle.rules.specs.Tree.{Tree, node, climb, spell, path, frame, numbers_from}
use Rattle.rules.specs.Derivation.{node_among, node_at}
use Rattle.rules.specs.Blob.{Block}
use Rattle.rules.specs.Laws.Tabled.{tree_in}
use Rattle.rules.proofs.Laws.Tabled.{tree_length}

-- a string is read where its place is made no larger than a bound that is past the end
pub string_within : (s : Bytes) (o r m : ℕ) → r ≡ min o m → length s ≤ m → string_at s r ≡ string_at s o
unfolding string_at
string_within s o r m e h = by_le o m
    (λ l. let f : r ≡ o = omega arith in rw f)
    (λ l. let f : r ≡ m = omega arith in rw (f, drop_of_length-le s h, drop_of_length-le s {i = o} (omega arith)))

module _ (t : Tree) where
  pub climb_none : (k p m : ℕ) → k ≤ 0 → climb t k p m ≡ false
  unfolding climb
  climb_none zero p m h = refl
  climb_none (suc k) p m h = absurd (let z : ⊥ = omega arith in z)

  pub climb_root : (k p m : ℕ) → m ≡ 0 → climb t k p m ≡ false
  unfolding climb
  climb_root zero p m h = refl
  climb_root (suc k) p zero h = refl
  climb_root (suc k) p (suc m) h = absurd (let z : ⊥ = omega arith in z)

  climb_step : (k p m : ℕ) → (m ≡ 0 → ⊥) → climb t (suc k) p m ≡ (eqb (node t m).parent p || climb t k p (node t m).parent)
  unfolding climb
  climb_step k p zero n = absurd (n refl)
  climb_step k p (suc m) n = refl

  -- with k steps left, and j behind the next one
  module _ (k j p m q : ℕ) (h : k ≡ suc j) (n : m ≡ 0 → ⊥) (e : q ≡ (node t m).parent) where
    pub climb_hit : q ≡ p → climb t k p m ≡ true
    climb_hit f = rw h (climb_step j p m n ∙ rw (eq-eqb (node t m).parent p (sym e ∙ f)))

    pub climb_on : (q ≡ p → ⊥) → climb t k p m ≡ climb t j p q
    climb_on f = rw h (climb_step j p m n ∙ rw (← e, ne_eqb q p f))

  pub spell_none : (k m : ℕ) → k ≤ 0 → spell t k m ≡ []
  unfolding spell
  spell_none zero m h = refl
  spell_none (suc k) m h = absurd (let z : ⊥ = omega arith in z)

  pub spell_root : (k m : ℕ) → m ≡ 0 → spell t k m ≡ []
  unfolding spell
  spell_root zero m h = refl
  spell_root (suc k) zero h = refl
  spell_root (suc k) (suc m) h = absurd (let z : ⊥ = omega arith in z)

  -- with k steps left, and j behind the next one
  pub spell_step : (k j m : ℕ) → k ≡ suc j → (m ≡ 0 → ⊥) → spell t k m ≡ spell t j (node t m).parent ++ 47 ∷ (node t m).name
  unfolding spell
  spell_step k j zero h n = absurd (n refl)
  spell_step k j (suc m) h n = rw h

  pub path_root : (m : ℕ) → m ≡ 0 → path t m ≡ 47 ∷ []
  path_root zero h = refl
  path_root (suc m) h = absurd (let z : ⊥ = omega arith in z)

  pub path_other : (m : ℕ) → (m ≡ 0 → ⊥) → path t m ≡ spell t m m
  path_other zero n = absurd (n refl)
  path_other (suc m) n = refl

-- ---- the node with a path

module _ (b : Block) (ws : List ℕ) (count : ℕ) (p : Bytes) where
  abbrev tree : Tree
  tree = tree_in b ws count

  -- node i has the path
  abbrev pub fits : ℕ → Bool
  fits i = same (path tree i) p

  -- a search that has come to node i
  abbrev among_from : ℕ → math.Option ℕ
  among_from i = node_among (frame tree) p (numbers_from i (count - i))

  among_all : node_at (frame tree) p ≡ among_from 0
  among_all = rw (tree_length b ws count 0, sub-zero count)

  module _ (i : ℕ) where
    among_end : count ≤ i → among_from i ≡ math.none
    unfolding node_among numbers_from
    among_end h = let e : count - i ≡ 0 = omega arith in rw e

    numbers_step : i < count → numbers_from i (count - i) ≡ i ∷ numbers_from (i + 1) (count - (i + 1))
    unfolding numbers_from
    numbers_step h = let e : count - i ≡ suc (count - (i + 1)) = omega arith in rw (e, add-one i)

    among_here : i < count → fits i ≡ true → among_from i ≡ math.some i
    unfolding node_among
    among_here h e = rw (numbers_step h, node_among, e)

    among_past : i < count → fits i ≡ false → among_from i ≡ among_from (i + 1)
    unfolding node_among
    among_past h e = rw (numbers_step h, node_among, e)

  abbrev pub Passed : ℕ → Type 0
  Passed i = (k : ℕ) → 0 ≤ k → k < i → fits k ≡ false

  past : (i : ℕ) → i ≤ count → Passed i → among_from 0 ≡ among_from i
  past zero h f = refl
  past (suc i) h f =
      past i (omega arith) (λ k z l. f k z (omega arith)) ∙ among_past i (omega arith) (f i (omega arith) (omega arith)) ∙ ap among_from (add-one i)

  -- the first node that has it is the node
  pub first_fits : (r : Option ℕ) → MatchOption r (Passed count) (λ i. (0 ≤ i) × (i < count) × (fits i ≡ true) × Passed i) → found r ≡ node_at (frame tree) p
  first_fits None f = sym (among_all ∙ past count (omega arith) f ∙ among_end count (omega arith))
  first_fits (Some i) f = sym (among_all ∙ past i (omega (arith, f.1)) f.3 ∙ among_here i f.1 f.2)
