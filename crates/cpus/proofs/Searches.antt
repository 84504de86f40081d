-- The tests of the CPU rule one by one, and the searches over nodes and ids, turn by turn.
use mathlib.Core.Path.{◌≡◌, refl, sym, ap, ap₂, ◌∙◌}
use mathlib.Core.Bool.{Bool, true, false, ◌&&◌, ◌||◌}
use mathlib.Core.List.{List, [], ◌∷◌}
use mathlib.Core.Option.{Option}
use Prim.Native.Nat.{ℕ, zero, suc, ◌+◌, ◌-◌, ◌≤◌, ◌<◌}
use native.Mathlib.Omega.{arith}
use native.Mathlib.Numerals.{add-one}
use lib.Dec.{eqb}
use lib.ListN.{length, get_or, drop, drop_of_length-le}
use lib.Seq.{drop-cons}
use Rattle.std.specs.Prelude as lent
use Rattle.std.specs.Option.{option_eq}
use Rattle.std.specs.List.{list_any, range_with_len}
use Rattle.rules.proofs.Laws.Tests.{eqb_sym}
use Rattle.rules.specs.Lists.{one_of, any}
use Rattle.rules.specs.Outcome.{passes, refuses}
use Rattle.rules.specs.Blob.{Block, missing}
use Rattle.rules.specs.Tree.{Node, Tree, node, frame, numbers, numbers_from}
use Rattle.rules.specs.Copy.{cpu_child, reg_of, is_id}
use Rattle.rules.specs.Derivation.{cpus_from, met, ids_from}
use Rattle.rules.specs.Laws.Tabled.{cell, tree_in}
use Rattle.cpus.specs.Registers.{meaning}
use Rattle.rules.proofs.Laws.Tabled.{tree_length, node_in_lem}

-- ---- the ids

split : (ids : List ℕ) (k : ℕ) → k < length ids → drop k ids ≡ get_or ids k 0 ∷ drop (k + 1) ids
split ids k h = rw (add-one k) (drop-cons ids k 0 h)

-- one of one
pub one_only : (n id : ℕ) → eqb n id ≡ one_of n (id ∷ [])
unfolding one_of
one_only n id = by (eqb n id)
  where
    by : (a : Bool) → a ≡ (a || false)
    by true = refl
    by false = refl

-- a register that is there and says this
pub read_one : (o : lent.Option ℕ) (id : ℕ) → option_eq eqb o (lent.Some id) ≡ is_id (id ∷ []) (meaning o)
read_one lent.None id = refl
read_one (lent.Some n) id = one_only n id

-- a slice's own search
pub contains_one : (n : ℕ) (ids : List ℕ) → list_any (λ (id : ℕ). eqb id n) ids ≡ one_of n ids
unfolding one_of
contains_one n [] = refl
contains_one n (id ∷ ids) = ap₂ (λ (p q : Bool). p || q) (eqb_sym id n) (contains_one n ids)

-- ---- a CPU child and its register

module _ (a : Bool) (test : Option ℕ → Bool) (o : Option ℕ) where
  -- where it is no child
  pub no_child : a ≡ false → (a && test o) ≡ false
  no_child e = rw e

  -- where it is one, and its register is this
  pub the_child : a ≡ true → (p : Option ℕ) → p ≡ o → (r : Bool) → r ≡ test p → r ≡ (a && test o)
  the_child e p f r g = g ∙ ap test f ∙ rw e

-- ---- 43

module _ (t : Tree) (i n : ℕ) where
  pub cpus_here : (place : ℕ) → place ≡ (node t i).place → (cpu_child (frame t) i && missing (reg_of (node t i))) ≡ true → refuses 43 place ≡ cpus_from t (numbers_from i (suc n))
  unfolding cpus_from numbers_from
  cpus_here place p e = rw (e, p)

  pub cpus_past : (cpu_child (frame t) i && missing (reg_of (node t i))) ≡ false → cpus_from t (numbers_from i (suc n)) ≡ cpus_from t (numbers_from (suc i) n)
  unfolding cpus_from numbers_from
  cpus_past e = rw e

pub cpus_end : (t : Tree) (i : ℕ) → cpus_from t (numbers_from i 0) ≡ passes
unfolding cpus_from numbers_from
cpus_end t i = refl

-- ---- 44

-- a search over a range is one over its numbers
range_any : (f : ℕ → Bool) (i n : ℕ) → list_any f (range_with_len i n) ≡ any f (numbers_from i n)
unfolding any numbers_from
range_any f i zero = refl
range_any f i (suc n) = ap (λ (q : Bool). f i || q) (range_any f (i + 1) n ∙ ap (λ (k : ℕ). any f (numbers_from k n)) (add-one i))

module _ (t : Tree) (ids : List ℕ) (k : ℕ) (h : k < length ids) where
  pub ids_unmet : met t (get_or ids k 0) ≡ false → refuses 44 k ≡ ids_from t k (drop k ids)
  unfolding ids_from
  ids_unmet e = rw (split ids k h, e)

  pub ids_met : met t (get_or ids k 0) ≡ true → ids_from t k (drop k ids) ≡ ids_from t (k + 1) (drop (k + 1) ids)
  unfolding ids_from
  ids_met e = rw (split ids k h, e, add-one k)

pub ids_end : (t : Tree) (ids : List ℕ) (k : ℕ) → length ids ≤ k → passes ≡ ids_from t k (drop k ids)
unfolding ids_from
ids_end t ids k h = rw (drop_of_length-le ids {i = k} h)

-- ---- the same over the node table

module _ (b : Block) (ws : List ℕ) (count : ℕ) where
  abbrev tree : Tree
  tree = tree_in b ws count

  module _ (i : ℕ) (h : i < count) where
    one_more : count - i ≡ suc (count - (i + 1))
    one_more = omega arith

    pub cpus_stop : cpus_from tree (numbers_from 0 count) ≡ cpus_from tree (numbers_from i (count - i)) → (place : ℕ) → place ≡ cell ws i 0
        → (cpu_child (frame tree) i && missing (reg_of (node tree i))) ≡ true → refuses 43 place ≡ cpus_from tree (numbers (frame tree))
    cpus_stop inv place p e =
        cpus_here tree i (count - (i + 1)) place (p ∙ ap (λ (n : Node). n.place) (sym (node_in_lem b ws count i h))) e
        ∙ ap (λ (n : ℕ). cpus_from tree (numbers_from i n)) (sym one_more)
        ∙ sym inv
        ∙ ap (λ (n : ℕ). cpus_from tree (numbers_from 0 n)) (sym (tree_length b ws count 0))

    pub cpus_on : cpus_from tree (numbers_from 0 count) ≡ cpus_from tree (numbers_from i (count - i)) → (cpu_child (frame tree) i && missing (reg_of (node tree i))) ≡ false
        → cpus_from tree (numbers_from 0 count) ≡ cpus_from tree (numbers_from (i + 1) (count - (i + 1)))
    cpus_on inv e =
        inv ∙ ap (λ (n : ℕ). cpus_from tree (numbers_from i n)) one_more ∙ cpus_past tree i (count - (i + 1)) e
        ∙ ap (λ (k : ℕ). cpus_from tree (numbers_from k (count - (i + 1)))) (sym (add-one i))

  pub cpus_last : (i : ℕ) → count ≤ i → cpus_from tree (numbers_from 0 count) ≡ cpus_from tree (numbers_from i (count - i)) → passes ≡ cpus_from tree (numbers (frame tree))
  cpus_last i h inv =
      let z : count - i ≡ 0 = omega arith in
      sym (cpus_end tree i) ∙ ap (λ (n : ℕ). cpus_from tree (numbers_from i n)) (sym z) ∙ sym inv
      ∙ ap (λ (n : ℕ). cpus_from tree (numbers_from 0 n)) (sym (tree_length b ws count 0))

  pub met_any : (id : ℕ) → list_any (λ (i : ℕ). cpu_child (frame tree) i && is_id (id ∷ []) (reg_of (node tree i))) (range_with_len 0 count) ≡ met tree id
  unfolding met
  met_any id =
      range_any (λ (i : ℕ). cpu_child (frame tree) i && is_id (id ∷ []) (reg_of (node tree i))) 0 count
      ∙ ap (λ (n : ℕ). any (λ (i : ℕ). cpu_child (frame tree) i && is_id (id ∷ []) (reg_of (node tree i))) (numbers_from 0 n)) (sym (tree_length b ws count 0))
