-- The laws of the tree that a node table and its structure say, node by node.
use Rattle.std.specs.Prelude.{◌≡◌, refl, List, ◌∷◌, length, get_or}
use Rattle.std.proofs.Common.{sym, ◌∙◌, add-zero}
use Rattle.std.proofs.Math.Path.{ap}
use Rattle.std.proofs.Math.Option
use Rattle.std.proofs.Math.Option.{Option, none, some}
use Prim.Native.Nat.{ℕ, zero, suc, ◌+◌, ◌-◌, ◌≤◌, ◌<◌}
use Rattle.std.proofs.Math.Nat.{sub-zero}
use native.Mathlib.Omega.{arith}
use Rattle.std.proofs.Math.Numerals.{add-one}
use Rattle.std.proofs.Math.ListN.{length-map, get_or-eq_default}
use borrow.Author.Tests.{eq-eqb, ne_eqb}
use Rattle.rules.specs.Octets.{Bytes}
use Rattle.rules.specs.Blob.{Block}
use Rattle.rules.specs.Tree.{Tree, node, nowhere, numbers_from}
use Rattle.rules.specs.References.{Rules, place_of, cell_count}
use Rattle.rules.proofs.Laws.Lists.{length_numbers, map_at}
use Rattle.rules.proofs.Laws.References.{by_option, place_of_lt}
use Rattle.rules.specs.Laws.Tabled.{cell, node_in, tree_in, phandle_in, phandles_from, look_in, count_named}

-- ---- a node

pub number_at : (from n i : ℕ) → i < n → get_or (numbers_from from n) i 0 ≡ from + i
unfolding numbers_from
number_at from zero i h = absurd (let z : ⊥ = omega arith in z)
number_at from (suc n) zero h = sym (add-zero from)
number_at from (suc n) (suc i) h = number_at (suc from) n i (omega arith) ∙ omega arith

module _ (b : Block) (ws : List ℕ) (count i : ℕ) where
  pub tree_length : length (tree_in b ws count) ≡ count
  unfolding tree_in
  tree_length = length-map (numbers_from 0 count) (node_in b ws) ∙ length_numbers 0 count

  pub node_in_lem : i < count → node (tree_in b ws count) i ≡ node_in b ws i
  unfolding tree_in
  node_in_lem h =
      map_at (node_in b ws) (numbers_from 0 count) i 0 nowhere (omega (arith, length_numbers 0 count))
      ∙ ap (node_in b ws) (number_at 0 count i h ∙ omega arith)

  pub node_out : count ≤ i → node (tree_in b ws count) i ≡ nowhere
  node_out h = get_or-eq_default (tree_in b ws count) nowhere (omega (arith, tree_length))

-- ---- phandles

-- a place counted from i on
abbrev pub behind : ℕ → Option ℕ → Option ℕ
behind i none = none
behind i (some k) = some (i + k)

-- a search that has come to row i
unfoldable pub look_from : (words : List ℕ) (count phandle i : ℕ) → Option ℕ
look_from ws count w i = behind i (place_of w (phandles_from ws i (count - i)))

behind_zero : (o : Option ℕ) → behind 0 o ≡ o
behind_zero none = refl
behind_zero (some k) = ap {B = Option ℕ} some (omega arith)

behind_suc : (i : ℕ) (o : Option ℕ) → behind i (Option.map suc o) ≡ behind (i + 1) o
behind_suc i none = refl
behind_suc i (some k) = ap {B = Option ℕ} some (omega arith)

-- what is found is a row
pub look_small : (ws : List ℕ) (count w m : ℕ) → look_in ws count w ≡ some m → m < count
unfolding look_in phandles_from
look_small ws count w m e =
    omega (arith, place_of_lt w (phandles_from ws 0 count) m e, length-map (numbers_from 0 count) (phandle_in ws), length_numbers 0 count)

module _ (ws : List ℕ) (count w : ℕ) where
  pub look_all : look_in ws count w ≡ look_from ws count w 0
  unfolding look_in look_from
  look_all = rw (sub-zero count) (sym (behind_zero (place_of w (phandles_from ws 0 count))))

  module _ (i : ℕ) where
    pub look_end : count ≤ i → look_from ws count w i ≡ none
    unfolding look_from phandles_from numbers_from place_of
    look_end h = let e : count - i ≡ 0 = omega arith in rw e

    from_step : i < count → phandles_from ws i (count - i) ≡ phandle_in ws i ∷ phandles_from ws (i + 1) (count - (i + 1))
    unfolding phandles_from numbers_from
    from_step h = let e : count - i ≡ suc (count - (i + 1)) = omega arith in rw (e, add-one i)

    pub look_bare : i < count → (cell ws i 2 ≡ 1 → ⊥) → look_from ws count w i ≡ look_from ws count w (i + 1)
    unfolding look_from place_of
    look_bare h k =
        rw (from_step h, ne_eqb (cell ws i 2) 1 k) (behind_suc i (place_of w (phandles_from ws (i + 1) (count - (i + 1)))))

    pub look_other : i < count → cell ws i 2 ≡ 1 → (w ≡ cell ws i 3 → ⊥) → look_from ws count w i ≡ look_from ws count w (i + 1)
    unfolding look_from place_of
    look_other h k ne =
        rw (from_step h, eq-eqb (cell ws i 2) 1 k, ne_eqb w (cell ws i 3) ne, place_of)
        (behind_suc i (place_of w (phandles_from ws (i + 1) (count - (i + 1)))))

    pub look_here : i < count → cell ws i 2 ≡ 1 → w ≡ cell ws i 3 → look_from ws count w i ≡ some i
    unfolding look_from place_of
    look_here h k e =
        rw (from_step h, eq-eqb (cell ws i 2) 1 k, eq-eqb w (cell ws i 3) e, place_of) (ap {B = Option ℕ} some (add-zero i))

-- ---- cells

pub count_named_lem : (r : Rules) (t : Tree) (name : Bytes) (m : ℕ) → cell_count r t name m ≡ count_named (r.cells_name name) (node t m).props
unfolding cell_count count_named
count_named_lem r t name m = by_option (r.cells_name name) (λ e. rw (e, cell_count)) (λ s e. rw (e, cell_count))
