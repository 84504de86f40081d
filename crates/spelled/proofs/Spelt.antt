-- A list grows by a path at a time, and no path is longer than the ceilings let it be.
use mathlib.Core.Path.{◌≡◌, refl, sym, ap, ◌∙◌}
use mathlib.Core.List.{List, [], ◌∷◌, ◌++◌, map, append-nil, append_assoc}
use Prim.Native.Nat.{ℕ, zero, suc, ◌+◌, ◌*◌, ◌≤◌, ◌<◌}
use native.Mathlib.Omega.{arith}
use native.Mathlib.Nat.{zero-add, mul-le-mul_right}
use native.Mathlib.Numerals.{add-one}
use lib.ListN.{length, get_or, take, drop, length-append, length-take}
use lib.Seq.{take-suc}
use Rattle.std.proofs.Common.{take_all}
use Rattle.rules.specs.Ceilings.{blob_ceiling, node_ceiling, work_words}
use Rattle.rules.specs.Octets.{Bytes, closed, lay}
use Rattle.rules.specs.Blob.{Block}
use Rattle.rules.specs.Tree.{Tree, node, path, spell}
use Rattle.rules.specs.Listing.{paths_bytes}
use Rattle.rules.specs.Laws.Constants.{LIST_AT}
use Rattle.rules.specs.Space.{list_at}
use Rattle.rules.proofs.Laws.Constants.{list_at_lem}
use Rattle.rules.proofs.Laws.Tests.{by_le}
use Rattle.rules.proofs.Laws.Octets.{lay_lay}
use Rattle.rules.proofs.Laws.Kept.{stack_behind, names_behind, names_inside, longest, paths_counted}
use Rattle.rules.specs.Laws.Tabled.{tree_in}
use Rattle.paths.proofs.Spellings.{name_short, path_out}
use Rattle.spelled.specs.Lists.{list_bytes}

-- ---- lengths

-- as many times or more, and once more
more_times : (k n x : ℕ) → k ≤ n → k * x ≤ n * x
more_times k n x h = mul-le-mul_right x h

once_more : (k x len n : ℕ) → len ≤ k * x → n < x → len + (n + 1) ≤ (k + 1) * x
once_more k x len n l m = rw (add-one k) (omega arith)

up_to : {a b c d : ℕ} → a ≤ b → b ≤ c → c < d → a < d
up_to p q r = omega arith

module _ (b : Block) (ws : List ℕ) (count : ℕ) (h : length b.structure ≤ blob_ceiling) where
  spell_short : (k m : ℕ) → length (spell (tree_in b ws count) k m) ≤ k * (blob_ceiling + 1)
  unfolding spell
  spell_short zero m = omega arith
  spell_short (suc k) zero = omega arith
  spell_short (suc k) (suc m) =
      let t : Tree = tree_in b ws count in
      simp length-append (omega (arith, spell_short k (node t (suc m)).parent, name_short b ws count (suc m), h))

  pub path_short : count ≤ node_ceiling → (i : ℕ) → length (path (tree_in b ws count) i) ≤ longest
  path_short f zero = omega arith
  path_short f (suc m) = by_le count (suc m)
      (λ l. omega (arith, ap length (path_out b ws count (suc m) (λ e. omega arith) l)))
      (λ l. omega (arith, spell_short (suc m) (suc m), more_times (suc m) node_ceiling (blob_ceiling + 1) (omega arith)))

-- as many paths as there are nodes at the most, each closed by NUL, and one more: how long they are, and that they are counted
module _ (k len n : ℕ) (h : k < node_ceiling) (l : len ≤ k * (longest + 1)) (m : n ≤ longest) where
  pub sum_more : len + (n + 1) ≤ (k + 1) * (longest + 1)
  sum_more = once_more k (longest + 1) len n l (omega arith)

  pub sum_fits : len + (n + 1) < 18446744073709551616
  sum_fits = up_to sum_more (more_times (k + 1) node_ceiling (longest + 1) (omega arith)) paths_counted

-- ---- the list, path by path

map_last : (t : Tree) (l : List ℕ) (x : ℕ) → paths_bytes (map (path t) (l ++ (x ∷ []))) ≡ paths_bytes (map (path t) l) ++ closed (path t x)
unfolding paths_bytes
map_last t [] x = append-nil (closed (path t x))
map_last t (y ∷ l) x = rw (map_last t l x) (sym (append_assoc (closed (path t y)) (paths_bytes (map (path t) l)) (closed (path t x))))

-- the paths of the first k of these nodes
abbrev pub first_paths : Tree → List ℕ → (k : ℕ) → Bytes
first_paths t xs k = paths_bytes (map (path t) (take k xs))

module _ (t : Tree) (xs : List ℕ) (k : ℕ) (h : k < length xs) (i : ℕ) (e : i ≡ get_or xs k 0) where
  bytes_more : first_paths t xs (k + 1) ≡ first_paths t xs k ++ closed (path t i)
  bytes_more =
      ap (λ (l : List ℕ). paths_bytes (map (path t) l)) (rw (add-one k, e) (take-suc xs k 0 h)) ∙ map_last t (take k xs) i

  pub length_more : (len n : ℕ) → len ≡ length (first_paths t xs k) → n ≡ length (path t i) → len + (n + 1) ≡ length (first_paths t xs (k + 1))
  length_more len n f g =
      let q : length (first_paths t xs (k + 1)) ≡ length (first_paths t xs k) + length (closed (path t i)) = ap length bytes_more ∙ length-append (first_paths t xs k) (closed (path t i)) in
      let c : length (closed (path t i)) ≡ length (path t i) + 1 = length-append (path t i) (0 ∷ []) in
      omega arith

  pub laid_more : (old new newer : Bytes) (at : ℕ) → at ≡ length (first_paths t xs k) → new ≡ lay old 0 (first_paths t xs k) → newer ≡ lay new at (closed (path t i)) → newer ≡ lay old 0 (first_paths t xs (k + 1))
  laid_more old new newer at f g l =
      l ∙ rw (g, f, bytes_more) (ap (λ (a : ℕ). lay (lay old 0 (first_paths t xs k)) a (closed (path t i))) (sym (zero-add (length (first_paths t xs k)))) ∙ lay_lay old 0 (first_paths t xs k) (closed (path t i)))

pub paths_none : (t : Tree) (xs : List ℕ) → first_paths t xs 0 ≡ []
unfolding paths_bytes
paths_none t xs = refl

-- ---- the nodes listed, as they stand in the work space

-- they stand inside it
pub listed_inside : (n len : ℕ) → n ≤ node_ceiling → work_words ≤ len → LIST_AT + n ≤ len
listed_inside n len h l = omega (arith, stack_behind, names_behind, names_inside, list_at_lem)

module _ (t : Tree) (ws : List ℕ) (n : ℕ) (xs : List ℕ) (e : xs ≡ take n (drop list_at ws)) where
  pub listed_few : length xs ≤ n
  listed_few = omega (arith, ap length e, length-take n (drop list_at ws))

  pub paths_all : (k : ℕ) → length xs ≤ k → first_paths t xs k ≡ list_bytes t ws n
  paths_all k h = ap (λ (l : List ℕ). paths_bytes (map (path t) l)) (take_all k xs h ∙ e)
