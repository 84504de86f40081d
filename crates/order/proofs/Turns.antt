-- The start nodes, from the last number down: one turn of the loop that puts them in order.
use mathlib.Core.Path.{◌≡◌, refl, sym, ap, ◌∙◌}
use mathlib.Core.Bool.{true, false}
use mathlib.Core.List.{List, [], ◌∷◌, ◌++◌}
use Prim.Native.Nat.{ℕ, suc, ◌+◌, ◌-◌, ◌≤◌, ◌<◌}
use native.Mathlib.Nat.{sub-zero}
use native.Mathlib.Numerals.{add-one}
use native.Mathlib.Omega.{arith}
use lib.ListN.{length, get_or, take, drop}
use Rattle.rules.specs.Octets.{lay}
use Rattle.rules.specs.Lists.{keep, insert, sort}
use Rattle.rules.specs.Blob.{Block}
use Rattle.rules.specs.Tree.{Tree, frame, path, numbers_from}
use Rattle.rules.specs.Listing.{◌∈◌, starts, within}
use Rattle.rules.specs.Space.{table_words, stack_at}
use Rattle.rules.proofs.Laws.Lists.{keep_of, keep_yes, keep_no, numbers_mem, mem_at}
use Rattle.rules.proofs.Laws.Order.{Ascending, sort_of, insert_at, insert_length, ascending_at}
use Rattle.rules.specs.Laws.Paths.{Formed}
use Rattle.rules.proofs.Laws.Starts.{sorted_ascending, starts_within}
use Rattle.rules.specs.Laws.Tabled.{tree_in}
use Rattle.rules.proofs.Laws.Tabled.{tree_length}
use Rattle.rules.proofs.Laws.Octets.{lay_nil}
use Rattle.rules.proofs.Laws.Kept.{tree_alike, lay_alike, marks_behind, list_behind, stack_behind}
use Rattle.order.specs.Region.{nth_node, Ordered, Between, inserted}
use Rattle.order.specs.Starts.{Asked, starts_from, Placed, Started}
use Rattle.order.proofs.Regions.{room, laid_at, laid_insert}

-- ---- the start nodes of number i or more

module _ (t : Tree) (conf : List ℕ) (count : ℕ) where
  from_none : starts_from t conf count count ≡ []
  unfolding starts_from numbers_from keep sort
  from_none = let e : count - count ≡ 0 = omega arith in rw e

  module _ (i : ℕ) (h : i < count) where
    from_step : numbers_from i (count - i) ≡ i ∷ numbers_from (i + 1) (count - (i + 1))
    unfolding numbers_from
    from_step = let e : count - i ≡ suc (count - (i + 1)) = omega arith in rw (e, add-one i)

    from_skip : within (frame t) conf i ≡ false → starts_from t conf count i ≡ starts_from t conf count (i + 1)
    unfolding starts_from
    from_skip e = rw from_step (ap (sort (path t)) (keep_no (within (frame t) conf) i _ e))

    from_take : within (frame t) conf i ≡ true → starts_from t conf count i ≡ insert (path t) i (starts_from t conf count (i + 1))
    unfolding starts_from sort
    from_take e = rw from_step (ap (sort (path t)) (keep_yes (within (frame t) conf) i _ e))

-- ---- a work space that keeps the table

pub table_behind : table_words ≤ stack_at
table_behind = omega (arith, marks_behind, list_behind, stack_behind)

module _ (b : Block) (ws : List ℕ) (count : ℕ) (conf : List ℕ) (a : Asked b ws count conf) where
  abbrev t : Tree
  t = tree_in b ws count

  size : length t ≡ count
  size = tree_length b ws count 0

  small : (x : ℕ) → x ∈ conf → x < length t
  small x m = omega (arith, a.small x m, size)

  pub placed_start : Placed b ws count conf count 0 ws
  placed_start = rw (from_none t conf count) (record { many = refl; laid = sym (lay_nil ws stack_at) })

  pub placed_done : (n : ℕ) (vs : List ℕ) → Placed b ws count conf 0 n vs → Started b ws count conf n vs
  unfolding starts_from
  placed_done n vs p =
      let e : starts_from t conf count 0 ≡ starts (frame t) conf =
      ap (λ (k : ℕ). sort (path t) (keep (within (frame t) conf) (numbers_from 0 k))) (sub-zero count ∙ sym size)
      ∙ sym (starts_within t a.kept.formed conf a.once small) in
      rw e at p

  from_small : (i x : ℕ) → i ≤ count → x ∈ numbers_from i (count - i) → x < length t
  from_small i x h m = omega (arith, (numbers_mem i (count - i) x m).1, size)

  module _ (i n : ℕ) (vs : List ℕ) (h : i < count) (m : n < count) (p : Placed b ws count conf (i + 1) n vs) where
    abbrev later : List ℕ
    later = starts_from t conf count (i + 1)

    -- the tree that the work space says is the tree
    pub tree_kept : tree_in b vs count ≡ t
    tree_kept =
        ap (λ (us : List ℕ). tree_in b us count) p.laid
        ∙ tree_alike b ws (lay ws stack_at (starts_from t conf count (i + 1))) count a.kept.few (lay_alike ws stack_at (starts_from t conf count (i + 1)) table_behind)

    pub formed_kept : Formed (tree_in b vs count)
    formed_kept = rw tree_kept a.kept.formed

    inside : stack_at + length later ≤ length ws
    inside = omega (arith, p.many, m, a.kept.few, a.kept.room, room)

    rising : Ascending (path t) later
    unfolding starts_from
    rising = sorted_ascending t a.kept.formed conf a.once small (within (frame t) conf) (i + 1) (count - (i + 1)) (λ x k. from_small (i + 1) x (omega arith) k)

    later_small : (x : ℕ) → x ∈ later → x < length t
    unfolding starts_from
    later_small x k =
        from_small (i + 1) x (omega arith)
        (keep_of (within (frame t) conf) (numbers_from (i + 1) (count - (i + 1))) x (sort_of (path t) (keep (within (frame t) conf) (numbers_from (i + 1) (count - (i + 1)))) x k)).0

    node_later : (k : ℕ) → k < n → nth_node vs k ≡ get_or later k 0
    node_later k l = rw p.laid (laid_at ws later inside k (omega (arith, p.many)))

    pub ordered_kept : Ordered (tree_in b vs count) vs n
    ordered_kept = rw tree_kept (record {
      small = λ k l. rw (node_later k l) (later_small (get_or later k 0) (mem_at later k 0 (omega (arith, p.many))));
      rising = λ k j g l. rw (node_later k (omega arith), node_later j l) (ascending_at (path t) rising 0 k j g (omega (arith, p.many)));
    })

    pub turn_skip : false ≡ within (frame (tree_in b vs count)) conf i → Placed b ws count conf i n vs
    turn_skip e = rw (from_skip t conf count i h (ap (λ (u : Tree). within (frame u) conf i) (sym tree_kept) ∙ sym e)) p

    module _ (at : ℕ) (us : List ℕ) (few : at ≤ n) (found : Between (tree_in b vs count) vs n i at at) (e : us ≡ inserted vs n at i) where
      found-kept : Between t vs n i at at
      found-kept = rw tree_kept at found

      inserts : insert (path t) i later ≡ take at later ++ (i ∷ drop at later)
      inserts = insert_at (path t) i 0 later at
          (λ k l. rw (node_later k (omega arith)) at (found-kept.lower k l))
          (λ l. rw (node_later at (omega (arith, p.many))) at (found-kept.upper at (omega arith) (omega (arith, p.many))))

      lays : inserted vs n at i ≡ lay ws stack_at (insert (path t) i later)
      lays = rw (p.laid, p.many, inserts) (laid_insert ws later inside at i (omega (arith, p.many)))

      pub turn-take : true ≡ within (frame (tree_in b vs count)) conf i → Placed b ws count conf i (n + 1) us
      turn-take w =
          rw (from_take t conf count i h (ap (λ (u : Tree). within (frame u) conf i) (sym tree_kept) ∙ sym w))
          (record { many = omega (arith, p.many, insert_length (path t) i later); laid = e ∙ lays })
