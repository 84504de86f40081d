-- Marks: cleared, set one by one, and set along the way up from a node.
use mathlib.Core.Path.{◌≡◌, refl, sym, ap, ap₂, ◌∙◌}
use mathlib.Core.Logic.{◌⊎◌, inl, inr}
use mathlib.Core.Bool.{Bool, true, false, ◌||◌}
use mathlib.Core.List.{List, [], ◌∷◌, ◌++◌}
use Prim.Native.Nat.{ℕ, zero, suc, ◌+◌, ◌-◌, ◌≤◌, ◌<◌}
use native.Mathlib.Omega.{arith}
use native.Mathlib.Numerals.{add-one}
use lib.Dec.{eqb}
use lib.ListN.{length, get_or, drop, length-take, length-drop}
use lib.Seq.{take-suc, get_or-drop, get_or-take, ext_get_or}
use borrow.Author.Tests.{eqb-true, eqb-false}
use Rattle.rules.specs.Ceilings.{node_ceiling, work_words}
use Rattle.rules.specs.Octets.{lay, zeros}
use Rattle.rules.specs.Blob.{Block}
use Rattle.rules.specs.Lists.{one_of, any}
use Rattle.rules.specs.Tree.{Node, Tree, node, below, climb}
use Rattle.rules.specs.Space.{table_words, marks_at, list_at, names_at, list_in}
use Rattle.rules.proofs.Laws.Tests.{by_test, eqb_sym, or_nothing, or_comm}
use Rattle.rules.proofs.Laws.Octets.{lay_one_same, lay_one_other}
use Rattle.rules.proofs.Laws.Lists.{one_any, any_last}
use Rattle.rules.specs.Laws.Kept.{Only}
use Rattle.rules.proofs.Laws.Kept.{only_none, only_then, only_wide, only_one, only_zeros, only_tree, only_kept, zeros_at, marks_behind, list_behind, stack_behind, names_behind, names_room}
use Rattle.rules.specs.Laws.Tabled.{tree_in}
use Rattle.rules.proofs.Laws.Tabled.{tree_length, node_in_lem}
use Rattle.picks.specs.Marks.{marked, Listed, Keeps, Unmarked, Noted}

-- ---- one word

-- a mark that is set, and the others
module _ (ws : List ℕ) (at x : ℕ) (h : at + x < length ws) where
  pub marked_set : (y : ℕ) → marked (lay ws (at + x) (1 ∷ [])) at y ≡ (eqb y x || marked ws at y)
  marked_set y = by_test (eqb y x)
      (λ e. let q : y ≡ x = eqb-true y x e in rw (e, q, lay_one_same ws (at + x) 1 0 h))
      (λ e. rw (e, lay_one_other ws (at + x) 1 0 (at + y) (λ q. eqb-false y x e (omega arith))))

-- ---- the way up

or_turn : (a b c d : Bool) → a ≡ d → ((a || b) || c) ≡ (b || (d || c))
or_turn true true c d e = refl
or_turn true false c d e = rw (← e)
or_turn false true c d e = refl
or_turn false false c d e = rw (← e)

climb_zero : (t : Tree) (left p : ℕ) → climb t left p 0 ≡ false
unfolding climb
climb_zero t zero p = refl
climb_zero t (suc left) p = refl

climb_step : (t : Tree) (left p at : ℕ) → 0 < left → 0 < at → climb t left p at ≡ (eqb (node t at).parent p || climb t (left - 1) p (node t at).parent)
unfolding climb
climb_step t zero p at h g = absurd (let z : ⊥ = omega arith in z)
climb_step t (suc left) p zero h g = absurd (let z : ⊥ = omega arith in z)
climb_step t (suc left) p (suc at) h g = let e : suc left - 1 ≡ left = omega arith in rw e

-- a node's parent is said by the table, whatever the block
pub parent_any : (a b : Block) (ws : List ℕ) (count i : ℕ) → i < count → (node (tree_in a ws count) i).parent ≡ (node (tree_in b ws count) i).parent
parent_any a b ws count i h = ap (λ (n : Node). n.parent) (node_in_lem a ws count i h) ∙ ap (λ (n : Node). n.parent) (sym (node_in_lem b ws count i h))

pub record Climbing (count : ℕ) (ws vs : List ℕ) (j left at : ℕ) : Type 0 where
  pub only : Only names_at work_words ws vs
  pub inside : at < count
  pub marks : (b : Block) (x : ℕ) → x < count → (marked vs names_at x || climb (tree_in b ws count) left x at) ≡ (marked ws names_at x || below (tree_in b ws count) x j)

module _ (count : ℕ) (ws : List ℕ) (k : Keeps ws count) where
  table_names : table_words ≤ names_at
  table_names = omega (arith, marks_behind, list_behind, stack_behind, names_behind)

  -- a parent's number is smaller, for any block
  pub parent_less : (b : Block) (vs : List ℕ) → Only names_at work_words ws vs → (at : ℕ) → 0 < at → at < count → (node (tree_in b vs count) at).parent < at
  parent_less b vs o zero g h = absurd (let z : ⊥ = omega arith in z)
  parent_less b vs o (suc at) g h =
      let e : (node (tree_in b vs count) (suc at)).parent ≡ (node (tree_in k.0 vs count) (suc at)).parent =
      parent_any b k.0 vs count (suc at) h in
      let f : (node (tree_in k.0 vs count) (suc at)).parent ≡ (node (tree_in k.0 ws count) (suc at)).parent =
      ap (λ (t : Tree). (node t (suc at)).parent) (only_tree k.0 count table_names k.1.few o) in
      omega (arith, k.1.formed.up at (omega (arith, tree_length k.0 ws count 0)), e, f)

  module _ (vs : List ℕ) (j left at : ℕ) (c : Climbing count ws vs j left at) where
    pub climbing_done : (left ≡ 0) ⊎ (at ≡ 0) → (b : Block) (x : ℕ) → x < count → marked vs names_at x ≡ (marked ws names_at x || below (tree_in b ws count) x j)
    unfolding climb
    climbing_done (inl e) b x h = sym (or_nothing (marked vs names_at x)) ∙ rw e at (c.marks b x h)
    climbing_done (inr e) b x h =
        let z : climb (tree_in b ws count) left x at ≡ false = ap (climb (tree_in b ws count) left x) e ∙ climb_zero (tree_in b ws count) left x in
        sym (or_nothing (marked vs names_at x)) ∙ ap (λ (d : Bool). marked vs names_at x || d) (sym z) ∙ c.marks b x h

    -- the parent is a node below the ceiling
    pub up_small : 0 < at → (p : ℕ) → ((b : Block) → p ≡ (node (tree_in b vs count) at).parent) → p < node_ceiling
    up_small g p q = omega (arith, q k.0, parent_less k.0 vs c.only at g c.inside, c.inside, k.1.few)

    pub climbing_more : 0 < left → 0 < at → (p : ℕ) → ((b : Block) → p ≡ (node (tree_in b vs count) at).parent) → (us : List ℕ) → us ≡ lay vs (names_at + p) (1 ∷ [])
        → Climbing count ws us j (left - 1) p
    climbing_more h g p q us e = record {
      only = only_then c.only (rw e (only_one vs (names_at + p) 1 (omega arith) (omega (arith, names_room, less, few))));
      inside = omega (arith, less);
      marks = λ b x l.
          let t : Tree = tree_in b ws count in
          let u : p ≡ (node t at).parent = q b ∙ ap (λ (s : Tree). (node s at).parent) (only_tree b count table_names few c.only) in
          ap (λ (zs : List ℕ). marked zs names_at x || climb t (left - 1) x p) e
          ∙ ap (λ (d : Bool). d || climb t (left - 1) x p) (marked_set vs names_at p room x)
          ∙ or_turn (eqb x p) (marked vs names_at x) (climb t (left - 1) x p) (eqb p x) (eqb_sym x p)
          ∙ ap (λ (y : ℕ). marked vs names_at x || (eqb y x || climb t (left - 1) x y)) u
          ∙ ap (λ (d : Bool). marked vs names_at x || d) (sym (climb_step t left x at h g))
          ∙ c.marks b x l;
    }
      where
        few : count ≤ node_ceiling
        few = k.1.few

        less : p < at
        less = omega (arith, q k.0, parent_less k.0 vs c.only at g c.inside)

        room : names_at + p < length vs
        room = omega (arith, names_room, c.only.size, k.1.room, less, c.inside, few)

-- ---- the nodes of the list

list_more : (ws : List ℕ) (k : ℕ) → list_at + k < length ws → list_in ws (k + 1) ≡ list_in ws k ++ (get_or ws (list_at + k) 0 ∷ [])
unfolding list_in
list_more ws k h =
    rw (add-one k) (take-suc (drop list_at ws) k 0 (simp length-drop (omega arith)) ∙ ap (λ (x : ℕ). list_in ws k ++ (x ∷ [])) (get_or-drop list_at ws k 0))

module _ (count : ℕ) (ws : List ℕ) (keeps : Keeps ws count) where
  pub noted_first : Unmarked ws → Noted count ws ws (list_in ws 0)
  unfolding list_in one_of any
  noted_first u =
      let few : count ≤ node_ceiling = keeps.1.few in
      record {
        only = only_none ws;
        list = λ i g h. refl;
        own = λ x h. rw (u.own x (omega (arith, few)));
        over = λ b x h. rw (u.over x (omega (arith, few)));
      }

  module _ (vs : List ℕ) (k : ℕ) (n : Noted count ws vs (list_in ws k)) (small : k < node_ceiling) (j : ℕ) (e : j ≡ get_or vs (list_at + k) 0) (inside : get_or ws (list_at + k) 0 < count) where
    same_node : j ≡ get_or ws (list_at + k) 0
    same_node = e ∙ n.list (list_at + k) (omega arith) (omega (arith, stack_behind))

    pub node_inside : j < count
    node_inside = omega (arith, same_node, inside)

    -- the mark of the node itself leaves the table
    pub noted_keeps : Keeps (lay vs (marks_at + j) (1 ∷ [])) count
    noted_keeps = (keeps.0, only_kept keeps.0 count marks_behind (only_then n.only (only_one vs (marks_at + j) 1 (omega arith) (omega (arith, list_behind, stack_behind, names_behind, names_room, node_inside, keeps.1.few)))) keeps.1)

    more : (us : List ℕ) → Only names_at work_words (lay vs (marks_at + j) (1 ∷ [])) us
        → ((b : Block) (x : ℕ) → x < count → marked us names_at x ≡ (marked (lay vs (marks_at + j) (1 ∷ [])) names_at x || below (tree_in b (lay vs (marks_at + j) (1 ∷ [])) count) x j))
        → Noted count ws us (list_in ws (k + 1))
    more us o m = record {
      only = only_then first (only_wide (omega (arith, list_behind, stack_behind, names_behind)) (omega arith) o);
      list = λ i g h. o.before i (omega (arith, names_behind, h)) ∙ lay_one_other vs (marks_at + j) 1 0 i (λ q. omega (arith, list_behind, g, node_inside, few)) ∙ n.list i g h;
      own = λ x h.
          ap (λ (y : ℕ). eqb y 1) (o.before (marks_at + x) (omega (arith, list_behind, stack_behind, names_behind, few)))
          ∙ marked_set vs marks_at j room x
          ∙ ap (λ (d : Bool). eqb x j || d) (n.own x h ∙ one_any x (list_in ws k))
          ∙ sym (any_last (eqb x) (list_in ws k) j)
          ∙ ap (any (eqb x)) (sym grown)
          ∙ sym (one_any x (list_in ws (k + 1)));
      over = λ b x h.
          let t : Tree = tree_in b ws count in
          m b x h
          ∙ ap (λ (y : ℕ). eqb y 1 || below (tree_in b (lay vs (marks_at + j) (1 ∷ [])) count) x j) (lay_one_other vs (marks_at + j) 1 0 (names_at + x) (λ q. omega (arith, list_behind, stack_behind, names_behind, node_inside, few)))
          ∙ ap (λ (s : Tree). marked vs names_at x || below s x j) (only_tree b count marks_behind few first)
          ∙ ap (λ (d : Bool). d || below t x j) (n.over b x h)
          ∙ or_comm (any (below t x) (list_in ws k)) (below t x j)
          ∙ sym (any_last (below t x) (list_in ws k) j)
          ∙ ap (any (below t x)) (sym grown);
    }
      where
        few : count ≤ node_ceiling
        few = keeps.1.few

        room : marks_at + j < length vs
        room = omega (arith, list_behind, stack_behind, names_behind, names_room, n.only.size, keeps.1.room, node_inside, few)

        first : Only marks_at work_words ws (lay vs (marks_at + j) (1 ∷ []))
        first = only_then n.only (only_one vs (marks_at + j) 1 (omega arith) (omega (arith, list_behind, stack_behind, names_behind, names_room, node_inside, few)))

        grown : list_in ws (k + 1) ≡ list_in ws k ++ (j ∷ [])
        grown = list_more ws k (omega (arith, stack_behind, names_behind, names_room, keeps.1.room)) ∙ ap (λ (x : ℕ). list_in ws k ++ (x ∷ [])) (sym same_node)

    pub noted_more : (mid : List ℕ) → mid ≡ lay vs (marks_at + j) (1 ∷ []) → (us : List ℕ) → Only names_at work_words mid us
        → ((b : Block) (x : ℕ) → x < count → marked us names_at x ≡ (marked mid names_at x || below (tree_in b mid count) x j))
        → Noted count ws us (list_in ws (k + 1))
    noted_more mid d us o m = more us (rw (← d) o) (rw (← d) m)

-- ---- cleared first

module _ (count : ℕ) (ws : List ℕ) (keeps : Keeps ws count) (n : ℕ) (h : n ≤ node_ceiling) (vs us : List ℕ)
    (c : vs ≡ lay ws marks_at (zeros node_ceiling)) (d : us ≡ lay vs names_at (zeros node_ceiling)) where
  own_only : Only marks_at (marks_at + node_ceiling) ws vs
  own_only = rw c (only_zeros ws marks_at node_ceiling (omega arith) (omega arith))

  over_only : Only names_at (names_at + node_ceiling) vs us
  over_only = rw d (only_zeros vs names_at node_ceiling (omega arith) (omega arith))

  cleared_list : Listed ws us
  cleared_list i g l = over_only.before i (omega (arith, stack_behind, names_behind, l)) ∙ own_only.behind i (omega (arith, list_behind, g))

  cleared_only : Only marks_at work_words ws us
  cleared_only =
      only_then (only_wide (omega arith) (omega (arith, list_behind, stack_behind, names_behind, names_room)) own_only)
      (only_wide (omega (arith, list_behind, stack_behind, names_behind)) (omega (arith, names_room)) over_only)

  pub cleared_keeps : Keeps us count
  cleared_keeps = (keeps.0, only_kept keeps.0 count marks_behind cleared_only keeps.1)

  pub cleared_small : ((k : ℕ) → k < n → get_or ws (list_at + k) 0 < count) → (k : ℕ) → k < n → get_or us (list_at + k) 0 < count
  cleared_small f k g = omega (arith, f k g, cleared_list (list_at + k) (omega arith) (omega (arith, stack_behind)))

  pub cleared_none_marked : Unmarked us
  cleared_none_marked = record {
    own = λ i g. over_only.before (marks_at + i) (omega (arith, list_behind, stack_behind, names_behind))
        ∙ ap (λ (zs : List ℕ). get_or zs (marks_at + i) 0) c
        ∙ zeros_at ws marks_at node_ceiling i (omega (arith, keeps.1.room, list_behind, stack_behind, names_behind, names_room)) g;
    over = λ i g. ap (λ (zs : List ℕ). get_or zs (names_at + i) 0) d ∙ zeros_at vs names_at node_ceiling i (omega (arith, keeps.1.room, names_room, own_only.size)) g;
  }

  same_list : list_in us n ≡ list_in ws n
  unfolding list_in
  same_list =
      ext_get_or 0 (list_in us n) (list_in ws n) (simp (length-take, length-drop) (omega (arith, cleared_only.size)))
      (λ i l. let g : i < n = omega (arith, length-take n (drop list_at us)) in
      get_or-take n (drop list_at us) i 0 g ∙ get_or-drop list_at us i 0 ∙ cleared_list (list_at + i) (omega arith) (omega (arith, stack_behind))
      ∙ sym (get_or-take n (drop list_at ws) i 0 g ∙ get_or-drop list_at ws i 0))

  pub cleared_noted : (zs : List ℕ) → Noted count us zs (list_in us n) → Noted count ws zs (list_in ws n)
  cleared_noted zs m = record {
    only = only_then cleared_only m.only;
    list = λ i g l. m.list i g l ∙ cleared_list i g l;
    own = λ x g. m.own x g ∙ ap (one_of x) same_list;
    over = λ b x g. m.over b x g ∙ ap₂ (λ (t : Tree) (l : List ℕ). any (below t x) l) (only_tree b count marks_behind keeps.1.few cleared_only) same_list;
  }
