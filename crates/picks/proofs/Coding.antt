-- How each node stands, node by node.
use Rattle.std.specs.Prelude.{if◌then◌else◌}
use mathlib.Core.Path.{◌≡◌, refl, sym, ap, ap₂, ◌∙◌}
use mathlib.Core.Bool.{Bool, true, false}
use mathlib.Core.List.{List, [], ◌∷◌}
use Prim.Native.Nat.{ℕ, zero, suc, ◌+◌, ◌≤◌, ◌<◌}
use native.Mathlib.Omega.{arith}
use lib.Dec.{eqb, ltb}
use lib.ListN.{length, get_or}
use borrow.Author.Tests.{eqb-true, eqb-false, lt-ltb, le-ltb}
use Rattle.rules.specs.Ceilings.{node_ceiling}
use Rattle.rules.specs.Octets.{lay}
use Rattle.rules.specs.Blob.{Block}
use Rattle.rules.specs.Lists.{one_of}
use Rattle.rules.specs.Tree.{Tree, node, frame}
use Rattle.rules.specs.Copy.{null, is_cpus, cpu_child, stranger}
use Rattle.rules.specs.Space.{marks_at, stack_at, names_at, list_in}
use Rattle.rules.proofs.Laws.Tests.{by_test}
use Rattle.rules.proofs.Laws.Octets.{lay_one_same, lay_one_other, length_lay}
use Rattle.rules.specs.Laws.Kept.{Kept}
use Rattle.rules.proofs.Laws.Kept.{only_then, only_one, only_tree, marks_behind, list_behind, stack_behind, names_behind, names_room}
use Rattle.rules.specs.Laws.Tabled.{tree_in}
use Rattle.rules.proofs.Laws.Tabled.{tree_length}
use Rattle.picks.specs.Marks.{marked}
use Rattle.picks.specs.declared.standing.Standing.{Standing}
use Rattle.picks.specs.declared.standing.Standing.TheVariants.{Plain, Listed, Excluded, Kept as Keeps, Dropped}
use Rattle.picks.specs.Standings.{word_of, standing_in, next, outside, taken, standing_of, word_back, standing_root, standing_step, taken_picked}
use Rattle.picks.specs.Turns.{parent_standing, standing_at, mark_at, turned, pick_of, Coded, Picks}

-- only a child of `/cpus` is a stranger
tame : (t : Tree) (ids : List ℕ) (i : ℕ) → is_cpus (frame t) (node t i).parent ≡ false → stranger t ids i ≡ false
unfolding stranger cpu_child
tame t ids i e = rw e

module _ (b : Block) (ws : List ℕ) (count : ℕ) (kept : Kept b ws count) (excl ids : List ℕ) (n : ℕ) where
  abbrev t : Tree
  t = tree_in b ws count

  abbrev ls : List ℕ
  ls = list_in ws n

  size : length t ≡ count
  size = tree_length b ws count 0

  pub coded_last : (vs : List ℕ) → Coded t count excl ids ls ws vs count → Picks b count n excl ids ws vs
  coded_last vs c = record { only = c.only; list = c.list; picks = λ x h. c.picks x h }

  module _ (vs : List ℕ) (i : ℕ) (h : i < count) (c : Coded t count excl ids ls ws vs i) where
    same_tree : tree_in b vs count ≡ t
    same_tree = only_tree b count marks_behind kept.few c.only

    -- what the words say is how the node stands
    standing_is : (k : ℕ) → k ≡ i → standing_at b vs count excl ids i ≡ standing_of (frame t) (stranger t ids) ids excl ls i
    standing_is zero e =
        let z : i ≡ 0 = sym e in
        let o : ltb (node t 0).parent 0 ≡ false = le-ltb (node t 0).parent 0 (omega arith) in
        rw (same_tree, c.own i (omega arith) h, z, o)
        (standing_root t kept.formed (stranger t ids) ids excl ls kept.top (tame t ids) (omega (arith, size, kept.some)))
    standing_is (suc k) e =
        let z : i ≡ suc k = sym e in
        let l : suc k < length t = omega (arith, size) in
        let p : (node t (suc k)).parent < i = omega (arith, kept.formed.up k l) in
        let o : ltb (node t (suc k)).parent (suc k) ≡ true = lt-ltb (node t (suc k)).parent (suc k) (omega (arith, p)) in
        rw (same_tree, c.own i (omega arith) h)
        (rw (z, o) (ap (next (null ids) (is_cpus (frame t) (suc k)) (stranger t ids (suc k)) (one_of (suc k) excl) (one_of (suc k) ls)) (ap standing_in (c.standings (node t (suc k)).parent p) ∙ word_back (standing_of (frame t) (stranger t ids) ids excl ls (node t (suc k)).parent))
        ∙ standing_step t kept.formed (stranger t ids) ids excl ls kept.top (tame t ids) k l))

    abbrev own_standing : Standing
    own_standing = standing_at b vs count excl ids i

    mark_is : mark_at vs i own_standing ≡ pick_of t excl ids ls i
    mark_is =
        ap₂ (λ (d : Standing) (o : Bool). if taken (eqb i 0) d o then 1 else 0) (standing_is i refl) (c.over i h)
        ∙ ap (λ (d : Bool). if d then 1 else 0) (taken_picked (record { conf = []; excl = excl; ids = ids }) t (stranger t ids) ls i)

    pub coded_more : (us : List ℕ) → us ≡ turned b vs count excl ids i → Coded t count excl ids ls ws us (i + 1)
    coded_more us e = rw e (record {
      only = only_then c.only (only_then (only_one vs (stack_at + i) own_word (omega (arith, list_behind, stack_behind)) (omega (arith, names_behind, names_room, few))) (only_one mid (marks_at + i) own-mark (omega arith) (omega (arith, list_behind, stack_behind, names_behind, names_room, few))));
      list = λ x g l. outer x (λ q. omega (arith, list_behind, g, few)) ∙ inner x (λ q. omega (arith, l)) ∙ c.list x g l;
      standings = λ x l. outer (stack_at + x) (λ q. omega (arith, list_behind, stack_behind, few)) ∙ by_test (eqb x i)
          (λ q. let z : x ≡ i = eqb-true x i q in rw z (lay_one_same vs (stack_at + i) own_word 0 (omega (arith, names_behind, names_room, c.only.size, kept.room, few)) ∙ ap word_of (standing_is i refl)))
          (λ q. inner (stack_at + x) (λ z. eqb-false x i q (omega arith)) ∙ c.standings x (omega (arith, eqb-false x i q)));
      picks = λ x l. by_test (eqb x i)
          (λ q. let z : x ≡ i = eqb-true x i q in rw z (lay_one_same mid (marks_at + i) own-mark 0 (omega (arith, list_behind, stack_behind, names_behind, names_room, c.only.size, kept.room, few, length_lay vs (stack_at + i) (own_word ∷ []))) ∙ mark_is))
          (λ q. outer (marks_at + x) (λ z. eqb-false x i q (omega arith)) ∙ inner (marks_at + x) (λ z. omega (arith, list_behind, stack_behind, l, few)) ∙ c.picks x (omega (arith, eqb-false x i q)));
      own = λ x g l. ap (λ (y : ℕ). eqb y 1) (outer (marks_at + x) (λ z. omega arith) ∙ inner (marks_at + x) (λ z. omega (arith, list_behind, stack_behind, l, few))) ∙ c.own x (omega arith) l;
      over = λ x l. ap (λ (y : ℕ). eqb y 1) (outer (names_at + x) (λ z. omega (arith, list_behind, stack_behind, names_behind, few)) ∙ inner (names_at + x) (λ z. omega (arith, names_behind, few))) ∙ c.over x l;
    })
      where
        few : count ≤ node_ceiling
        few = kept.few

        own-mark : ℕ
        own-mark = mark_at vs i own_standing

        own_word : ℕ
        own_word = word_of own_standing

        mid : List ℕ
        mid = lay vs (stack_at + i) (own_word ∷ [])

        inner : (x : ℕ) → (x ≡ stack_at + i → ⊥) → get_or mid x 0 ≡ get_or vs x 0
        inner x q = lay_one_other vs (stack_at + i) own_word 0 x q

        outer : (x : ℕ) → (x ≡ marks_at + i → ⊥) → get_or (lay mid (marks_at + i) (own-mark ∷ [])) x 0 ≡ get_or mid x 0
        outer x q = lay_one_other mid (marks_at + i) own-mark 0 x q

-- ---- what the code reads

module _ (b : Block) (ws : List ℕ) (count i p : ℕ) (e : p ≡ (node (tree_in b ws count) i).parent) where
  pub parent_some : p < i → standing_in (get_or ws (stack_at + p) 0) ≡ parent_standing b ws count i
  parent_some h = rw (← e, lt-ltb p i h)

-- outside `/cpus`
module _ (n c s x w : Bool) (e : c ≡ false) (y : Bool) (f : y ≡ x) (v : Bool) (g : v ≡ w) where
  pub of_outside : (p : Standing) → (p ≡ Keeps → ⊥) → (p ≡ Dropped → ⊥) → (r : Standing) → r ≡ outside p y v → r ≡ next n c s x w p
  of_outside Keeps a b r k = absurd (a refl)
  of_outside Dropped a b r k = absurd (b refl)
  of_outside Plain a b r k = k ∙ rw (e, f, g)
  of_outside Listed a b r k = k ∙ rw (e, f, g)
  of_outside Excluded a b r k = k ∙ rw e

-- ---- a turn, as the code takes it

module _ (b : Block) (ws : List ℕ) (count : ℕ) (excl ids : List ℕ) (i : ℕ) where
  pub turned_is : (c : Standing) → c ≡ standing_at b ws count excl ids i → (o : Bool) → o ≡ marked ws names_at i → (m : ℕ) → m ≡ (if taken (eqb i 0) c o then 1 else 0)
      → (d : ℕ) → d ≡ word_of c → (vs : List ℕ) → vs ≡ lay ws (stack_at + i) (d ∷ []) → (us : List ℕ) → us ≡ lay vs (marks_at + i) (m ∷ []) → us ≡ turned b ws count excl ids i
  turned_is c e o f m g d z vs h us k = k ∙ rw (h, z, g, f, e)

  pub turned_length : length (turned b ws count excl ids i) ≡ length ws
  turned_length = length_lay _ (marks_at + i) _ ∙ length_lay ws (stack_at + i) _

module _ (b : Block) (ws : List ℕ) (count : ℕ) (kept : Kept b ws count) (excl ids : List ℕ) (n : ℕ) (vs : List ℕ) (i : ℕ) where
  pub coded_end : i ≤ count → count ≤ i → Coded (tree_in b ws count) count excl ids (list_in ws n) ws vs i → Picks b count n excl ids ws vs
  coded_end h g c = let e : i ≡ count = omega arith in coded_last b ws count kept excl ids n vs (rw e at c)
