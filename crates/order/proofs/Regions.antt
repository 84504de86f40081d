-- Nodes in the words of the work space: how they are searched, and how one more is put among them.
use mathlib.Core.Path.{◌≡◌, refl, sym, ap, ap₂, ◌∙◌}
use mathlib.Core.Bool.{Bool, true, false, ◌&&◌}
use mathlib.Core.List.{List, [], ◌∷◌, ◌++◌, append_assoc}
use Prim.Native.Nat.{ℕ, zero, suc, ◌+◌, ◌-◌, ◌≤◌, ◌<◌}
use native.Mathlib.Numerals.{add-one}
use native.Mathlib.Omega.{arith}
use lib.Dec.{eqb, ltb}
use lib.ListN.{length, get_or, set, take, drop, take-append-drop, length-drop}
use lib.Seq.{paste, take_at, drop_at, drop-drop, drop-append-le, length-take-le}
use borrow.Author.Tests.{eqb-true, eqb-false, lt-ltb}
use Rattle.rules.specs.Octets.{part, put, lay, before}
use Rattle.rules.specs.Tree.{Tree, path}
use Rattle.std.specs.List.{copy_within}
use Rattle.std.specs.List.Sorted.{IsPartitionedBy, IsPartitionPoint}
use Rattle.std.proofs.lemmas.List.{get_or-take, get_or-drop, get_or_default}
use Rattle.rules.specs.Ceilings.{node_ceiling, node_words, work_words}
use Rattle.rules.specs.Space.{table_words, marks_at, list_at, stack_at}
use Rattle.rules.proofs.Laws.Tests.{by_test, by_le}
use Rattle.rules.proofs.Laws.Octets.{lay_put, lay_past, lay_nil, lay_one, lay_lay, length_lay, length_part, put_inside}
use Rattle.rules.proofs.Laws.Order.{before_trans}
use Rattle.order.specs.Region.{nth_node, Ordered, Between, inserted}

-- ---- words laid over and in front of others

lay_cons : (y : ℕ) (d : List ℕ) (a : ℕ) (ys : List ℕ) → lay (y ∷ d) (suc a) ys ≡ y ∷ lay d a ys
unfolding lay put
lay_cons y d a ys = let e : suc a + length ys ≡ suc (a + length ys) = omega arith in rw e

lay_first : (y : ℕ) (d : List ℕ) (x : ℕ) (ys : List ℕ) → lay (y ∷ d) 0 (x ∷ ys) ≡ x ∷ lay d 0 ys
unfolding lay put
lay_first y d x ys = let e : 0 + suc (length ys) ≡ suc (0 + length ys) = omega arith in rw e

-- as many or more over them
lay_over : (d : List ℕ) (a : ℕ) (xs ys : List ℕ) → length xs ≤ length ys → lay (lay d a xs) a ys ≡ lay d a ys
lay_over [] a xs ys h = ap (λ (l : List ℕ). lay l a ys) (lay_past [] a xs (omega arith))
lay_over (z ∷ d) (suc a) xs ys h = rw (lay_cons z d a xs, lay_cons z (lay d a xs) a ys, lay_cons z d a ys, lay_over d a xs ys h)
lay_over (z ∷ d) zero [] ys h = ap (λ (l : List ℕ). lay l 0 ys) (lay_nil (z ∷ d) 0)
lay_over (z ∷ d) zero (x ∷ xs) [] h = absurd (omega arith)
lay_over (z ∷ d) zero (x ∷ xs) (y ∷ ys) h =
    rw (lay_first z d x xs, lay_first x (lay d 0 xs) y ys, lay_first z d y ys, lay_over d 0 xs ys (omega arith))

set_lay : (d : List ℕ) (a x : ℕ) (ys : List ℕ) → a < length d → set (lay d (suc a) ys) a x ≡ lay (set d a x) (suc a) ys
set_lay [] a x ys h = absurd (omega arith)
set_lay (y ∷ d) zero x ys h = rw (lay_cons y d 0 ys, lay_cons x d 0 ys)
set_lay (y ∷ d) (suc a) x ys h =
    rw (lay_cons y d (suc a) ys, lay_cons y (set d a x) (suc a) ys) (ap (λ (l : List ℕ). y ∷ l) (set_lay d a x ys (omega arith)))

-- one in front of them
lay_front : (d : List ℕ) (a b x : ℕ) (ys : List ℕ) → b ≡ a + 1 → lay (lay d b ys) a (x ∷ []) ≡ lay d a (x ∷ ys)
lay_front d a b x ys e = by_le (length d) a
    (λ h. lay_past (lay d b ys) a (x ∷ []) (omega (arith, length_lay d b ys)) ∙ lay_past d b ys (omega arith) ∙ sym (lay_past d a (x ∷ ys) h))
    (λ h. lay_one (lay d b ys) a x (omega (arith, length_lay d b ys))
    ∙ ap (λ (c : ℕ). set (lay d c ys) a x) (e ∙ add-one a)
    ∙ set_lay d a x ys h
    ∙ ap₂ (λ (l : List ℕ) (c : ℕ). lay l c ys) (sym (lay_one d a x h)) (sym (add-one a))
    ∙ lay_lay d a (x ∷ []) ys)

-- ---- room

pub room : stack_at + node_ceiling < work_words
unfolding stack_at list_at marks_at table_words node_ceiling node_words work_words
room = omega arith

-- ---- words that move up

lay_paste : (d : List ℕ) (at : ℕ) (s : List ℕ) (n : ℕ) → at + n ≤ length d → n ≤ length s → paste d at s n ≡ lay d at (take n s)
unfolding put
lay_paste d at s n h l =
    let e : length (take n s) ≡ n = length-take-le n s l in
    append_assoc (take at d) (take n s) (drop (at + n) d)
    ∙ ap (λ (k : ℕ). take at d ++ (take n s ++ drop (at + k) d)) (sym e)
    ∙ sym (lay_put d at (take n s) (omega arith))

pub copied : (ws : List ℕ) (n at x place : ℕ) → place ≡ stack_at + at → at ≤ n → stack_at + n < length ws → (top : ℕ) → top ≡ stack_at + n
    → set (copy_within ws place top (place + 1)) place x ≡ inserted ws n at x
unfolding inserted
copied ws n at x place e h l top f =
    let m : top - place ≡ n - at = omega arith in
    let b : List ℕ = take (top - place) (drop place ws) in
    ap (λ (vs : List ℕ). set vs place x) (lay_paste ws (place + 1) (drop place ws) (top - place) (omega arith) (omega (arith, length-drop place ws)))
    ∙ sym (lay_one (lay ws (place + 1) b) place x (omega (arith, length_lay ws (place + 1) b)))
    ∙ lay_front ws place (place + 1) x b refl
    ∙ rw (m, e)

-- ---- nodes laid into a work space

module _ (ws l : List ℕ) (room : stack_at + length l ≤ length ws) where
  pub laid_at : (i : ℕ) → i < length l → nth_node (lay ws stack_at l) i ≡ get_or l i 0
  laid_at i h = rw (lay_put ws stack_at l room) (put_inside ws stack_at l i 0 h (omega arith))

  laid_part : (at : ℕ) → at ≤ length l → part (lay ws stack_at l) (stack_at + at) (length l - at) ≡ drop at l
  unfolding put
  laid_part at h =
      rw (lay_put ws stack_at l room, ← drop-drop at stack_at (put ws stack_at l), drop_at (take stack_at ws) (l ++ drop (stack_at + length l) ws) stack_at (length-take-le stack_at ws (omega arith)), drop-append-le at l (drop (stack_at + length l) ws) h)
      (take_at (drop at l) (drop (stack_at + length l) ws) (length l - at) (length-drop at l))

  pub laid_insert : (at x : ℕ) → at ≤ length l → inserted (lay ws stack_at l) (length l) at x ≡ lay ws stack_at (take at l ++ (x ∷ drop at l))
  unfolding inserted
  laid_insert at x h =
      let front : List ℕ = take at l in
      let back : List ℕ = drop at l in
      let n : stack_at + length front ≡ stack_at + at = ap (λ (k : ℕ). stack_at + k) (length-take-le at l h) in
      let whole : lay ws stack_at l ≡ lay (lay ws stack_at front) (stack_at + at) back =
      ap (lay ws stack_at) (sym (take-append-drop at l)) ∙ sym (lay_lay ws stack_at front back) ∙ ap (λ (k : ℕ). lay (lay ws stack_at front) k back) n in
      ap (λ (m : List ℕ). lay (lay ws stack_at l) (stack_at + at) (x ∷ m)) (laid_part at h)
      ∙ ap (λ (m : List ℕ). lay m (stack_at + at) (x ∷ back)) whole
      ∙ lay_over (lay ws stack_at front) (stack_at + at) back (x ∷ back) (omega arith)
      ∙ ap (λ (k : ℕ). lay (lay ws stack_at front) k (x ∷ back)) (sym n)
      ∙ lay_lay ws stack_at front (x ∷ back)

-- ---- searching

-- whether a number is one of a node before x
abbrev pub is_earlier : Tree → (count x y : ℕ) → Bool
is_earlier t count x y = ltb y count && before (path t y) (path t x)

-- the nodes of the search, as they are taken out of the work space
module _ (ws : List ℕ) (n at m : ℕ) (e : at ≡ stack_at) (q : m ≡ n) (l : stack_at + n ≤ length ws) where
  abbrev nodes : List ℕ
  nodes = part ws at m

  pub many : length nodes ≡ n
  many = length_part ws at m (omega arith) ∙ q

  held : (i d : ℕ) → i < n → get_or nodes i d ≡ nth_node ws i
  held i d h =
      get_or-take m (drop at ws) i d (omega arith)
      ∙ get_or-drop at ws i d
      ∙ ap (λ (k : ℕ). get_or ws (k + i) d) e
      ∙ get_or_default ws (stack_at + i) d 0 (omega arith)

  -- those before x stand in front of the others
  module _ (t : Tree) (count x : ℕ) (size : length t ≡ count) (o : Ordered t ws n) where
    abbrev earlier : ℕ → Bool
    earlier = is_earlier t count x

    node_earlier : (i : ℕ) → i < n → earlier (nth_node ws i) ≡ before (path t (nth_node ws i)) (path t x)
    node_earlier i h = let g : nth_node ws i < count = omega (arith, o.small i h, size) in rw (lt-ltb (nth_node ws i) count g)

    pub parted : IsPartitionedBy earlier nodes
    parted i j d h k r =
        let u : j < n = omega (arith, many) in
        let v : i < n = omega arith in
        let y : before (path t (nth_node ws j)) (path t x) ≡ true = sym (node_earlier j u) ∙ ap earlier (sym (held j d u)) ∙ r in
        ap earlier (held i d v) ∙ node_earlier i v ∙ by_test (eqb i j)
        (λ f. ap (λ (c : ℕ). before (path t (nth_node ws c)) (path t x)) (eqb-true i j f) ∙ y)
        (λ f. before_trans (path t (nth_node ws i)) (path t (nth_node ws j)) (path t x) (o.rising i j (let ne = eqb-false i j f in omega arith) u) y)

    pub between : (r : ℕ) → r ≤ n → IsPartitionPoint (λ (y : ℕ). earlier y ≡ true) (λ (y : ℕ). earlier y ≡ false) nodes r → Between t ws n x r r
    between r h p = record {
      lower = λ i k. sym (node_earlier i (omega arith)) ∙ ap earlier (sym (held i 0 (omega arith))) ∙ p.0 i 0 (omega arith) k;
      upper = λ i k j. sym (node_earlier i j) ∙ ap earlier (sym (held i 0 j)) ∙ p.1 i 0 k (omega (arith, many));
    }
