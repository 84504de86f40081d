-- A word put into the work space behind the node table: what it leaves of the list, of the stack and of the marks.
use mathlib.Core.Path.{◌≡◌, ap, ◌∙◌}
use mathlib.Core.List.{List, [], ◌∷◌, ◌++◌}
use Prim.Native.Nat.{ℕ, ◌+◌, ◌-◌, ◌≤◌, ◌<◌}
use native.Mathlib.Omega.{arith}
use native.Mathlib.Numerals.{add-one}
use lib.ListN.{length, get_or, take, drop, set, length-drop}
use lib.Seq.{drop-set-lt, drop-set-add, take-set-le, take-suc-set, take-suc, get_or-drop, length-take-le}
use Rattle.rules.specs.Ceilings.{node_ceiling, work_words}
use Rattle.rules.specs.Octets.{lay}
use Rattle.rules.specs.Space.{marks_at, list_at, stack_at, list_in, stack_in}
use Rattle.rules.proofs.Laws.Octets.{lay_one, lay_one_other}
use Rattle.rules.proofs.Laws.Kept.{only_one, marks_behind, list_behind, stack_behind, names_behind, names_inside}
use Rattle.listing.specs.State.{Apart}

-- ---- any part

module _ (ws : List ℕ) (at x : ℕ) (h : at < length ws) where
  pub part_behind : (p n : ℕ) → at < p → take n (drop p (lay ws at (x ∷ []))) ≡ take n (drop p ws)
  part_behind p n l = ap (λ (vs : List ℕ). take n (drop p vs)) (lay_one ws at x h) ∙ ap (take n) (drop-set-lt p ws at x l)

  pub part_front : (p n : ℕ) → p + n ≤ at → take n (drop p (lay ws at (x ∷ []))) ≡ take n (drop p ws)
  part_front p n l =
      let e : at ≡ p + (at - p) = omega arith in
      ap (λ (vs : List ℕ). take n (drop p vs)) (lay_one ws at x h)
      ∙ ap (λ (k : ℕ). take n (drop p (set ws k x))) e
      ∙ ap (take n) (drop-set-add p ws (at - p) x)
      ∙ take-set-le n (drop p ws) (at - p) x (omega arith)

pub part_end : (ws : List ℕ) (p n x : ℕ) → p + n < length ws → take (n + 1) (drop p (lay ws (p + n) (x ∷ []))) ≡ take n (drop p ws) ++ (x ∷ [])
part_end ws p n x h =
    ap (λ (vs : List ℕ). take (n + 1) (drop p vs)) (lay_one ws (p + n) x h)
    ∙ ap (take (n + 1)) (drop-set-add p ws n x)
    ∙ ap (λ (k : ℕ). take k (set (drop p ws) n x)) (add-one n)
    ∙ take-suc-set (drop p ws) n x (simp length-drop (omega arith))

-- ---- the list and the stack

module _ (ws : List ℕ) (room : work_words ≤ length ws) where
  pub list_length_lem : (n : ℕ) → n ≤ node_ceiling → length (list_in ws n) ≡ n
  unfolding list_in
  list_length_lem n h = length-take-le n (drop list_at ws) (simp length-drop (omega (arith, stack_behind, names_behind, names_inside)))

  pub stack_length : (s : ℕ) → s ≤ node_ceiling → length (stack_in ws s) ≡ s
  unfolding stack_in
  stack_length s h = length-take-le s (drop stack_at ws) (simp length-drop (omega (arith, names_behind, names_inside)))

  pub stack_last : (s : ℕ) → s < node_ceiling → stack_in ws (s + 1) ≡ stack_in ws s ++ (get_or ws (stack_at + s) 0 ∷ [])
  unfolding stack_in
  stack_last s h =
      ap (λ (k : ℕ). take k (drop stack_at ws)) (add-one s)
      ∙ take-suc (drop stack_at ws) s 0 (simp length-drop (omega (arith, names_behind, names_inside)))
      ∙ ap (λ (y : ℕ). take s (drop stack_at ws) ++ (y ∷ [])) (get_or-drop stack_at ws s 0)

  -- a mark
  module _ (i x : ℕ) (h : i < node_ceiling) where
    pub list_mark : (n : ℕ) → list_in (lay ws (marks_at + i) (x ∷ [])) n ≡ list_in ws n
    unfolding list_in
    list_mark n = part_behind ws (marks_at + i) x (omega (arith, list_behind, stack_behind, names_behind, names_inside)) list_at n (omega (arith, list_behind))

    pub stack_mark : (s : ℕ) → stack_in (lay ws (marks_at + i) (x ∷ [])) s ≡ stack_in ws s
    unfolding stack_in
    stack_mark s = part_behind ws (marks_at + i) x (omega (arith, list_behind, stack_behind, names_behind, names_inside)) stack_at s (omega (arith, list_behind, stack_behind))

    pub apart_mark : Apart ws (lay ws (marks_at + i) (x ∷ []))
    apart_mark = only_one ws (marks_at + i) x (omega (arith, marks_behind)) (omega (arith, list_behind, stack_behind, names_behind, names_inside))

  -- a node listed
  module _ (n x : ℕ) (h : n < node_ceiling) where
    pub list_list : list_in (lay ws (list_at + n) (x ∷ [])) (n + 1) ≡ list_in ws n ++ (x ∷ [])
    unfolding list_in
    list_list = part_end ws list_at n x (omega (arith, stack_behind, names_behind, names_inside))

    pub stack_list : (s : ℕ) → stack_in (lay ws (list_at + n) (x ∷ [])) s ≡ stack_in ws s
    unfolding stack_in
    stack_list s = part_behind ws (list_at + n) x (omega (arith, stack_behind, names_behind, names_inside)) stack_at s (omega (arith, stack_behind))

    pub marks_list : (i : ℕ) → i < node_ceiling → get_or (lay ws (list_at + n) (x ∷ [])) (marks_at + i) 0 ≡ get_or ws (marks_at + i) 0
    marks_list i l = lay_one_other ws (list_at + n) x 0 (marks_at + i) (λ e. omega (arith, list_behind))

    pub apart_list : Apart ws (lay ws (list_at + n) (x ∷ []))
    apart_list = only_one ws (list_at + n) x (omega (arith, marks_behind, list_behind)) (omega (arith, stack_behind, names_behind, names_inside))

  -- a node put on the stack
  module _ (s x : ℕ) (h : s < node_ceiling) where
    pub list_stack : (n : ℕ) → n ≤ node_ceiling → list_in (lay ws (stack_at + s) (x ∷ [])) n ≡ list_in ws n
    unfolding list_in
    list_stack n l = part_front ws (stack_at + s) x (omega (arith, names_behind, names_inside)) list_at n (omega (arith, stack_behind))

    pub stack_stack : stack_in (lay ws (stack_at + s) (x ∷ [])) (s + 1) ≡ stack_in ws s ++ (x ∷ [])
    unfolding stack_in
    stack_stack = part_end ws stack_at s x (omega (arith, names_behind, names_inside))

    pub marks_stack : (i : ℕ) → i < node_ceiling → get_or (lay ws (stack_at + s) (x ∷ [])) (marks_at + i) 0 ≡ get_or ws (marks_at + i) 0
    marks_stack i l = lay_one_other ws (stack_at + s) x 0 (marks_at + i) (λ e. omega (arith, list_behind, stack_behind))

    pub apart_stack : Apart ws (lay ws (stack_at + s) (x ∷ []))
    apart_stack = only_one ws (stack_at + s) x (omega (arith, marks_behind, list_behind, stack_behind)) (omega (arith, names_behind, names_inside))
