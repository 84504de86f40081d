-- The work list, turn by turn.
use mathlib.Core.Path.{◌≡◌, refl, sym, ap, ◌∙◌}
use mathlib.Core.List.Memᴰ
use mathlib.Core.List.{List, [], ◌∷◌, ◌++◌, append-nil, reverse}
use Prim.Native.Nat.{ℕ, suc, ◌+◌, ◌-◌, ◌≤◌, ◌<◌}
use native.Mathlib.Omega.{arith}
use lib.ListN.{get_or}
use Rattle.rules.specs.Blob.{Block}
use Rattle.rules.specs.Lists.{fresh}
use Rattle.rules.specs.References.{edition1, targets}
use Rattle.rules.specs.Listing.{work}
use Rattle.rules.specs.Space.{stack_at, list_in, stack_in}
use Rattle.rules.specs.Laws.Tabled.{tree_in}
use Rattle.rules.proofs.Laws.Kept.{tree_alike, only_then}
use Rattle.listing.specs.State.{Apart, Piled, Stacks}
use Rattle.listing.specs.Walk.{work_from, Walked}
use Rattle.listing.proofs.Fresh.{work_none, work_turn}
use Rattle.listing.proofs.Parts.{stack_last}
use Rattle.listing.proofs.Notes.{stacks_list, stacks_stack}

-- the last of the stack is taken
module _ (ws : List ℕ) (count n s : ℕ) (p : Piled ws count n s) (some : 0 < s) where
  abbrev top : ℕ
  top = get_or ws (stack_at + (s - 1)) 0

  split : stack_in ws s ≡ stack_in ws (s - 1) ++ (top ∷ [])
  split =
      let e : s ≡ s - 1 + 1 = omega arith in
      ap (stack_in ws) e ∙ stack_last ws p.marked.room (s - 1) (omega (arith, p.least, p.marked.short, p.marked.few))

  pub top_small : top < count
  top_small = p.nodes top (rw split (Memᴰ.append_right (stack_in ws (s - 1)) (Memᴰ.head refl)))

  pub popped : Piled ws count n (s - 1)
  popped = record {
    marked = p.marked;
    least = omega (arith, p.least);
    nodes = λ x m. p.nodes x (rw split (Memᴰ.append_left (top ∷ []) m));
  }

  -- and visited
  module _ (b : Block) (ts : List ℕ) (a : Apart ts ws) (x : ℕ) (e : x ≡ top) (vs : List ℕ) (m k : ℕ)
      (d : Stacks count ws n (s - 1) (targets edition1 (tree_in b ws count) x) vs m k []) where
    abbrev of : ℕ → List ℕ
    of i = targets edition1 (tree_in b ts count) i

    moved : Stacks count ws n (s - 1) (of top) vs m k []
    moved = rw (tree_alike b ts ws count p.marked.few a.before, e) at d

    pub walk_turn : work_from b ts vs count m k ≡ work_from b ts ws count n s
    walk_turn =
        let f : count + k - m ≡ count + (s - 1) - n = omega (arith, d.level, p.marked.short, d.piled.marked.short) in
        let g : count + s - n ≡ suc (count + (s - 1) - n) = omega (arith, p.marked.short) in
        ap (λ (l : List ℕ). l ++ work of (count + k - m) (reverse (stack_in vs k)) l) (stacks_list count ws n (s - 1) (of top) vs m k moved)
        ∙ ap (λ (l : List ℕ). list_in ws n ++ fresh (list_in ws n) (of top) ++ work of (count + k - m) (reverse l) (list_in ws n ++ fresh (list_in ws n) (of top)))
        (stacks_stack count ws n (s - 1) (of top) vs m k moved)
        ∙ ap (λ (j : ℕ). list_in ws n ++ fresh (list_in ws n) (of top)
        ++ work of j (reverse (stack_in ws (s - 1) ++ fresh (list_in ws n) (of top))) (list_in ws n ++ fresh (list_in ws n) (of top))) f
        ∙ sym (work_turn of (count + (s - 1) - n) top (stack_in ws (s - 1)) (list_in ws n))
        ∙ ap (λ (l : List ℕ). list_in ws n ++ work of (suc (count + (s - 1) - n)) (reverse l) (list_in ws n)) (sym split)
        ∙ ap (λ (j : ℕ). list_in ws n ++ work of j (reverse (stack_in ws s)) (list_in ws n)) (sym g)

    pub walk_apart : Apart ts vs
    walk_apart = only_then a d.apart

empty_stack : (ws : List ℕ) → stack_in ws 0 ≡ []
unfolding stack_in
empty_stack ws = refl

-- no node is left
pub walked : (b : Block) (ts : List ℕ) (count n₀ s₀ : ℕ) (ws : List ℕ) (n s : ℕ) → Apart ts ws → Piled ws count n s → s ≤ 0
    → work_from b ts ws count n s ≡ work_from b ts ts count n₀ s₀ → Walked b ts count n₀ s₀ ws n
walked b ts count n₀ s₀ ws n s a p h e =
    let z : s ≡ 0 = omega arith in
    record {
      apart = a;
      marked = p.marked;
      list =
          sym (append-nil (list_in ws n))
          ∙ ap (λ (l : List ℕ). list_in ws n ++ l) (sym (work_none (targets edition1 (tree_in b ts count)) (count + s - n) (list_in ws n)))
          ∙ ap (λ (l : List ℕ). list_in ws n ++ work (targets edition1 (tree_in b ts count)) (count + s - n) (reverse l) (list_in ws n))
          (sym (ap (stack_in ws) z ∙ empty_stack ws))
          ∙ e;
    }
