-- Nodes listed one after the other, with the stack left as it is.
use mathlib.Core.Path.{◌≡◌, refl, sym, ap, ◌∙◌}
use mathlib.Core.Bool.{Bool, true, false}
use mathlib.Core.List.Memᴰ
use mathlib.Core.List.{List, [], ◌∷◌, ◌++◌, append_assoc, append-nil}
use Prim.Native.Nat.{ℕ, ◌+◌, ◌≤◌, ◌<◌}
use native.Mathlib.Omega.{arith}
use native.Mathlib.Numerals.{add-one}
use lib.ListN.{length, get_or, take, drop, drop_of_length-le}
use lib.Seq.{drop-cons, get_or-take, get_or-drop}
use Rattle.rules.specs.Ceilings.{node_ceiling, work_words}
use Rattle.rules.specs.Octets.{lay, zeros}
use Rattle.rules.specs.Blob.{Block}
use Rattle.rules.specs.Lists.{one_of, keep, fresh}
use Rattle.rules.specs.Tree.{Tree, below}
use Rattle.rules.specs.Listing.{◌∈◌, gather}
use Rattle.rules.specs.Space.{marks_at, stack_at, list_in, stack_in}
use Rattle.rules.proofs.Laws.Tests.{by_test}
use Rattle.rules.specs.Laws.Lists.{none}
use Rattle.rules.proofs.Laws.Lists.{keep_yes, keep_no, mem_at}
use Rattle.rules.specs.Laws.Tabled.{tree_in}
use Rattle.rules.specs.Laws.Kept.{Only}
use Rattle.rules.proofs.Laws.Kept.{tree_alike, only_none, only_then, only_wide, only_zeros, only_drop, zeros_at, marks_behind, list_behind, stack_behind, names_behind, names_inside}
use Rattle.listing.specs.State.{Apart, Marked, Gains}
use Rattle.listing.specs.Given.{below_in, Gathers}
use Rattle.listing.proofs.Fresh.{fresh_none, fresh_append, gather_none, gather_turn}
use Rattle.listing.proofs.Parts.{stack_length}

pub gains_refl : (count : ℕ) (ws : List ℕ) (n : ℕ) (ts : List ℕ) → Marked ws count n → Gains count ws n ts ws n ts
gains_refl count ws n ts m = record { apart = only_none ws; marked = m; list = refl; stack = λ s. refl }

pub gains_trans : {count : ℕ} {ws : List ℕ} {n : ℕ} {all vs : List ℕ} {m : ℕ} {mid us : List ℕ} {p : ℕ} {left : List ℕ}
    → Gains count ws n all vs m mid → Gains count vs m mid us p left → Gains count ws n all us p left
gains_trans a b = record {
  apart = only_then a.apart b.apart;
  marked = b.marked;
  list = b.list ∙ a.list;
  stack = λ s. b.stack s ∙ a.stack s;
}

module _ (count : ℕ) (ws : List ℕ) (n : ℕ) (ts vs : List ℕ) (m : ℕ) (a : Gains count ws n ts vs m []) where
  gains_list : list_in vs m ≡ list_in ws n ++ fresh (list_in ws n) ts
  gains_list = sym (append-nil (list_in vs m)) ∙ ap (λ (l : List ℕ). list_in vs m ++ l) (sym (fresh_none (list_in vs m))) ∙ a.list

  pub gains_more : (us : List ℕ) → Gains count ws n (ts ++ us) vs m us
  gains_more us = record {
    apart = a.apart;
    marked = a.marked;
    list = ap (λ (l : List ℕ). l ++ fresh l us) gains_list
        ∙ append_assoc (list_in ws n) (fresh (list_in ws n) ts) (fresh (list_in ws n ++ fresh (list_in ws n) ts) us)
        ∙ ap (λ (l : List ℕ). list_in ws n ++ l) (sym (fresh_append (list_in ws n) ts us));
    stack = a.stack;
  }

-- a node, and then others
pub gains_with : (count : ℕ) (ws : List ℕ) (n x : ℕ) (vs : List ℕ) (m : ℕ) (ts us : List ℕ) (p : ℕ)
    → Gains count ws n (x ∷ []) vs m [] → Gains count vs m ts us p [] → Gains count ws n (x ∷ ts) us p []
gains_with count ws n x vs m ts us p a b = gains_trans (gains_more count ws n (x ∷ []) vs m a ts) b

-- ---- the marks cleared

pub no_list : (ws : List ℕ) → list_in ws 0 ≡ []
unfolding list_in
no_list ws = refl

pub cleared : (count : ℕ) (ws : List ℕ) → count ≤ node_ceiling → work_words ≤ length ws → Gains count ws 0 [] (lay ws marks_at (zeros count)) 0 []
unfolding one_of stack_in
cleared count ws few room =
    let vs : List ℕ = lay ws marks_at (zeros count) in
    let fits : marks_at + count ≤ stack_at = omega (arith, few, list_behind, stack_behind) in
    let inside : stack_at ≤ work_words = omega (arith, names_behind, names_inside) in
    let o : Only marks_at stack_at ws vs = only_zeros ws marks_at count (omega arith) fits in
    record {
      apart = only_wide marks_behind inside o;
      marked = record {
        few = few;
        room = omega (arith, room, o.size);
        short = omega arith;
        once = rw (no_list vs) none;
        small = λ x m. absurd (Memᴰ.not-nil (rw (no_list vs) at m));
        marks = λ j l. zeros_at ws marks_at count j (omega (arith, fits, inside)) l ∙ rw (no_list vs);
      };
      list = rw (no_list vs, no_list ws);
      stack = λ s. ap (take s) (only_drop stack_at (omega arith) o);
    }

-- ---- those below a node

module _ (count : ℕ) (ws : List ℕ) (n x : ℕ) (f : ℕ → Bool) where
  pub gains_passed : f x ≡ false → Marked ws count n → Gains count ws n (keep f (x ∷ [])) ws n []
  unfolding keep
  gains_passed e m = rw (keep_no f x [] e) (gains_refl count ws n [] m)

  pub gains_kept : f x ≡ true → (vs : List ℕ) (m : ℕ) → Gains count ws n (x ∷ []) vs m [] → Gains count ws n (keep f (x ∷ [])) vs m []
  unfolding keep
  gains_kept e vs m a = rw (keep_yes f x [] e) a

keep_append : (f : ℕ → Bool) (k l : List ℕ) → keep f (k ++ l) ≡ keep f k ++ keep f l
unfolding keep
keep_append f [] l = refl
keep_append f (x ∷ k) l = by_test (f x)
    (λ e. keep_yes f x (k ++ l) e ∙ ap (λ (m : List ℕ). x ∷ m) (keep_append f k l) ∙ ap (λ (m : List ℕ). m ++ keep f l) (sym (keep_yes f x k e)))
    (λ e. keep_no f x (k ++ l) e ∙ keep_append f k l ∙ ap (λ (m : List ℕ). m ++ keep f l) (sym (keep_no f x k e)))

-- a node of the stack
pub stack_word : (ws : List ℕ) (s k : ℕ) → k < s → get_or ws (stack_at + k) 0 ≡ get_or (stack_in ws s) k 0
unfolding stack_in
stack_word ws s k h = sym (get_or-take s (drop stack_at ws) k 0 h ∙ get_or-drop stack_at ws k 0)

-- the start nodes below a node, from the k-th on
abbrev pub below_from : Block → List ℕ → (count s p k : ℕ) → List ℕ
below_from b ws count s p k = keep (below (tree_in b ws count) p) (drop k (stack_in ws s))

module _ (count : ℕ) (ws : List ℕ) (n s p : ℕ) (low : s ≤ node_ceiling) (nodes : (x : ℕ) → x ∈ stack_in ws s → x < count) (vs : List ℕ) (m k : ℕ) where
  module _ (room : work_words ≤ length ws) (same : stack_in vs s ≡ stack_in ws s) (h : k < s) (x : ℕ) (e : x ≡ get_or vs (stack_at + k) 0) where
    pub start_here : x ≡ get_or (stack_in ws s) k 0
    start_here = e ∙ stack_word vs s k h ∙ ap (λ (l : List ℕ). get_or l k 0) same

    pub start_below : x < count
    start_below = rw start_here (nodes (get_or (stack_in ws s) k 0) (mem_at (stack_in ws s) k 0 (omega (arith, stack_length ws room s low))))

  module _ (b : Block) (a : Gains count ws n (below_in b ws count s p) vs m (below_from b ws count s p k)) (room : work_words ≤ length ws) where
    pub below_turn : k < s → (x : ℕ) → x ≡ get_or vs (stack_at + k) 0 → (us : List ℕ) (q : ℕ)
        → Gains count vs m (keep (below (tree_in b vs count) p) (x ∷ [])) us q []
        → Gains count ws n (below_in b ws count s p) us q (below_from b ws count s p (k + 1))
    below_turn h x e us q d =
        let t : tree_in b vs count ≡ tree_in b ws count = tree_alike b ws vs count a.marked.few a.apart.before in
        let y : x ≡ get_or (stack_in ws s) k 0 = start_here room (a.stack s) h x e in
        let f : ℕ → Bool = below (tree_in b ws count) p in
        let g : below_from b ws count s p k ≡ keep f (get_or (stack_in ws s) k 0 ∷ []) ++ keep f (drop (k + 1) (stack_in ws s)) =
        ap (keep f) (drop-cons (stack_in ws s) k 0 (omega (arith, stack_length ws room s low)) ∙ ap (λ (j : ℕ). get_or (stack_in ws s) k 0 ∷ drop j (stack_in ws s)) (sym (add-one k)))
        ∙ keep_append f (get_or (stack_in ws s) k 0 ∷ []) (drop (k + 1) (stack_in ws s)) in
        gains_trans a (rw g (gains_more count vs m (keep f (get_or (stack_in ws s) k 0 ∷ [])) us q (rw (t, y) at d) (keep f (drop (k + 1) (stack_in ws s)))))

    pub below_all : s ≤ k → Gains count ws n (below_in b ws count s p) vs m []
    unfolding keep
    below_all h = rw (drop_of_length-le (stack_in ws s) {i = k} (omega (arith, stack_length ws room s low))) at a

-- ---- each with those below it

pub below_alike : (b : Block) (ws vs : List ℕ) (count s p : ℕ) → count ≤ node_ceiling → Apart ws vs → stack_in vs s ≡ stack_in ws s
    → below_in b vs count s p ≡ below_in b ws count s p
below_alike b ws vs count s p few a e =
    ap (λ (t : Tree). keep (below t p) (stack_in vs s)) (tree_alike b ws vs count few a.before) ∙ ap (keep (below (tree_in b ws count) p)) e

module _ (count : ℕ) (ws : List ℕ) (n : ℕ) (of : ℕ → List ℕ) (all vs : List ℕ) (m : ℕ) (cs : List ℕ) (i : ℕ) (a : Gathers count ws n of all vs m (drop i cs)) where
  pub gathers_each : i < length cs → (us : List ℕ) (p : ℕ) → Gains count vs m (of (get_or cs i 0)) us p [] → Gathers count ws n of all us p (drop (i + 1) cs)
  gathers_each h us p d =
      let c : ℕ = get_or cs i 0 in
      let l : List ℕ = list_in vs m in
      record {
        apart = only_then a.apart d.apart;
        marked = d.marked;
        list =
            ap (λ (k : List ℕ). k ++ gather of k (drop (i + 1) cs)) (gains_list count vs m (of c) us p d)
            ∙ sym (gather_turn of c (drop (i + 1) cs) l)
            ∙ ap (λ (k : List ℕ). l ++ gather of l k) (sym (drop-cons cs i 0 h ∙ ap (λ (j : ℕ). c ∷ drop j cs) (sym (add-one i))))
            ∙ a.list;
        stack = λ s. d.stack s ∙ a.stack s;
      }

pub gathers_list : (count : ℕ) (ws : List ℕ) (n : ℕ) (of : ℕ → List ℕ) (all vs : List ℕ) (m : ℕ)
    → Gathers count ws n of all vs m [] → list_in vs m ≡ list_in ws n ++ gather of (list_in ws n) all
gathers_list count ws n of all vs m a =
    sym (append-nil (list_in vs m)) ∙ ap (λ (l : List ℕ). list_in vs m ++ l) (sym (gather_none of (list_in vs m))) ∙ a.list
