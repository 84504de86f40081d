-- A node noted, and what is noted one after the other.
use mathlib.Core.Path.{◌≡◌, refl, sym, ap, ◌∙◌}
use mathlib.Core.Logic.{◌⊎◌, inl, inr}
use mathlib.Core.Bool.{Bool, true, false}
use mathlib.Core.List.Memᴰ
use mathlib.Core.List.{List, [], ◌∷◌, ◌++◌, append_assoc, append-nil}
use Prim.Native.Nat.{ℕ, ◌+◌, ◌≤◌, ◌<◌}
use native.Mathlib.Omega.{arith}
use lib.Dec.{eqb}
use lib.ListN.{length, get_or, length-append}
use borrow.Author.Tests.{eqb-true, eqb-false}
use Rattle.rules.specs.Ceilings.{node_ceiling, work_words}
use Rattle.rules.specs.Octets.{lay}
use Rattle.rules.specs.Lists.{one_of, fresh}
use Rattle.rules.specs.Listing.{◌∈◌}
use Rattle.rules.specs.Space.{marks_at, stack_at, list_in, stack_in}
use Rattle.rules.proofs.Laws.Tests.{by_test, both_ways}
use Rattle.rules.proofs.Laws.Octets.{length_lay, lay_one_same, lay_one_other}
use Rattle.rules.specs.Laws.Lists.{Distinct, none, more}
use Rattle.rules.proofs.Laws.Lists.{distinct_append, distinct_below, one_of_mem, mem_one_of, one_of_not, fresh_known}
use Rattle.rules.proofs.Laws.Kept.{list_behind, stack_behind, names_behind, names_inside, only_none, only_then}
use Rattle.listing.specs.State.{entered, mark, Apart, Marked, Piled, Gains, Stacks}
use Rattle.listing.proofs.Fresh.{fresh_none, fresh_last, fresh_append}
use Rattle.listing.proofs.Parts.{list_length_lem, list_mark, stack_mark, apart_mark, list_list, stack_list, marks_list, apart_list, list_stack, stack_stack, marks_stack, apart_stack}

-- ---- one more number

last_mem : (l : List ℕ) (x z : ℕ) → z ∈ l ++ (x ∷ []) → (z ∈ l) ⊎ (z ≡ x)
last_mem l x z m = elim (Memᴰ.append_cases l m) [ inl k ↦ inl k | inr k ↦ inr (Memᴰ.eq_of_singleton k) ]

last_distinct : (l : List ℕ) (x : ℕ) → Distinct l → one_of x l ≡ false → Distinct (l ++ (x ∷ []))
last_distinct l x d e =
    distinct_append l (x ∷ []) d (more (λ m. Memᴰ.not-nil m) none)
    (λ z p q. one_of_not x l e (Memᴰ.cast (sym (Memᴰ.eq_of_singleton q)) p))

last_small : (l : List ℕ) (x count : ℕ) → ((z : ℕ) → z ∈ l → z < count) → x < count → (z : ℕ) → z ∈ l ++ (x ∷ []) → z < count
last_small l x count f h z m = elim (last_mem l x z m) [ inl k ↦ f z k | inr e ↦ rw e h ]

last_here : (l : List ℕ) (x : ℕ) → one_of x (l ++ (x ∷ [])) ≡ true
last_here l x = mem_one_of (Memᴰ.append_right l (Memᴰ.head refl))

last_other : (l : List ℕ) (x i : ℕ) → (i ≡ x → ⊥) → one_of i (l ++ (x ∷ [])) ≡ one_of i l
last_other l x i ne = both_ways (one_of i (l ++ (x ∷ []))) (one_of i l)
    (λ e. elim (last_mem l x i (one_of_mem i (l ++ (x ∷ [])) e)) [ inl k ↦ mem_one_of k | inr q ↦ absurd (ne q) ])
    (λ e. mem_one_of (Memᴰ.append_left (x ∷ []) (one_of_mem i l e)))

pub mark_set : (b : Bool) → (mark b ≡ 0 → ⊥) → b ≡ true
mark_set true h = refl
mark_set false h = absurd (h refl)

pub mark_clear : (b : Bool) → mark b ≡ 0 → b ≡ false
mark_clear true h = absurd (omega arith)
mark_clear false h = refl

-- ---- entered

module _ (ws : List ℕ) (count n : ℕ) (m : Marked ws count n) where
  abbrev there : List ℕ
  there = list_in ws n

  pub known : (x : ℕ) → x < count → (get_or ws (marks_at + x) 0 ≡ 0 → ⊥) → one_of x there ≡ true
  known x h ne = mark_set (one_of x there) (λ e. ne (m.marks x h ∙ e))

  pub unknown : (x : ℕ) → x < count → get_or ws (marks_at + x) 0 ≡ 0 → one_of x there ≡ false
  unknown x h e = mark_clear (one_of x there) (sym (m.marks x h) ∙ e)

  module _ (x : ℕ) (h : x < count) (new : one_of x there ≡ false) where
    pub shorter : n + 1 ≤ count
    shorter =
        omega (
          arith,
          distinct_below (there ++ (x ∷ [])) count (last_distinct there x m.once new) (last_small there x count m.small h),
          length-append there (x ∷ []),
          list_length_lem ws m.room n (omega (arith, m.short, m.few)),
        )

    inside : x < node_ceiling
    inside = omega (arith, m.few)

    below : n < node_ceiling
    below = omega (arith, m.few, shorter)

    abbrev first : List ℕ
    first = lay ws (marks_at + x) (1 ∷ [])

    roomy : work_words ≤ length first
    roomy = omega (arith, m.room, length_lay ws (marks_at + x) (1 ∷ []))

    entered_list : list_in (entered ws n x) (n + 1) ≡ there ++ (x ∷ [])
    unfolding entered
    entered_list = list_list first roomy n x below ∙ ap (λ (l : List ℕ). l ++ (x ∷ [])) (list_mark ws m.room x 1 inside n)

    entered_stack : (s : ℕ) → stack_in (entered ws n x) s ≡ stack_in ws s
    unfolding entered
    entered_stack s = stack_list first roomy n x below s ∙ stack_mark ws m.room x 1 inside s

    entered_apart : Apart ws (entered ws n x)
    unfolding entered
    entered_apart = only_then (apart_mark ws m.room x 1 inside) (apart_list first roomy n x below)

    entered_marks : (i : ℕ) → i < count → get_or (entered ws n x) (marks_at + i) 0 ≡ mark (one_of i (there ++ (x ∷ [])))
    unfolding entered
    entered_marks i l =
        marks_list first roomy n x below i (omega (arith, m.few))
        ∙ by_test (eqb i x)
        (λ e. let q : i ≡ x = eqb-true i x e in
        ap (λ (k : ℕ). get_or first (marks_at + k) 0) q
        ∙ lay_one_same ws (marks_at + x) 1 0 (omega (arith, m.room, inside, list_behind, stack_behind, names_behind, names_inside))
        ∙ ap mark (sym (ap (λ (k : ℕ). one_of k (there ++ (x ∷ []))) q ∙ last_here there x)))
        (λ e. let ne : i ≡ x → ⊥ = eqb-false i x e in
        lay_one_other ws (marks_at + x) 1 0 (marks_at + i) (λ q. ne (omega arith))
        ∙ m.marks i l
        ∙ ap mark (sym (last_other there x i ne)))

    pub entered_marked : Marked (entered ws n x) count (n + 1)
    entered_marked = record {
      few = m.few;
      room = omega (arith, m.room, entered_apart.size);
      short = shorter;
      once = rw entered_list (last_distinct there x m.once new);
      small = rw entered_list (last_small there x count m.small h);
      marks = λ i l. entered_marks i l ∙ ap (λ (k : List ℕ). mark (one_of i k)) (sym entered_list);
    }

    entered_fresh : (front ts : List ℕ) → front ++ (x ∷ []) ++ fresh (there ++ (x ∷ [])) ts ≡ front ++ fresh there (x ∷ ts)
    entered_fresh front ts =
        append_assoc front (x ∷ []) (fresh (there ++ (x ∷ [])) ts) ∙ ap (λ (l : List ℕ). front ++ l) (sym (fresh_last there ts x new))

    pub gains_new : (ts : List ℕ) → Gains count ws n (x ∷ ts) (entered ws n x) (n + 1) ts
    gains_new ts = record {
      apart = entered_apart;
      marked = entered_marked;
      list = ap (λ (l : List ℕ). l ++ fresh l ts) entered_list ∙ entered_fresh there ts;
      stack = entered_stack;
    }

    -- and put on the stack
    module _ (s : ℕ) (least : s ≤ n) (nodes : (z : ℕ) → z ∈ stack_in ws s → z < count) where
      abbrev pushed : List ℕ
      pushed = lay (entered ws n x) (stack_at + s) (x ∷ [])

      space : work_words ≤ length (entered ws n x)
      space = omega (arith, m.room, entered_apart.size)

      low : s < node_ceiling
      low = omega (arith, below)

      pushed-list : list_in pushed (n + 1) ≡ there ++ (x ∷ [])
      pushed-list = list_stack (entered ws n x) space s x low (n + 1) (omega (arith, below)) ∙ entered_list

      pushed-stack : stack_in pushed (s + 1) ≡ stack_in ws s ++ (x ∷ [])
      pushed-stack = stack_stack (entered ws n x) space s x low ∙ ap (λ (l : List ℕ). l ++ (x ∷ [])) (entered_stack s)

      pushed-apart : Apart ws pushed
      pushed-apart = only_then entered_apart (apart_stack (entered ws n x) space s x low)

      pushed-marked : Marked pushed count (n + 1)
      pushed-marked = record {
        few = m.few;
        room = omega (arith, m.room, pushed-apart.size);
        short = shorter;
        once = rw pushed-list (last_distinct there x m.once new);
        small = rw pushed-list (last_small there x count m.small h);
        marks = λ i l. marks_stack (entered ws n x) space s x low i (omega (arith, m.few)) ∙ entered_marks i l
            ∙ ap (λ (k : List ℕ). mark (one_of i k)) (sym pushed-list);
      }

      pub stacks-new : (ts : List ℕ) → Stacks count ws n s (x ∷ ts) pushed (n + 1) (s + 1) ts
      stacks-new ts = record {
        apart = pushed-apart;
        piled = record {
          marked = pushed-marked;
          least = omega arith;
          nodes = rw pushed-stack (last_small (stack_in ws s) x count nodes h);
        };
        list = ap (λ (l : List ℕ). l ++ fresh l ts) pushed-list ∙ entered_fresh there ts;
        stack = ap (λ (l : List ℕ). l ++ fresh (list_in pushed (n + 1)) ts) pushed-stack
            ∙ ap (λ (l : List ℕ). stack_in ws s ++ (x ∷ []) ++ fresh l ts) pushed-list
            ∙ entered_fresh (stack_in ws s) ts;
        level = omega arith;
      }

  -- one that is known
  pub gains_known : (x : ℕ) (ts : List ℕ) → one_of x there ≡ true → Gains count ws n (x ∷ ts) ws n ts
  gains_known x ts e = record {
    apart = only_none ws;
    marked = m;
    list = ap (λ (l : List ℕ). there ++ l) (sym (fresh_known there ts x e));
    stack = λ s. refl;
  }

-- ---- one after the other

pub stacks_known : (ws : List ℕ) (count n s x : ℕ) (ts : List ℕ) → Piled ws count n s → one_of x (list_in ws n) ≡ true → Stacks count ws n s (x ∷ ts) ws n s ts
stacks_known ws count n s x ts p e = record {
  apart = only_none ws;
  piled = p;
  list = ap (λ (l : List ℕ). list_in ws n ++ l) (sym (fresh_known (list_in ws n) ts x e));
  stack = ap (λ (l : List ℕ). stack_in ws s ++ l) (sym (fresh_known (list_in ws n) ts x e));
  level = omega arith;
}

pub stacks_refl : (ws : List ℕ) (count n s : ℕ) (ts : List ℕ) → Piled ws count n s → Stacks count ws n s ts ws n s ts
stacks_refl ws count n s ts p = record { apart = only_none ws; piled = p; list = refl; stack = refl; level = omega arith }

pub stacks_trans : {count : ℕ} {ws : List ℕ} {n s : ℕ} {all vs : List ℕ} {m k : ℕ} {mid us : List ℕ} {p q : ℕ} {left : List ℕ}
    → Stacks count ws n s all vs m k mid → Stacks count vs m k mid us p q left → Stacks count ws n s all us p q left
stacks_trans a b = record {
  apart = only_then a.apart b.apart;
  piled = b.piled;
  list = b.list ∙ a.list;
  stack = b.stack ∙ a.stack;
  level = omega (arith, a.level, b.level);
}

-- those of one list, in front of others
module _ (count : ℕ) (ws : List ℕ) (n s : ℕ) (ts vs : List ℕ) (m k : ℕ) (a : Stacks count ws n s ts vs m k []) where
  pub stacks_list : list_in vs m ≡ list_in ws n ++ fresh (list_in ws n) ts
  stacks_list = sym (append-nil (list_in vs m)) ∙ ap (λ (l : List ℕ). list_in vs m ++ l) (sym (fresh_none (list_in vs m))) ∙ a.list

  pub stacks_stack : stack_in vs k ≡ stack_in ws s ++ fresh (list_in ws n) ts
  stacks_stack = sym (append-nil (stack_in vs k)) ∙ ap (λ (l : List ℕ). stack_in vs k ++ l) (sym (fresh_none (list_in vs m))) ∙ a.stack

  joined : (front us : List ℕ) → front ++ fresh (list_in ws n) ts ++ fresh (list_in ws n ++ fresh (list_in ws n) ts) us ≡ front ++ fresh (list_in ws n) (ts ++ us)
  joined front us =
      append_assoc front (fresh (list_in ws n) ts) (fresh (list_in ws n ++ fresh (list_in ws n) ts) us)
      ∙ ap (λ (l : List ℕ). front ++ l) (sym (fresh_append (list_in ws n) ts us))

  pub stacks_more : (us : List ℕ) → Stacks count ws n s (ts ++ us) vs m k us
  stacks_more us = record {
    apart = a.apart;
    piled = a.piled;
    list = ap (λ (l : List ℕ). l ++ fresh l us) stacks_list ∙ joined (list_in ws n) us;
    stack = ap (λ (l : List ℕ). l ++ fresh (list_in vs m) us) stacks_stack
        ∙ ap (λ (l : List ℕ). stack_in ws s ++ fresh (list_in ws n) ts ++ fresh l us) stacks_list
        ∙ joined (stack_in ws s) us;
    level = a.level;
  }
