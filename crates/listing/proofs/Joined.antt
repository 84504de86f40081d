-- From the start nodes to the list: what each part hands to the next.
use mathlib.Core.Path.{◌≡◌, refl, sym, ap, ◌∙◌}
use mathlib.Core.Logic.{inl, inr}
use mathlib.Core.Bool.{not, ◌&&◌}
use mathlib.Core.List.Memᴰ
use mathlib.Core.List.{List, [], ◌∷◌, ◌++◌, reverse}
use Prim.Native.Nat.{ℕ, suc, ◌+◌, ◌-◌, ◌≤◌, ◌<◌}
use native.Mathlib.Omega.{arith}
use lib.Dec.{eqb}
use lib.ListN.{length, take, drop, take-append-drop}
use lib.Seq.{take-take}
use Rattle.rules.specs.Ceilings.{node_ceiling, work_words}
use Rattle.rules.specs.Octets.{Bytes, put}
use Rattle.rules.specs.Blob.{Block}
use Rattle.rules.specs.Lists.{keep, sort, fresh}
use Rattle.rules.specs.Tree.{Tree, frame, below, path}
use Rattle.rules.specs.References.{edition1, targets}
use Rattle.rules.specs.Listing.{◌∈◌, nodes_below, gather, given_nodes, starts, work, found, reached_list, within, listed}
use Rattle.rules.specs.Space.{stack_at, list_in, stack_in}
use Rattle.rules.proofs.Laws.Octets.{length_lay, lay_put, part_put}
use Rattle.rules.specs.Laws.Lists.{Distinct, none, more}
use Rattle.rules.proofs.Laws.Lists.{mem_one_of, not_one_of, fresh_known, fresh_new}
use Rattle.rules.specs.Laws.Tabled.{tree_in}
use Rattle.rules.proofs.Laws.Tabled.{tree_length}
use Rattle.rules.proofs.Laws.Order.{insert_length}
use Rattle.rules.proofs.Laws.Listing.{starts_of_lem, of_starts}
use Rattle.rules.proofs.Laws.Starts.{start_small, below_starts}
use Rattle.rules.specs.Laws.Kept.{Kept}
use Rattle.rules.proofs.Laws.Kept.{lay_alike, lay_behind, tree_alike, only_then, only_kept, marks_behind, list_behind, stack_behind, names_behind, names_inside}
use Rattle.order.specs.Starts.{Asked, Started}
use Rattle.listing.specs.State.{Apart, Piled, Gains}
use Rattle.listing.specs.Given.{below_in, with_below, Gathers}
use Rattle.listing.specs.Walk.{Walked}
use Rattle.listing.specs.Sift.{spared, Sifted}
use Rattle.listing.specs.Lists.{Reaches, Lists}
use Rattle.listing.proofs.Fresh.{Alike, alike_by, fresh_none, work_same}
use Rattle.listing.proofs.Parts.{list_length_lem}
use Rattle.listing.proofs.Gained.{no_list, gathers_list}

-- ---- lists

sort_length : {A : Type 0} (key : A → Bytes) (l : List A) → length (sort key l) ≡ length l
unfolding sort
sort_length key [] = refl
sort_length key (x ∷ l) = insert_length key x (sort key l) ∙ ap suc (sort_length key l)

-- each alone, of a list without repeats
gather_distinct : {l : List ℕ} → Distinct l → (noted : List ℕ) → ((x : ℕ) → x ∈ l → x ∈ noted → ⊥) → gather (λ c. c ∷ []) noted l ≡ l
unfolding gather
gather_distinct none noted h = refl
gather_distinct (more {x = x} {l = l} n d) noted h =
    ap (λ (new : List ℕ). new ++ gather (λ c. c ∷ []) (new ++ noted) l)
    (fresh_new noted [] x (not_one_of x noted (λ m. h x (Memᴰ.head refl) m)) ∙ ap (λ (k : List ℕ). x ∷ k) (fresh_none (x ∷ noted)))
    ∙ ap (λ (k : List ℕ). x ∷ k) (gather_distinct d (x ∷ noted) apart)
  where
    apart : (y : ℕ) → y ∈ l → y ∈ x ∷ noted → ⊥
    apart y p q = elim (Memᴰ.cases_cons q) [ inl e ↦ n (Memᴰ.cast (sym e) p) | inr k ↦ h y (Memᴰ.tail p) k ]

-- each with what it brings, where each is noted
gather_noted : (f : ℕ → List ℕ) (cs noted : List ℕ) → ((c : ℕ) → c ∈ cs → c ∈ noted) → gather (λ c. c ∷ f c) noted cs ≡ gather f noted cs
unfolding gather
gather_noted f [] noted h = refl
gather_noted f (c ∷ cs) noted h =
    let new : List ℕ = fresh noted (f c) in
    ap (λ (l : List ℕ). l ++ gather (λ d. d ∷ f d) (l ++ noted) cs) (fresh_known noted (f c) c (mem_one_of (h c (Memᴰ.head refl))))
    ∙ ap (λ (l : List ℕ). new ++ l) (gather_noted f cs (new ++ noted) (λ d m. Memᴰ.append_right new (h d (Memᴰ.tail m))))

gather_by : (f g : ℕ → List ℕ) (cs noted : List ℕ) → ((c : ℕ) → c ∈ cs → f c ≡ g c) → gather f noted cs ≡ gather g noted cs
unfolding gather
gather_by f g [] noted h = refl
gather_by f g (c ∷ cs) noted h =
    ap (λ (l : List ℕ). fresh noted (f c) ++ l) (gather_by f g cs (fresh noted (f c) ++ noted) (λ d m. h d (Memᴰ.tail m)))
    ∙ ap (λ (l : List ℕ). fresh noted l ++ gather g (fresh noted l ++ noted) cs) (h c (Memᴰ.head refl))

-- ---- the start nodes

module _ (b : Block) (ws : List ℕ) (count : ℕ) (conf : List ℕ) (q : Asked b ws count conf) where
  abbrev tree : Tree
  tree = tree_in b ws count

  abbrev first : List ℕ
  first = starts (frame tree) conf

  small : (x : ℕ) → x ∈ conf → x < length tree
  small x m = omega (arith, q.small x m, tree_length b ws count 0)

  module _ (s : ℕ) (few : s ≤ count) (ws₁ : List ℕ) (started : Started b ws count conf s ws₁) where
    fits : stack_at + length first ≤ work_words
    fits = omega (arith, few, started.many, q.kept.few, names_behind, names_inside)

    laid : ws₁ ≡ put ws stack_at first
    laid = started.laid ∙ lay_put ws stack_at first (omega (arith, fits, q.kept.room))

    pub start_apart : Apart ws ws₁
    start_apart = record {
      size = ap length started.laid ∙ length_lay ws stack_at first;
      before = rw started.laid (lay_alike ws stack_at first (omega (arith, marks_behind, list_behind, stack_behind)));
      behind = λ i h. rw started.laid (lay_behind ws stack_at first 0 i (omega (arith, fits)));
    }

    start_stack : stack_in ws₁ s ≡ first
    unfolding stack_in
    start_stack =
        ap (λ (vs : List ℕ). take s (drop stack_at vs)) laid
        ∙ ap (λ (k : ℕ). take k (drop stack_at (put ws stack_at first))) started.many
        ∙ part_put ws stack_at first (omega (arith, fits, q.kept.room))

    start_nodes : (x : ℕ) → x ∈ first → x < count
    start_nodes x m = omega (arith, start_small tree q.kept.formed conf q.once small x m, tree_length b ws count 0)

    -- and of any number of the first of them
    start_upto : (k x : ℕ) → x ∈ stack_in ws₁ k → k ≤ s → x < count
    unfolding stack_in
    start_upto k x m h =
        let e : stack_in ws₁ k ≡ take k first = sym (take-take k s (drop stack_at ws₁) h) ∙ ap (take k) start_stack in
        start_nodes x (rw (take-append-drop k first) at (Memᴰ.append_left (drop k first) (rw e at m)))

    -- ---- no node listed

    module _ (ws₂ : List ℕ) (z : Gains count ws₁ 0 [] ws₂ 0 []) where
      pub clear-nodes : {k : ℕ} (x : ℕ) → x ∈ stack_in ws₂ k → k ≤ s → x < count
      clear-nodes {k} x m h = start_upto k x (rw (z.stack k) at m) h

      -- ---- the configured nodes

      module _ (ws₃ : List ℕ) (n₃ : ℕ) (g : Gathers count ws₂ 0 (with_below b ws₂ count 0) conf ws₃ n₃ []) where
        alone : (c : ℕ) → with_below b ws₂ count 0 c ≡ c ∷ []
        unfolding keep stack_in
        alone c = refl

        conf-list : list_in ws₃ n₃ ≡ conf
        conf-list =
            gathers_list count ws₂ 0 (with_below b ws₂ count 0) conf ws₃ n₃ g
            ∙ ap (λ (l : List ℕ). l ++ gather (with_below b ws₂ count 0) l conf) (no_list ws₂)
            ∙ gather_by (with_below b ws₂ count 0) (λ c. c ∷ []) conf [] (λ c m. alone c)
            ∙ gather_distinct q.once [] (λ x m k. Memᴰ.not-nil k)

        conf-stack : stack_in ws₃ s ≡ first
        conf-stack = g.stack s ∙ z.stack s ∙ start_stack

        conf-apart : Apart ws ws₃
        conf-apart = only_then start_apart (only_then z.apart g.apart)

        -- ---- the given nodes

        module _ (ws₄ : List ℕ) (n₄ : ℕ) (h : Gathers count ws₃ n₃ (with_below b ws₃ count s) conf ws₄ n₄ []) where
          below_one : (c : ℕ) → c ∈ conf → below_in b ws₃ count s c ≡ nodes_below (frame tree) c
          below_one c m =
              ap (λ (t : Tree). keep (below t c) (stack_in ws₃ s)) (tree_alike b ws ws₃ count q.kept.few conf-apart.before)
              ∙ ap (keep (below tree c)) conf-stack
              ∙ sym (below_starts tree q.kept.formed conf q.once small c m)

          given-list : list_in ws₄ n₄ ≡ given_nodes (frame tree) conf
          unfolding given_nodes
          given-list =
              gathers_list count ws₃ n₃ (with_below b ws₃ count s) conf ws₄ n₄ h
              ∙ ap (λ (l : List ℕ). l ++ gather (with_below b ws₃ count s) l conf) conf-list
              ∙ ap (λ (l : List ℕ). conf ++ l) (gather_noted (below_in b ws₃ count s) conf conf (λ c m. m) ∙ gather_by (below_in b ws₃ count s) (nodes_below (frame tree)) conf conf below_one)

          given-stack : stack_in ws₄ s ≡ first
          given-stack = h.stack s ∙ conf-stack

          given-apart : Apart ws ws₄
          given-apart = only_then conf-apart h.apart

          given-many : n₄ ≡ s
          unfolding starts
          given-many =
              sym (list_length_lem ws₄ h.marked.room n₄ (omega (arith, h.marked.short, h.marked.few)))
              ∙ ap length given-list
              ∙ sym (sort_length (path tree) (given_nodes (frame tree) conf))
              ∙ sym started.many

          pub given-kept : Kept b ws₄ count
          given-kept = only_kept b count (omega arith) given-apart q.kept

          pub given-piled : Piled ws₄ count n₄ s
          given-piled = record {
            marked = h.marked;
            least = omega (arith, given-many);
            nodes = rw given-stack start_nodes;
          }

          -- ---- what is reached

          module _ (ws₅ : List ℕ) (n₅ : ℕ) (w : Walked b ws₄ count n₄ s ws₅ n₅) where
            same : Alike (given_nodes (frame tree) conf) first
            same = alike_by (given_nodes (frame tree) conf) first
                (of_starts edition1 tree q.kept.formed conf q.once small)
                (starts_of_lem edition1 tree q.kept.formed conf q.once small)

            reached-list : list_in ws₅ n₅ ≡ reached_list edition1 tree conf
            unfolding reached_list found
            reached-list =
                let given : List ℕ = given_nodes (frame tree) conf in
                let k : count + s - n₄ ≡ length tree = omega (arith, given-many, tree_length b ws count 0) in
                w.list
                ∙ ap (λ (t : Tree). list_in ws₄ n₄ ++ work (targets edition1 t) (count + s - n₄) (reverse (stack_in ws₄ s)) (list_in ws₄ n₄))
                (tree_alike b ws ws₄ count q.kept.few given-apart.before)
                ∙ ap (λ (l : List ℕ). l ++ work (targets edition1 tree) (count + s - n₄) (reverse (stack_in ws₄ s)) l) given-list
                ∙ ap (λ (l : List ℕ). given ++ work (targets edition1 tree) (count + s - n₄) (reverse l) given) given-stack
                ∙ ap (λ (j : ℕ). given ++ work (targets edition1 tree) j (reverse first) given) k
                ∙ ap (λ (l : List ℕ). given ++ l) (work_same (targets edition1 tree) (length tree) (reverse first) given first same)

            reached-short : n₅ ≤ node_ceiling
            reached-short = omega (arith, w.marked.short, w.marked.few)

            pub reaches : Reaches b ws count conf ws₅ n₅
            unfolding list_in
            reaches = record {
              apart = only_then given-apart w.apart;
              short = reached-short;
              many = sym (list_length_lem ws₅ w.marked.room n₅ reached-short) ∙ ap length reached-list;
              list = reached-list;
            }

-- ---- what is listed

module _ (b : Block) (ws : List ℕ) (count : ℕ) (conf excl : List ℕ) (k : Kept b ws count) (vs : List ℕ) (n : ℕ) (r : Reaches b ws count conf vs n)
    (us : List ℕ) (m : ℕ) (s : Sifted b vs count excl n us m) where
  listed_list : list_in us m ≡ listed edition1 (tree_in b ws count) conf excl
  unfolding listed list_in
  listed_list =
      s.list
      ∙ ap (λ (t : Tree). keep (λ (x : ℕ). not (eqb x 0) && not (within (frame t) excl x)) (list_in vs n)) (tree_alike b ws vs count k.few r.apart.before)
      ∙ ap (keep (spared b ws count excl)) r.list

  short : m ≤ node_ceiling
  short = omega (arith, s.short, r.short)

  pub lists : Lists b ws count conf excl us m
  unfolding list_in
  lists = record {
    apart = only_then r.apart s.apart;
    short = short;
    many = sym (list_length_lem us (omega (arith, k.room, r.apart.size, s.apart.size)) m short) ∙ ap length listed_list;
    list = listed_list;
  }
