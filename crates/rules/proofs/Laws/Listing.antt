-- The laws of the list: it holds exactly what 01's rule says, each once.
use Rattle.std.specs.Prelude.{◌≡◌, refl, ◌⊎◌, ◌↔◌, Bool, true, false, ◌&&◌, ◌||◌, List, [], ◌∷◌, ◌++◌, map, reverse, length, get_or}
use Rattle.std.proofs.Math.Path.{sym, ap}
use Rattle.std.proofs.Common.{◌∙◌, arith}
use Rattle.std.proofs.Math.Logic.{inl, inr}
use Rattle.std.proofs.Math.Bool.{not}
use mathlib.Core.List.Memᴰ
use Prim.Native.Nat.{ℕ, suc, ◌<◌}
use Rattle.std.proofs.lemmas.List.{length-map}
use Rattle.std.proofs.Math.Dec.{eqb}
use borrow.Author.Tests.{eqb-false, ne_eqb, not-true}
use Rattle.rules.specs.Octets.{Bytes}
use Rattle.rules.specs.Lists.{one_of, any, keep, fresh}
use Rattle.rules.specs.Tree.{Tree, node, climb, frame, below, path, numbers_from}
use Rattle.rules.specs.References.{Rules, targets}
use Rattle.rules.specs.Listing.{◌∈◌, Reached, configured, under, referenced, Spared, Listed, nodes_below, gather, given_nodes, starts, found, reached_list, within, listed}
use Rattle.rules.proofs.Laws.Tests.{or_false, or_nothing, and_true}
use Rattle.rules.specs.Laws.Lists.{Distinct, none, more}
use Rattle.rules.proofs.Laws.Lists.{keep_of, of_keep, keep_distinct, any_no, no_any, any_same, any_or, one_any, numbers_mem, mem_numbers, distinct_append, distinct_at, mem_at, map_at, Fresh, fresh_is}
use Rattle.rules.proofs.Laws.Order.{sort_of, of_sort, Ascending, empty, put, Keyed, unkeyed, keyed, sort_ascending, before_irrefl}
use Rattle.rules.proofs.Laws.References.{targets_range}
use Rattle.rules.specs.Laws.Paths.{Formed}
use Rattle.rules.proofs.Laws.Paths.{below_step, path_known}
use Rattle.rules.proofs.Laws.Work.{found_iff, work_once, Reach, started, target}

pub below_of : (t : Tree) (p x : ℕ) → x ∈ nodes_below (frame t) p → (x < length t) × (below t p x ≡ true)
unfolding nodes_below
below_of t p x m =
    let all : List ℕ = numbers_from 0 (length t) in
    let k = keep_of (below t p) all x (sort_of (path t) (keep (below t p) all) x m) in
    (omega (arith, (numbers_mem 0 (length t) x k.0).1), k.1)

pub of_below : (t : Tree) (p x : ℕ) → x < length t → below t p x ≡ true → x ∈ nodes_below (frame t) p
unfolding nodes_below
of_below t p x h b =
    let all : List ℕ = numbers_from 0 (length t) in
    of_sort (path t) (keep (below t p) all) x (of_keep (below t p) (mem_numbers 0 (length t) x (omega arith) (omega arith)) b)

pub record Gathered (f : ℕ → List ℕ) (noted cs out : List ℕ) : Type 0 where
  pub among : (x : ℕ) → x ∈ out → (c : ℕ) × (c ∈ cs) × (x ∈ f c)
  pub all : (x c : ℕ) → c ∈ cs → x ∈ f c → (x ∈ out) ⊎ (x ∈ noted)
  pub apart : (x : ℕ) → x ∈ out → x ∈ noted → ⊥
  pub once : Distinct out

pub gathered : (f : ℕ → List ℕ) (noted cs : List ℕ) → Gathered f noted cs (gather f noted cs)
unfolding gather
gathered f noted [] =
    record {
      among = λ x m. absurd (Memᴰ.not-nil m);
      all = λ x c m k. absurd (Memᴰ.not-nil m);
      apart = λ x m k. Memᴰ.not-nil m;
      once = none;
    }
gathered f noted (c ∷ cs) = go (gathered f (new ++ noted) cs)
  where
    new : List ℕ
    new = fresh noted (f c)

    n : Fresh noted (f c) new
    n = fresh_is noted (f c)

    out : List ℕ
    out = gather f (new ++ noted) cs

    first : (x : ℕ) → (x ∈ new) ⊎ (x ∈ noted) → (x ∈ new ++ out) ⊎ (x ∈ noted)
    first x (inl m) = inl (Memᴰ.append_left out m)
    first x (inr m) = inr m

    later : (x : ℕ) → (x ∈ out) ⊎ (x ∈ new ++ noted) → (x ∈ new ++ out) ⊎ (x ∈ noted)
    later x (inl m) = inl (Memᴰ.append_right new m)
    later x (inr m) = elim (Memᴰ.append_cases new m) [ inl k ↦ inl (Memᴰ.append_left out k) | inr k ↦ inr k ]

    go : Gathered f (new ++ noted) cs out → Gathered f noted (c ∷ cs) (new ++ out)
    go g = record {
      among =
          λ x m. elim (Memᴰ.append_cases new m) [
            | inl k ↦ (c, Memᴰ.head refl, n.among x k)
            | inr k ↦ let r = g.among x k in (r.0, Memᴰ.tail r.1, r.2)
          ];
      all = λ x d m k. elim (Memᴰ.cases_cons m) [ inl e ↦ first x (n.all x (rw e at k)) | inr j ↦ later x (g.all x d j k) ];
      apart = λ x m k. elim (Memᴰ.append_cases new m) [ inl j ↦ n.apart x j k | inr j ↦ g.apart x j (Memᴰ.append_right new k) ];
      once = distinct_append new out n.once g.once (λ x m k. g.apart x k (Memᴰ.append_left noted m));
    }

pub ascending_distinct : {key : ℕ → Bytes} {l : List ℕ} → Ascending key l → Distinct l
ascending_distinct empty = none
ascending_distinct {key} (put {x = x} f a) = more (λ m. before_irrefl (key x) (f x m)) (ascending_distinct a)

module _ (r : Rules) (t : Tree) (w : Formed t) (conf : List ℕ) (distinct : Distinct conf) (small : (x : ℕ) → x ∈ conf → x < length t) where
  pub keyed_of : {l : List ℕ} → Distinct l → ((x : ℕ) → x ∈ l → x < length t) → Keyed (path t) l
  keyed_of none h = unkeyed
  keyed_of (more {x = x} n d) h =
      keyed (λ y m e. n (Memᴰ.cast (path_known t w x y (h x (Memᴰ.head refl)) (h y (Memᴰ.tail m)) e) m))
      (keyed_of d (λ z m. h z (Memᴰ.tail m)))

  g : Gathered (nodes_below (frame t)) conf conf (gather (nodes_below (frame t)) conf conf)
  g = gathered (nodes_below (frame t)) conf conf

  pub given_small : (x : ℕ) → x ∈ given_nodes (frame t) conf → x < length t
  unfolding given_nodes
  given_small x m = elim (Memᴰ.append_cases conf m) [ inl k ↦ small x k | inr k ↦ let c = g.among x k in (below_of t c.0 x c.2).0 ]

  pub given_distinct : Distinct (given_nodes (frame t) conf)
  unfolding given_nodes
  given_distinct = distinct_append conf (gather (nodes_below (frame t)) conf conf) distinct g.once (λ x m k. g.apart x k m)

  -- the start list is ascending by path
  pub starts_ascending : Ascending (path t) (starts (frame t) conf)
  unfolding starts
  starts_ascending = sort_ascending (path t) (keyed_of given_distinct given_small)

  pub starts_of_lem : (x : ℕ) → x ∈ starts (frame t) conf → x ∈ given_nodes (frame t) conf
  unfolding starts
  starts_of_lem x m = sort_of (path t) (given_nodes (frame t) conf) x m

  pub of_starts : (x : ℕ) → x ∈ given_nodes (frame t) conf → x ∈ starts (frame t) conf
  unfolding starts
  of_starts x m = of_sort (path t) (given_nodes (frame t) conf) x m

  pub given_reached : (x : ℕ) → x ∈ given_nodes (frame t) conf → Reached r t conf x
  unfolding given_nodes
  given_reached x m = elim (Memᴰ.append_cases conf m) [
    | inl k ↦ configured k
    | inr k ↦ let c = g.among x k in let b = below_of t c.0 x c.2 in under c.1 b.0 b.1
  ]

  pub under_given : (p x : ℕ) → p ∈ conf → x < length t → below t p x ≡ true → x ∈ given_nodes (frame t) conf
  unfolding given_nodes
  under_given p x m h b =
      elim (g.all x p m (of_below t p x h b)) [
        | inl k ↦ Memᴰ.append_right conf k
        | inr k ↦ Memᴰ.append_left (gather (nodes_below (frame t)) conf conf) k
      ]

  pub conf_given : (x : ℕ) → x ∈ conf → x ∈ given_nodes (frame t) conf
  unfolding given_nodes
  conf_given x m = Memᴰ.append_left (gather (nodes_below (frame t)) conf conf) m

  -- the two ways to say what is reached
  reach_reached : {x : ℕ} → Reach (targets r t) (starts (frame t) conf) x → Reached r t conf x
  reach_reached {x} (started m) = given_reached x (starts_of_lem x m)
  reach_reached (target h m) = referenced (reach_reached h) m

  reached_reach : {x : ℕ} → Reached r t conf x → Reach (targets r t) (starts (frame t) conf) x
  reached_reach {x} (configured m) = started (of_starts x (conf_given x m))
  reached_reach {x} (under {p = p} m h b) = started (of_starts x (under_given p x m h b))
  reached_reach (referenced h m) = target (reached_reach h) m

  out : List ℕ
  out = found (targets r t) (length t) (starts (frame t) conf)

  -- the starts are distinct nodes, so the worklist is right
  all_iff : (x : ℕ) → (x ∈ starts (frame t) conf ++ out) ↔ Reach (targets r t) (starts (frame t) conf) x
  unfolding out
  all_iff =
      found_iff (targets r t) (length t) (targets_range r t) (starts (frame t) conf) (ascending_distinct starts_ascending)
      (λ x m. given_small x (starts_of_lem x m))

  pub reached_list_iff : (x : ℕ) → (x ∈ reached_list r t conf) ↔ Reached r t conf x
  unfolding reached_list out
  reached_list_iff x = (
    λ m. reach_reached ((all_iff x).0 (to (Memᴰ.append_cases (given_nodes (frame t) conf) m))),
    λ h. back (Memᴰ.append_cases (starts (frame t) conf) ((all_iff x).1 (reached_reach h))),
  )
    where
      to : (x ∈ given_nodes (frame t) conf) ⊎ (x ∈ out) → x ∈ starts (frame t) conf ++ out
      to (inl k) = Memᴰ.append_left out (of_starts x k)
      to (inr k) = Memᴰ.append_right (starts (frame t) conf) k

      back : (x ∈ starts (frame t) conf) ⊎ (x ∈ out) → x ∈ given_nodes (frame t) conf ++ out
      back (inl k) = Memᴰ.append_left out (starts_of_lem x k)
      back (inr k) = Memᴰ.append_right (given_nodes (frame t) conf) k

  reached_list_once : Distinct (reached_list r t conf)
  unfolding reached_list found
  reached_list_once = let o = work_once (targets r t) (length t) (reverse (starts (frame t) conf)) (starts (frame t) conf) in
      distinct_append (given_nodes (frame t) conf) (found (targets r t) (length t) (starts (frame t) conf)) given_distinct o.0
      (λ x m k. o.1 x k (of_starts x m))

  pub reached_small : {x : ℕ} → Reached r t conf x → x < length t
  reached_small {x} (configured m) = small x m
  reached_small (under m h b) = h
  reached_small {x} (referenced {n = n} h m) = targets_range r t n x m

pub within_spared : (t : Tree) (excl : List ℕ) (x : ℕ) → within (frame t) excl x ≡ false → Spared t excl x
unfolding within
within_spared t excl x h e m =
    let k = or_false (eqb x e) (below t e x) (any_no (λ (d : ℕ). eqb x d || below t d x) m h) in
    (eqb-false x e k.0, k.1)

pub spared_within : (t : Tree) (excl : List ℕ) (x : ℕ) → Spared t excl x → within (frame t) excl x ≡ false
unfolding within
spared_within t excl x h = no_any (λ (d : ℕ). eqb x d || below t d x) excl (λ e m. rw (ne_eqb x e (h e m).0) (h e m).1)

module _ (r : Rules) (t : Tree) (conf excl : List ℕ) (w : Formed t) (distinct : Distinct conf) (small : (x : ℕ) → x ∈ conf → x < length t) where
  to_listed : (x : ℕ) → x ∈ listed r t conf excl → Listed r t conf excl x
  unfolding listed
  to_listed x m =
      let k = keep_of (λ (y : ℕ). not (eqb y 0) && not (within (frame t) excl y)) (reached_list r t conf) x m in
      let b = and_true (not (eqb x 0)) (not (within (frame t) excl x)) k.1 in (
        eqb-false x 0 (not-true (eqb x 0) b.0),
        (reached_list_iff r t w conf distinct small x).0 k.0,
        within_spared t excl x (not-true (within (frame t) excl x) b.1),
      )

  of_listed : (x : ℕ) → Listed r t conf excl x → x ∈ listed r t conf excl
  unfolding listed
  of_listed x h =
      of_keep (λ (y : ℕ). not (eqb y 0) && not (within (frame t) excl y)) ((reached_list_iff r t w conf distinct small x).1 h.1)
      (rw (ne_eqb x 0 h.0, spared_within t excl x h.2))

  pub listed_small : (x : ℕ) → x ∈ listed r t conf excl → x < length t
  listed_small x m = reached_small r t w conf distinct small (to_listed x m).1

  -- AND ONCE
  pub listed_distinct : Distinct (listed r t conf excl)
  unfolding listed
  listed_distinct = keep_distinct (λ (y : ℕ). not (eqb y 0) && not (within (frame t) excl y)) (reached_list_once r t w conf distinct small)

  -- the same of the paths that are answered
  pub paths_iff : (p : Bytes) → (p ∈ map (path t) (listed r t conf excl)) ↔ ((x : ℕ) × (path t x ≡ p) × Listed r t conf excl x)
  paths_iff p = (
    λ m. let k = Memᴰ.of_map (path t) (listed r t conf excl) m in (k.0, k.2, to_listed k.0 k.1),
    λ h. Memᴰ.cast (sym h.1) (Memᴰ.map (path t) (of_listed h.0 h.2)),
  )

  pub paths_once : (i j : ℕ) → i < j → j < length (map (path t) (listed r t conf excl))
      → get_or (map (path t) (listed r t conf excl)) i [] ≡ get_or (map (path t) (listed r t conf excl)) j [] → ⊥
  paths_once i j g h e =
      let n : length (map (path t) (listed r t conf excl)) ≡ length (listed r t conf excl) = length-map (listed r t conf excl) (path t) in
      let l : List ℕ = listed r t conf excl in
      let small_at : (k : ℕ) → k < length l → get_or l k 0 < length t = λ k b. listed_small (get_or l k 0) (mem_at l k 0 b) in
      distinct_at listed_distinct i j g (omega arith)
      (path_known t w (get_or l i 0) (get_or l j 0) (small_at i (omega arith)) (small_at j (omega arith))
      (sym (map_at (path t) l i 0 [] (omega arith)) ∙ e ∙ map_at (path t) l j 0 [] (omega arith)))

-- ---- a node is within some nodes if it is one of them or its parent is within them

module _ (t : Tree) where
  pub within_root : (l : List ℕ) → within (frame t) l 0 ≡ one_of 0 l
  unfolding within climb
  within_root l = any_same (λ (e : ℕ). eqb 0 e || below t e 0) (eqb 0) l (λ z m. or_nothing (eqb 0 z)) ∙ sym (one_any 0 l)

  pub within_step : Formed t → (l : List ℕ) (i : ℕ) → suc i < length t → within (frame t) l (suc i) ≡ (one_of (suc i) l || within (frame t) l (node t (suc i)).parent)
  unfolding within
  within_step w l i h =
      let p : ℕ = (node t (suc i)).parent in
      any_same (λ (e : ℕ). eqb (suc i) e || below t e (suc i)) (λ (e : ℕ). eqb (suc i) e || (eqb p e || below t e p)) l
      (λ z m. ap (λ (b : Bool). eqb (suc i) z || b) (below_step t w z i h))
      ∙ any_or (eqb (suc i)) (λ (e : ℕ). eqb p e || below t e p) l
      ∙ ap (λ (b : Bool). b || any (λ (e : ℕ). eqb p e || below t e p) l) (sym (one_any (suc i) l))
