-- The laws of start nodes: they are the nodes within the configured ones, in byte order of path, and those below one configured
-- node are found among them in their order.
use Rattle.std.specs.Prelude.{◌≡◌, refl, Bool, true, false, ◌||◌, List, ℕ, ◌<◌, length}
use Rattle.std.proofs.Math.Logic.{inl, inr}
use mathlib.Core.List.Memᴰ
use Rattle.std.proofs.Math.Option.{none}
use Rattle.std.proofs.Common.{arith, eqb-true, eq-eqb}
use Rattle.std.proofs.Math.Dec.{eqb}
use Rattle.rules.specs.Lists.{keep, sort}
use Rattle.rules.specs.Tree.{Tree, frame, below, path, numbers, numbers_from}
use Rattle.rules.specs.References.{Rules}
use Rattle.rules.specs.Listing.{◌∈◌, nodes_below, given_nodes, starts, within}
use Rattle.rules.proofs.Laws.Tests.{or_cases, or_left, or_right}
use Rattle.rules.specs.Laws.Lists.{Distinct}
use Rattle.rules.proofs.Laws.Lists.{keep_of, of_keep, keep_distinct, any_yes, yes_any, numbers_mem, mem_numbers, distinct_numbers}
use Rattle.rules.proofs.Laws.Order.{Ascending, sort_of, of_sort, sort_ascending, ascending_unique, keep_ascending}
use Rattle.rules.specs.Laws.Paths.{Formed}
use Rattle.rules.proofs.Laws.Listing.{below_of, of_below, gathered, keyed_of, given_small, starts_ascending, starts_of_lem, of_starts, conf_given, under_given}

-- the rules of references play no part in them
no_rules : Rules
no_rules = record { refers = λ n. false; cells_name = λ n. none }

module _ (t : Tree) (w : Formed t) (conf : List ℕ) (once : Distinct conf) (small : (x : ℕ) → x ∈ conf → x < length t) where
  -- the numbers of a tree's nodes that pass a test, in byte order of path
  pub sorted_ascending : (f : ℕ → Bool) (from n : ℕ) → ((x : ℕ) → x ∈ numbers_from from n → x < length t)
      → Ascending (path t) (sort (path t) (keep f (numbers_from from n)))
  sorted_ascending f from n h =
      sort_ascending (path t)
      (keyed_of no_rules t w conf once small (keep_distinct f (distinct_numbers from n)) (λ x m. h x (keep_of f (numbers_from from n) x m).0))

  number_small : (x : ℕ) → x ∈ numbers_from 0 (length t) → x < length t
  number_small x m = omega (arith, (numbers_mem 0 (length t) x m).1)

  within_given : (x : ℕ) → x < length t → within (frame t) conf x ≡ true → x ∈ given_nodes (frame t) conf
  unfolding within
  within_given x h e =
      let r = any_yes (λ (d : ℕ). eqb x d || below t d x) conf e in
      elim (or_cases (eqb x r.0) (below t r.0 x) r.2) [
        | inl q ↦ conf_given no_rules t w conf once small x (Memᴰ.cast (eqb-true x r.0 q) r.1)
        | inr b ↦ under_given no_rules t w conf once small r.0 x r.1 h b
      ]

  given_within : (x : ℕ) → x ∈ given_nodes (frame t) conf → within (frame t) conf x ≡ true
  unfolding within given_nodes
  given_within x m = elim (Memᴰ.append_cases conf m) [
    | inl k ↦ yes_any (λ (d : ℕ). eqb x d || below t d x) k (or_left (eqb x x) (below t x x) (eq-eqb x x refl))
    | inr k ↦ let r = (gathered (nodes_below (frame t)) conf conf).among x k in
        yes_any (λ (d : ℕ). eqb x d || below t d x) r.1 (or_right (eqb x r.0) (below t r.0 x) (below_of t r.0 x r.2).1)
  ]

  pub start_small : (x : ℕ) → x ∈ starts (frame t) conf → x < length t
  start_small x m = given_small no_rules t w conf once small x (starts_of_lem no_rules t w conf once small x m)

  -- THE START NODES ARE THE NODES WITHIN THE CONFIGURED ONES, IN BYTE ORDER OF PATH
  pub starts_within : starts (frame t) conf ≡ sort (path t) (keep (within (frame t) conf) (numbers (frame t)))
  starts_within =
      let all : List ℕ = numbers_from 0 (length t) in
      let f : ℕ → Bool = within (frame t) conf in
      ascending_unique (path t) (starts_ascending no_rules t w conf once small) (sorted_ascending f 0 (length t) number_small)
      (λ x m. let h : x < length t = start_small x m in
      of_sort (path t) (keep f all) x
      (of_keep f (mem_numbers 0 (length t) x (omega arith) (omega arith)) (given_within x (starts_of_lem no_rules t w conf once small x m))))
      (λ x m. let k = keep_of f all x (sort_of (path t) (keep f all) x m) in
      of_starts no_rules t w conf once small x (within_given x (number_small x k.0) k.1))

  -- THOSE BELOW ONE CONFIGURED NODE ARE FOUND AMONG THEM, IN THEIR ORDER
  pub below_starts : (c : ℕ) → c ∈ conf → nodes_below (frame t) c ≡ keep (below t c) (starts (frame t) conf)
  unfolding nodes_below
  below_starts c m =
      ascending_unique (path t) (sorted_ascending (below t c) 0 (length t) number_small)
      (keep_ascending (path t) (below t c) (starts_ascending no_rules t w conf once small))
      (λ x k. let b = below_of t c x k in
      of_keep (below t c) (of_starts no_rules t w conf once small x (under_given no_rules t w conf once small c x m b.0 b.1)) b.1)
      (λ x k. let b = keep_of (below t c) (starts (frame t) conf) x k in of_below t c x (start_small x b.0) b.1)
