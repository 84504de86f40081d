-- How a node stands, which is inherited on the way down: outside `/cpus`, at or below a listed node or an exclusion or neither; at
-- or below `/cpus`, kept or not.
use Rattle.std.specs.Prelude.{◌≡◌, refl, Bool, true, false, not, ◌&&◌, ◌||◌, List, eqb, length, if◌then◌else◌}
use Rattle.std.proofs.Common.{sym, ◌∙◌, arith, eqb-true}
use Rattle.std.proofs.Math.Path.{ap}
use Prim.Native.Nat.{ℕ, suc, ◌<◌}
use Rattle.rules.specs.Lists.{one_of, any, keep}
use Rattle.rules.specs.Tree.{Tree, node, below, Frame, frame, numbers}
use Rattle.rules.specs.Listing.{within}
use Rattle.rules.specs.Copy.{Asked, near, null, is_cpus, picked}
use Rattle.rules.proofs.Laws.Tests.{and_none}
use Rattle.rules.proofs.Laws.Lists.{one_keep}
use Rattle.rules.specs.Laws.Paths.{Formed}
use Rattle.rules.proofs.Laws.Listing.{within_root, within_step}
use Rattle.rules.proofs.Laws.Copy.{near_split, cpus_root, is_cpus_up}
use Rattle.picks.specs.declared.standing.Standing.{Standing}
use Rattle.picks.specs.declared.standing.Standing.TheVariants.{Plain, Listed, Excluded, Kept, Dropped}

-- the word that stands for it in the work space; a word that stands for none counts as Plain
abbrev pub word_of : Standing → ℕ
word_of Plain = 0
word_of Listed = 1
word_of Excluded = 2
word_of Kept = 3
word_of Dropped = 4

abbrev pub standing_in : ℕ → Standing
standing_in w = if eqb w 1 then Listed else (if eqb w 2 then Excluded else (if eqb w 3 then Kept else (if eqb w 4 then Dropped else Plain)))

abbrev pub standing : (none inside strange out listed : Bool) → Standing
standing none inside strange out listed =
    if inside then (if none || strange then Dropped else Kept) else (if out then Excluded else (if listed then Listed else Plain))

-- outside `/cpus`, a node's own tests, and how its parent stands
abbrev pub outside : Standing → (out listed : Bool) → Standing
outside Excluded out listed = Excluded
outside Plain out listed = if out then Excluded else (if listed then Listed else Plain)
outside Listed out listed = if out then Excluded else (if listed then Listed else Listed)
outside Kept out listed = if out then Excluded else (if listed then Listed else Kept)
outside Dropped out listed = if out then Excluded else (if listed then Listed else Dropped)

-- the same of any node but `/cpus` itself
abbrev pub under : (strange out listed : Bool) → Standing → Standing
under strange out listed Kept = if strange then Dropped else Kept
under strange out listed Dropped = Dropped
under strange out listed Excluded = outside Excluded out listed
under strange out listed Listed = outside Listed out listed
under strange out listed Plain = outside Plain out listed

abbrev pub next : (none cpus strange out listed : Bool) → Standing → Standing
next none cpus strange out listed p = if cpus then (if none then Dropped else Kept) else under strange out listed p

-- whether a node that stands so, and is above a listed one or not, is copied; the root is
abbrev pub wanted : Standing → (over : Bool) → Bool
wanted Plain over = over
wanted Listed over = true
wanted Excluded over = false
wanted Kept over = true
wanted Dropped over = false

abbrev pub taken : (root : Bool) → Standing → (over : Bool) → Bool
taken root s over = root || wanted s over

unfoldable pub standing_of : Frame → (strange : ℕ → Bool) → (ids excl ls : List ℕ) → ℕ → Standing
standing_of f strange ids excl ls i =
    standing (null ids) (within f (keep (is_cpus f) (numbers f)) i) (within f (keep strange (numbers f)) i) (within f excl i) (within f ls i)

-- ---- their laws

pub word_back : (s : Standing) → standing_in (word_of s) ≡ s
word_back Plain = refl
word_back Listed = refl
word_back Excluded = refl
word_back Kept = refl
word_back Dropped = refl

pub next_standing : (n c s x w C S X W : Bool) → (c ≡ true → (s ≡ false) × (S ≡ false)) → next n c s x w (standing n C S X W) ≡ standing n (c || C) (s || S) (x || X) (w || W)
next_standing n true s x w C S X W h = rw ((h refl).0, (h refl).1) (by n)
  where
    by : (n : Bool) → ◌≡◌ {A = Standing} (if n then Dropped else Kept) (if n || false then Dropped else Kept)
    by true = refl
    by false = refl
next_standing true false s x w true S X W h = by s S
  where
    by : (s S : Bool) → next true false s x w (standing true true S X W) ≡ standing true true (s || S) (x || X) (w || W)
    by true true = refl
    by true false = refl
    by false true = refl
    by false false = refl
next_standing false false s x w true S X W h = by s S
  where
    by : (s S : Bool) → next false false s x w (standing false true S X W) ≡ standing false true (s || S) (x || X) (w || W)
    by true true = refl
    by true false = refl
    by false true = refl
    by false false = refl
next_standing n false s x w false S X W h = by x w X W
  where
    by : (x w X W : Bool) → next n false s x w (standing n false S X W) ≡ standing n false (s || S) (x || X) (w || W)
    by true true true true = refl
    by true true true false = refl
    by true true false true = refl
    by true true false false = refl
    by true false true true = refl
    by true false true false = refl
    by true false false true = refl
    by true false false false = refl
    by false true true true = refl
    by false true true false = refl
    by false true false true = refl
    by false true false false = refl
    by false false true true = refl
    by false false true false = refl
    by false false false true = refl
    by false false false false = refl

module _ (t : Tree) (w : Formed t) where
  module _ (strange : ℕ → Bool) (ids excl ls : List ℕ) (top : (node t 0).parent ≡ 0) (tame : (i : ℕ) → is_cpus (frame t) (node t i).parent ≡ false → strange i ≡ false) where
    abbrev cpus : List ℕ
    cpus = keep (is_cpus (frame t)) (numbers (frame t))

    abbrev strangers : List ℕ
    strangers = keep strange (numbers (frame t))

    root_tame : strange 0 ≡ false
    root_tame = tame 0 (ap (is_cpus (frame t)) top ∙ cpus_root (frame t))

    cpus_tame : (i : ℕ) → is_cpus (frame t) i ≡ true → (strange i ≡ false) × ((node t i).parent ≡ 0)
    cpus_tame i e =
        let z : (node t i).parent ≡ 0 = eqb-true (node t i).parent 0 (is_cpus_up (frame t) i e) in
        (tame i (ap (is_cpus (frame t)) z ∙ cpus_root (frame t)), z)

    pub standing_root : 0 < length t → next (null ids) (is_cpus (frame t) 0) (strange 0) (one_of 0 excl) (one_of 0 ls) Plain ≡ standing_of (frame t) strange ids excl ls 0
    unfolding standing_of
    standing_root h =
        rw (within_root t cpus, within_root t strangers, within_root t excl, within_root t ls, one_keep (is_cpus (frame t)) (frame t) 0 h, one_keep strange (frame t) 0 h, cpus_root (frame t))

    pub standing_step : (i : ℕ) → suc i < length t
        → next (null ids) (is_cpus (frame t) (suc i)) (strange (suc i)) (one_of (suc i) excl) (one_of (suc i) ls) (standing_of (frame t) strange ids excl ls (node t (suc i)).parent)
        ≡ standing_of (frame t) strange ids excl ls (suc i)
    unfolding standing_of
    standing_step i h =
        let p : ℕ = (node t (suc i)).parent in
        next_standing (null ids) (is_cpus (frame t) (suc i)) (strange (suc i)) (one_of (suc i) excl) (one_of (suc i) ls) (within (frame t) cpus p) (within (frame t) strangers p) (within (frame t) excl p) (within (frame t) ls p)
        (λ e. let c = cpus_tame (suc i) e in (c.0, ap (within (frame t) strangers) c.1 ∙ within_root t strangers ∙ one_keep strange (frame t) 0 (omega arith) ∙ root_tame))
        ∙ rw (within_step t w cpus i h, within_step t w strangers i h, within_step t w excl i h, within_step t w ls i h, one_keep (is_cpus (frame t)) (frame t) (suc i) h, one_keep strange (frame t) (suc i) h)

-- WHICH NODES ARE COPIED, by how they stand and what is below them
pub taken_picked : (q : Asked) (t : Tree) (strange : ℕ → Bool) (ls : List ℕ) (i : ℕ)
    → taken (eqb i 0) (standing_of (frame t) strange q.ids q.excl ls i) (any (below t i) ls) ≡ picked q (frame t) strange ls i
unfolding standing_of picked
taken_picked q t strange ls i =
    by (eqb i 0) (null q.ids) (within (frame t) (keep (is_cpus (frame t)) (numbers (frame t))) i) (within (frame t) (keep strange (numbers (frame t))) i) (within (frame t) q.excl i) (within (frame t) ls i) (any (below t i) ls) (near (frame t) ls i) (near_split t ls i)
  where
    by : (z n C S X W o a : Bool) → a ≡ (W || o) → taken z (standing n C S X W) o ≡ (z || elim C [ true ↦ not n && not S | false ↦ a && not X ])
    by true n C S X W o a e = refl
    by false true true true X W o a e = refl
    by false true true false X W o a e = refl
    by false false true true X W o a e = refl
    by false false true false X W o a e = refl
    by false n false S true W o a e = rw e (sym (and_none (W || o)))
    by false n false S false true o a e = rw e
    by false n false S false false true a e = rw e
    by false n false S false false false a e = rw e
