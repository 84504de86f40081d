-- The invariant of `measure`: the sums so far, and what the rest adds to them, are those of the whole copy.
use Rattle.std.specs.Prelude.{if◌then◌else◌}
use mathlib.Core.Path.{◌≡◌, refl, sym, ap, ◌∙◌}
use mathlib.Core.Bool.{Bool}
use mathlib.Core.List.{List, [], ◌∷◌, ◌++◌, append_assoc, append-nil}
use Prim.Native.Nat.{ℕ, ◌+◌, ◌-◌, ◌*◌, ◌≤◌}
use native.Mathlib.Omega.{arith}
use lib.ListN.{length, take, drop}
use lib.Seq.{take-add, take_at, drop_at, drop-drop}
use types.Run.{OneOf}
use denote.Enum.Declared.{tag_of}
use Rattle.rules.specs.contracts.Token as tokened
use Rattle.rules.specs.Ceilings.{blob_ceiling, work_words}
use Rattle.rules.specs.Octets.{Bytes}
use Rattle.rules.specs.Blob.{Block, block_of}
use Rattle.rules.specs.Tokens.{token_at}
use Rattle.rules.specs.Events.{Event, events_in}
use Rattle.rules.specs.declared.Token.{Token}
use Rattle.rules.specs.declared.Token.TheVariants.{Item}
use Rattle.rules.specs.declared.Kind.{Kind}
use Rattle.rules.proofs.Laws.Tests.{by_test}
use Rattle.rules.proofs.Laws.Tokens.{item_ahead}
use Rattle.rules.proofs.Laws.Events.{events_all}
use Rattle.rules.proofs.Laws.Kept.{only_none, only_then}
use Rattle.guest.specs.declared.walk.Walk.{Walk}
use Rattle.std.specs.Prelude.{Option, Some, None}
use Rattle.guest.specs.declared.measured.Sum.{Sum}
use Rattle.guest.specs.Walked.{marked, copies, onward_of, sift, Above}
use Rattle.guest.specs.Measured.{is_in, names_in, prop_of, name_at, in_table, Tabled, growth_of, structure_size, Low, Entered, Sized}
use Rattle.guest.proofs.Sifts.{size_at, size_item, size_stop, names_all, names_item, names_stop}
use Rattle.guest.proofs.Noted.{kept_marked, growth_one}
use Rattle.guest.proofs.Turns.{Behind, walk_behind, names_from}
use Rattle.guest.proofs.Grown.{copy_structure, copy_strings}

-- ---- growth in two parts

growth_append : (done a b : List Bytes) → growth_of done (a ++ b) ≡ growth_of done a + growth_of (done ++ a) b
unfolding growth_of
growth_append done [] b = rw append-nil (omega arith)
growth_append done (x ∷ a) b =
    let g : ℕ = if is_in x done then 0 else length x + 1 in
    let h : growth_of ((done ++ x ∷ []) ++ a) b ≡ growth_of (done ++ x ∷ a) b = rw append_assoc in
    omega (arith, growth_append (done ++ x ∷ []) a b, h)

growth_none : (done : List Bytes) → growth_of done [] ≡ 0
unfolding growth_of
growth_none done = refl

growth_small : (t : Bytes) (done : List Bytes) (p : Option ℕ) → growth_of done (name_at t p) ≤ length t + 1
growth_small t done None = omega (arith, growth_none done)
growth_small t done (Some o) = omega (arith, growth_one t done o)

name_few : (t : Bytes) (p : Option ℕ) → length (name_at t p) ≤ 1
name_few t None = omega arith
name_few t (Some o) = omega arith

-- ---- the sums so far

pub record Counted (b : Block) (k : ℕ → Bool) (all : List Bytes) (at : ℕ) (w : Walk) (sum : Sum) : Type 0 where
  pub low : sum.structure ≤ at
  pub few : sum.props ≤ at
  pub little : sum.strings ≤ at * (blob_ceiling + 1)
  pub names : drop sum.props all ≡ names_from k b at w
  pub structure : sum.structure + size_at k b at w.next w.skipped ≡ size_at k b 0 0 0
  pub strings : sum.strings + growth_of (take sum.props all) (drop sum.props all) ≡ growth_of [] all

abbrev walk_start : Walk
walk_start = record { next = 0; skipped = 0 }

abbrev sum_start : Sum
sum_start = record { structure = 0; strings = 0; props = 0; names = 0 }

pub counted_start : (s t : Bytes) (ws : List ℕ) → Counted (block_of 0 s t) (marked ws) (names_in s t ws) 0 walk_start sum_start
counted_start s t ws = record { low = omega arith; few = omega arith; little = omega arith; names = names_all s t ws; structure = omega arith; strings = omega arith }

pub tabled_start : (t : Bytes) (ws : List ℕ) (all : List Bytes) → work_words ≤ length ws → Tabled t ws 0 (take 0 all)
unfolding in_table is_in
tabled_start t ws all h = record { few = omega arith; room = h; met = λ x e. e; all = λ l x e. e }

pub counted_low : (b : Block) (k : ℕ → Bool) (all : List Bytes) (at : ℕ) (w : Walk) (sum : Sum) → Counted b k all at w sum → at ≤ blob_ceiling → Low sum
unfolding blob_ceiling
counted_low b k all at w sum c h = record { structure = omega (arith, c.low); strings = omega (arith, c.little); props = omega (arith, c.few) }

module _ (b : Block) (k : ℕ → Bool) (all : List Bytes) (at : ℕ) (w : Walk) (sum : Sum) (c : Counted b k all at w sum)
    (i : at ≤ length b.structure) (r : Token) (e : r ≡ token_at b.structure at) where
  -- where no item follows
  pub counted_stop : OneOf (1 ∷ 2 ∷ []) (tag_of tokened.the_type r)
      → (sum.structure ≡ size_at k b 0 0 0) × (sum.strings ≡ growth_of [] all)
  counted_stop h =
      let n : drop sum.props all ≡ [] = c.names ∙ names_stop k b at w.next w.skipped i r e h in (
        omega (arith, c.structure, size_stop k b at w.next w.skipped i r e h),
        omega (arith, c.strings, ap (growth_of (take sum.props all)) n, growth_none (take sum.props all)),
      )

  module _ (kind : Kind) (next : ℕ) (f : r ≡ Item kind next) (ws vs : List ℕ) (v : Sum)
      (g : v.structure ≡ sum.structure + (if copies k w.next w.skipped kind then next - at else 0))
      (d : Entered b.strings ws vs (take sum.props all) sum v (prop_of w.skipped kind)) where
    abbrev told : List Bytes
    told = name_at b.strings (prop_of w.skipped kind)

    split : drop sum.props all ≡ told ++ names_from k b next (onward_of k w kind)
    split = c.names ∙ names_item k b at w.next w.skipped i r e kind next f

    taken : take v.props all ≡ take sum.props all ++ told
    taken =
        ap (λ (n : ℕ). take n all) d.props
        ∙ take-add sum.props (length told) all
        ∙ ap (λ (l : List Bytes). take sum.props all ++ l) (ap (take (length told)) split ∙ take_at told (names_from k b next (onward_of k w kind)) (length told) refl)

    dropped : drop v.props all ≡ names_from k b next (onward_of k w kind)
    dropped =
        ap (λ (n : ℕ). drop n all) d.props
        ∙ sym (drop-drop (length told) sum.props all)
        ∙ ap (drop (length told)) split
        ∙ drop_at told (names_from k b next (onward_of k w kind)) (length told) refl

    extent : (if copies k w.next w.skipped kind then next - at else 0) ≤ next - at
    extent = by_test (copies k w.next w.skipped kind) (λ h. rw h (omega arith)) (λ h. rw h (omega arith))

    summed : v.strings + growth_of (take v.props all) (drop v.props all) ≡ growth_of [] all
    summed =
        rw (taken, dropped)
        (omega (arith, c.strings, d.strings, ap (growth_of (take sum.props all)) split, growth_append (take sum.props all) told (names_from k b next (onward_of k w kind))))

    -- ON TO THE NEXT TOKEN
    pub counted_on : length b.strings ≤ blob_ceiling → Counted b k all next (onward_of k w kind) v
    unfolding blob_ceiling
    counted_on small =
        let a = item_ahead b.structure at r kind next e f in
        record {
          low = omega (arith, g, c.low, extent, a);
          few = omega (arith, d.props, c.few, name_few b.strings (prop_of w.skipped kind), a);
          little = omega (arith, d.strings, c.little, growth_small b.strings (take sum.props all) (prop_of w.skipped kind), a);
          names = dropped;
          structure = omega (arith, c.structure, g, size_item k b at w.next w.skipped i r e kind next f);
          strings = summed;
        }

    pub tabled_on : Tabled b.strings vs v.names (take v.props all)
    tabled_on = rw taken d.tabled

-- ---- the work space changes, and its marks do not

pub names_kept : (s t : Bytes) (ws vs : List ℕ) → Above ws vs → names_in s t vs ≡ names_in s t ws
unfolding names_in
names_kept s t ws vs k = rw (kept_marked ws vs k)

pub size_all : (s t : Bytes) (ws : List ℕ) → structure_size (sift (marked ws) 0 0 (events_in (block_of 0 s t))) ≡ size_at (marked ws) (block_of 0 s t) 0 0 0
size_all s t ws = ap (λ (es : List Event). structure_size (sift (marked ws) 0 0 es)) (events_all (block_of 0 s t))

-- ---- the whole invariant

pub record Measures (s t : Bytes) (ws₀ ws : List ℕ) (at : ℕ) (w : Walk) (sum : Sum) : Type 0 where
  pub inside : at ≤ length s
  pub behind : Behind w at
  pub kept : Above ws₀ ws
  pub counted : Counted (block_of 0 s t) (marked ws) (names_in s t ws) at w sum
  pub tabled : Tabled t ws sum.names (take sum.props (names_in s t ws))

pub measures_start : (s t : Bytes) (ws : List ℕ) → work_words ≤ length ws → Measures s t ws ws 0 walk_start sum_start
measures_start s t ws h =
    record { inside = omega arith; behind = (omega arith, omega arith); kept = only_none ws; counted = counted_start s t ws; tabled = tabled_start t ws (names_in s t ws) h }

module _ (s t : Bytes) (ws₀ ws : List ℕ) (at : ℕ) (w : Walk) (sum : Sum) (m : Measures s t ws₀ ws at w sum)
    (short : length s ≤ blob_ceiling) (brief : length t ≤ blob_ceiling) (r : Token) (e : r ≡ token_at s at) where
  pub measures_low : Low sum
  measures_low = counted_low (block_of 0 s t) (marked ws) (names_in s t ws) at w sum m.counted (omega (arith, m.inside))

  pub measures_stop : OneOf (1 ∷ 2 ∷ []) (tag_of tokened.the_type r) → Sized s t ws (record { structure = sum.structure; strings = sum.strings })
  measures_stop h =
      let c = counted_stop (block_of 0 s t) (marked ws) (names_in s t ws) at w sum m.counted m.inside r e h in
      record { structure = c.0 ∙ sym (copy_structure s t ws ∙ size_all s t ws); strings = c.1 ∙ sym (copy_strings s t ws) }

  module _ (kind : Kind) (next : ℕ) (f : r ≡ Item kind next) where
    pub measures_room : sum.structure + (next - at) ≤ blob_ceiling
    measures_room = omega (arith, m.counted.low, item_ahead s at r kind next e f)

    pub measures_on : (vs : List ℕ) (v : Sum) → v.structure ≡ sum.structure + (if copies (marked ws) w.next w.skipped kind then next - at else 0)
        → Entered t ws vs (take sum.props (names_in s t ws)) sum v (prop_of w.skipped kind) → (u : Walk) → u ≡ onward_of (marked vs) w kind
        → Measures s t ws₀ vs next u v
    measures_on vs v g d u o =
        let a = item_ahead s at r kind next e f in
        let k = kept_marked ws vs d.kept in
        let n = names_kept s t ws vs d.kept in
        let q : u ≡ onward_of (marked ws) w kind = o ∙ ap (λ (l : ℕ → Bool). onward_of l w kind) k in
        record {
          inside = a.1;
          behind = walk_behind (marked vs) w u kind at next o m.behind a.0;
          kept = only_then m.kept d.kept;
          counted = rw (k, n, q) (counted_on (block_of 0 s t) (marked ws) (names_in s t ws) at w sum m.counted m.inside r e kind next f ws vs v g d brief);
          tabled = rw n (tabled_on (block_of 0 s t) (marked ws) (names_in s t ws) at w sum m.counted m.inside r e kind next f ws vs v g d);
        }
