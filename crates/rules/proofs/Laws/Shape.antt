-- The laws of the shape: what it says of a token, and of the walk behind it, that the walk passes; and what names that pass hold.
use Rattle.std.proofs.Math.Path.{◌≡◌}
use Rattle.std.specs.Prelude.{refl, Bool, not, ℕ, suc, ◌≤◌, ◌<◌, length, eqb, leb}
use Rattle.std.proofs.Common.{ap, arith}
use Rattle.std.proofs.Math.Bool.{true, false}
use mathlib.Core.List.{List, [], ◌∷◌}
use borrow.Author.Tests.{eqb-true, eqb-false, leb-false, not-true}
use Rattle.rules.specs.Ceilings.{node_ceiling, open_ceiling}
use Rattle.rules.specs.Octets.{Bytes, byte_at}
use Rattle.rules.specs.Names.{node_name_valid, node_name_reads, property_name_reads}
use Rattle.rules.specs.Outcome.{Verdict, passes}
use Rattle.rules.specs.Events.{Walk, opening, closing, holding, after}
use Rattle.rules.specs.Listing.{◌∈◌}
use Rattle.rules.proofs.Laws.Tests.{by_test, never, and_true}
use Rattle.rules.proofs.Laws.Lists.{every_mem}
use Rattle.rules.proofs.Laws.Verdicts.{gives_refuses}
use Rattle.rules.proofs.Laws.Names.{plain, every_all, node_name_plain, property_name_plain}

-- ---- the ceilings let a root in

pub some_open : 1 ≤ open_ceiling
unfolding open_ceiling
some_open = omega arith

pub some_nodes : 1 ≤ node_ceiling
unfolding node_ceiling
some_nodes = omega arith

-- ---- names

pub reads_named : (s : Bytes) → node_name_reads s ≡ true → s ≡ [] → ⊥
unfolding node_name_reads
reads_named s h e =
    let k = and_true (not (eqb (length s) 0)) (node_name_valid s) h in
    eqb-false (length s) 0 (not-true (eqb (length s) 0) k.0) (ap length e)

-- a byte that stands in no name
name_lacks : (x : ℕ) (s : Bytes) → plain x ≡ false → ((i : ℕ) → i < length s → plain (byte_at s i) ≡ true) → x ∈ s → ⊥
name_lacks x s f h m = never (plain x) (every_mem plain m (every_all plain s h)) f

pub reads_valid : (s : Bytes) → node_name_reads s ≡ true → node_name_valid s ≡ true
unfolding node_name_reads
reads_valid s h = (and_true (not (eqb (length s) 0)) (node_name_valid s) h).1

-- a name that reads has no slash
pub reads_plain : (s : Bytes) → node_name_reads s ≡ true → 47 ∈ s → ⊥
unfolding plain
reads_plain s h m = name_lacks 47 s refl (node_name_plain s (reads_valid s h)) m

-- nor a NUL
pub reads_nul : (s : Bytes) → node_name_reads s ≡ true → 0 ∈ s → ⊥
unfolding plain
reads_nul s h m = name_lacks 0 s refl (node_name_plain s (reads_valid s h)) m

-- nor has one that the writer takes
pub valid_nul : (s : Bytes) → node_name_valid s ≡ true → 0 ∈ s → ⊥
unfolding plain
valid_nul s h m = name_lacks 0 s refl (node_name_plain s h) m

pub property_nul : (s : Bytes) → property_name_reads s ≡ true → 0 ∈ s → ⊥
unfolding property_name_reads plain
property_nul s h m = name_lacks 0 s refl (property_name_plain s h) m

-- ---- steps

-- which node a BEGIN opens: the root, or a node in a node, with a name that reads, and room for it
abbrev pub Opens : List ℕ → ℕ → Bytes → Type 0
Opens [] count name = (count ≡ 0) × (length name ≡ 0)
Opens (i ∷ is) count name = (node_name_reads name ≡ true) × (length (i ∷ is) < open_ceiling) × (count < node_ceiling)

module _ (rest : Walk → Verdict) (place : ℕ) where
  pub opening_passes : (stack : List ℕ) (count : ℕ) (ended : Bool) (name : Bytes)
      → after rest place (opening (record { stack = stack; count = count; ended = ended }) name) ≡ passes
      → (rest (record { stack = count ∷ stack; count = suc count; ended = false }) ≡ passes) × Opens stack count name
  unfolding opening
  opening_passes [] count ended name h = by_test (eqb count 0)
      (λ e. by_test (eqb (length name) 0)
      (λ f. (rw (e, f) at h, (eqb-true count 0 e, eqb-true (length name) 0 f)))
      (λ f. gives_refuses tt 7 place (rw (e, f) at h)))
      (λ e. gives_refuses tt 6 place (rw e at h))
  opening_passes (i ∷ is) count ended name h = by_test (node_name_reads name)
      (λ e. by_test (leb open_ceiling (length (i ∷ is)))
      (λ f. gives_refuses tt 8 place (rw (e, f) at h))
      (λ f. by_test (leb node_ceiling count)
      (λ g. gives_refuses tt 9 place (rw (e, f, g) at h))
      (λ g. (rw (e, f, g) at h, (e, leb-false open_ceiling (length (i ∷ is)) f, leb-false node_ceiling count g)))))
      (λ e. gives_refuses tt 7 place (rw e at h))

  -- END_NODE closes an open node
  abbrev pub Closes : List ℕ → ℕ → Type 0
  Closes [] count = ⊥
  Closes (i ∷ is) count = rest (record { stack = is; count = count; ended = true }) ≡ passes

  pub closing_passes : (stack : List ℕ) (count : ℕ) (ended : Bool)
      → after rest place (closing (record { stack = stack; count = count; ended = ended })) ≡ passes → Closes stack count
  unfolding closing
  closing_passes [] count ended h = gives_refuses tt 6 place h
  closing_passes (i ∷ is) count ended h = h

  -- PROP stands in an open node that has had no child, and its name reads
  pub record Holds (stack : List ℕ) (count : ℕ) (ended reads : Bool) : Type 0 where
    pub inside : stack ≡ [] → ⊥
    pub first : ended ≡ false
    pub name : reads ≡ true
    pub on : rest (record { stack = stack; count = count; ended = false }) ≡ passes

  pub holding_passes : (stack : List ℕ) (count : ℕ) (ended reads : Bool)
      → after rest place (holding (record { stack = stack; count = count; ended = ended }) reads) ≡ passes → Holds stack count ended reads
  unfolding holding
  holding_passes [] count ended reads h = gives_refuses tt 6 place h
  holding_passes (i ∷ is) count true reads h = gives_refuses tt 6 place h
  holding_passes (i ∷ is) count false true h =
      record { inside = λ (e : i ∷ is ≡ []). let z : ◌≡◌ {A = ℕ} 0 1 = cc in omega arith; first = refl; name = refl; on = h }
  holding_passes (i ∷ is) count false false h = gives_refuses tt 7 place h
