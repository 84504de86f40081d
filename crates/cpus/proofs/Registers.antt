-- The search for `reg` over tokens is the look into the properties that they say; and 4 or 8 bytes as one number.
use mathlib.Core.Path.{◌≡◌, refl, sym, ap, ◌∙◌}
use mathlib.Core.Bool.{true, false, ◌||◌}
use mathlib.Core.List.{List, [], ◌∷◌}
use mathlib.Core.Option.{Option, none, some}
use Prim.Native.Nat.{ℕ, ◌≤◌, ◌<◌}
use native.Mathlib.Omega.{arith}
use lib.Dec.{eqb}
use lib.ListN.{length}
use borrow.Author.Tests.{ne_eqb}
use Rattle.std.specs.Prelude as lent
use Rattle.rules.specs.Octets.{Bytes, word_at, long_at, number, number_after, part, ascii, same}
use Rattle.rules.specs.Blob.{Block}
use Rattle.rules.specs.Events.{Property, string_at}
use Rattle.rules.specs.Tree.{Node, node, props_of, value_of}
use Rattle.rules.specs.Copy.{register_of, reg_of}
use Rattle.rules.proofs.Laws.Tests.{by_test}
use Rattle.rules.specs.Laws.Events.{events_at}
use Rattle.rules.specs.Laws.Tabled.{props_at, begin_of, tree_in}
use Rattle.rules.proofs.Laws.Tabled.{node_in_lem, node_out}
use Rattle.tokens.specs.declared.Property as next
use Rattle.tokens.specs.Properties.{behind_at, property_at}
use Rattle.tokens.proofs.Properties.{behind_props, props_none, props_here}
use Rattle.cpus.specs.Registers.{meaning, number_in, reg_in}

-- ---- numbers

pub four_number : (v : Bytes) → length v ≡ 4 → word_at v 0 ≡ number v
unfolding word_at number_after
four_number (a ∷ b ∷ c ∷ d ∷ []) h = omega arith
four_number [] h = absurd (let z : ⊥ = omega arith in z)
four_number (a ∷ []) h = absurd (let z : ⊥ = omega arith in z)
four_number (a ∷ b ∷ []) h = absurd (let z : ⊥ = omega arith in z)
four_number (a ∷ b ∷ c ∷ []) h = absurd (let z : ⊥ = omega arith in z)
four_number (a ∷ b ∷ c ∷ d ∷ e ∷ r) h = absurd (let z : ⊥ = omega arith in z)

pub eight_number : (v : Bytes) → length v ≡ 8 → long_at v 0 ≡ number v
unfolding long_at word_at number_after
eight_number (a ∷ b ∷ c ∷ d ∷ e ∷ f ∷ g ∷ h ∷ []) l = omega arith
eight_number [] l = absurd (let z : ⊥ = omega arith in z)
eight_number (a ∷ []) l = absurd (let z : ⊥ = omega arith in z)
eight_number (a ∷ b ∷ []) l = absurd (let z : ⊥ = omega arith in z)
eight_number (a ∷ b ∷ c ∷ []) l = absurd (let z : ⊥ = omega arith in z)
eight_number (a ∷ b ∷ c ∷ d ∷ []) l = absurd (let z : ⊥ = omega arith in z)
eight_number (a ∷ b ∷ c ∷ d ∷ e ∷ []) l = absurd (let z : ⊥ = omega arith in z)
eight_number (a ∷ b ∷ c ∷ d ∷ e ∷ f ∷ []) l = absurd (let z : ⊥ = omega arith in z)
eight_number (a ∷ b ∷ c ∷ d ∷ e ∷ f ∷ g ∷ []) l = absurd (let z : ⊥ = omega arith in z)
eight_number (a ∷ b ∷ c ∷ d ∷ e ∷ f ∷ g ∷ h ∷ i ∷ r) l = absurd (let z : ⊥ = omega arith in z)

module _ (v : Bytes) where
  pub in_four : length v ≡ 4 → lent.Some (word_at v 0) ≡ number_in v
  in_four h = rw (four_number v h, h)

  pub in_eight : length v ≡ 8 → lent.Some (long_at v 0) ≡ number_in v
  in_eight h = rw (eight_number v h, h)

  pub in_other : (length v ≡ 4 → ⊥) → (length v ≡ 8 → ⊥) → lent.None ≡ number_in v
  in_other f g = rw (ne_eqb (length v) 4 f, ne_eqb (length v) 8 g)

pub in_means : (v : Bytes) → meaning (number_in v) ≡ register_of (some v)
in_means v = by_test (eqb (length v) 4 || eqb (length v) 8) (λ e. rw e) (λ e. rw e)

-- ---- the search

reg_none : reg_in [] ≡ none
unfolding value_of
reg_none = refl

module _ (p : Property) (ps : List Property) where
  reg_hit : same (ascii "reg") p.name ≡ true → reg_in (p ∷ ps) ≡ meaning (number_in p.value)
  unfolding value_of
  reg_hit e = rw (value_of, e) (sym (in_means p.value))

  reg_miss : same (ascii "reg") p.name ≡ false → reg_in (p ∷ ps) ≡ reg_in ps
  unfolding value_of
  reg_miss e = rw (value_of, e)

-- what `reg` says, from a place on
abbrev pub reg_at : Block → ℕ → Option ℕ
reg_at b at = reg_in (props_of (events_at b at))

module _ (b : Block) where
  -- behind the node's own BEGIN
  pub reg_first : (begin at : ℕ) → at ≡ behind_at b.structure begin → reg_in (props_at b begin) ≡ reg_at b at
  reg_first begin at e = ap reg_in (behind_props b begin) ∙ ap (reg_at b) (sym e)

  module _ (at : ℕ) (i : at ≤ length b.structure) (r : lent.Option next.Property) (e : r ≡ property_at b.structure at) where
    pub reg_end : r ≡ lent.None → reg_at b at ≡ none
    reg_end f = ap reg_in (props_none b at i r e f) ∙ reg_none

    module _ (p : next.Property) (f : r ≡ lent.Some p) where
      pub reg-value : same (ascii "reg") (string_at b.strings p.name) ≡ true → reg_at b at ≡ meaning (number_in (part b.structure p.value p.len))
      reg-value g = ap reg_in (props_here b at i r e p f) ∙ reg_hit _ _ g

      pub reg-on : same (ascii "reg") (string_at b.strings p.name) ≡ false → reg_at b at ≡ reg_at b p.next
      reg-on g = ap reg_in (props_here b at i r e p f) ∙ reg_miss _ _ g

-- ---- the node's own

module _ (b : Block) (ws : List ℕ) (count i : ℕ) where
  pub reg_past : count ≤ i → none ≡ reg_of (node (tree_in b ws count) i)
  unfolding reg_of value_of
  reg_past h = rw (node_out b ws count i h)

  pub reg_row : i < count → (r : Option ℕ) → r ≡ reg_in (props_at b (begin_of b.place ws i)) → r ≡ reg_of (node (tree_in b ws count) i)
  unfolding reg_of
  reg_row h r e = e ∙ ap (λ (n : Node). reg_in n.props) (sym (node_in_lem b ws count i h))
