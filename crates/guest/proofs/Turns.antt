-- One turn of each walk over the tokens.
use mathlib.Core.Path.{◌≡◌, sym, ap, ◌∙◌}
use mathlib.Core.Bool.{Bool, true, false}
use mathlib.Core.List.{List, [], ◌∷◌, ◌++◌}
use Rattle.std.specs.Prelude.{Option}
use Prim.Native.Nat.{ℕ, ◌+◌, ◌≤◌, ◌<◌}
use native.Mathlib.Omega.{arith}
use lib.ListN.{length, take}
use types.Run.{OneOf}
use denote.Enum.Declared.{tag_of}
use Rattle.rules.specs.contracts.Token as tokened
use Rattle.rules.specs.Octets.{Bytes}
use Rattle.rules.specs.Blob.{Block}
use Rattle.rules.specs.Tokens.{token_at}
use Rattle.rules.specs.declared.Token.{Token}
use Rattle.rules.specs.declared.Token.TheVariants.{Item}
use Rattle.rules.specs.declared.Kind.{Kind}
use Rattle.guest.specs.declared.walk.Walk.{Walk}
use Rattle.guest.specs.Walked.{onward_of}
use Rattle.guest.specs.Measured.{is_in, prop_of, name_at, is_named, less_one}
use Rattle.guest.proofs.Sifts.{names_at, names_item, names_stop, next_le, skipped_le}
use Rattle.guest.proofs.Noted.{search_none, search_hit, search_miss}

-- ---- how far the walk has come

abbrev pub Behind : Walk → ℕ → Type 0
Behind w at = (w.next ≤ at) × (w.skipped ≤ at)

pub walk_behind : (k : ℕ → Bool) (w v : Walk) (kind : Kind) (at next : ℕ) → v ≡ onward_of k w kind → Behind w at → at + 4 ≤ next → Behind v next
walk_behind k w v kind at next e b h = (
  omega (arith, ap (λ (u : Walk). u.next) e, next_le w.next kind, b.0),
  omega (arith, ap (λ (u : Walk). u.skipped) e, skipped_le k w.next w.skipped kind, b.1),
)

-- ---- the search over the tokens before

-- the names from a walk's place on
abbrev pub names_from : (ℕ → Bool) → Block → ℕ → Walk → List Bytes
names_from k b at w = names_at k b at w.next w.skipped

module _ (k : ℕ → Bool) (b : Block) (at : ℕ) (w : Walk) (i : at ≤ length b.structure) (r : Token) (e : r ≡ token_at b.structure at) (x : Bytes) (left : ℕ) where
  pub earlier_stop : OneOf (1 ∷ 2 ∷ []) (tag_of tokened.the_type r) → is_in x (take left (names_from k b at w)) ≡ false
  earlier_stop h = ap (λ (l : List Bytes). is_in x (take left l)) (names_stop k b at w.next w.skipped i r e h) ∙ search_none x left

  module _ (kind : Kind) (next : ℕ) (f : r ≡ Item kind next) (p : Option ℕ) (q : p ≡ prop_of w.skipped kind) (pos : 0 < left) where
    names_next : names_from k b at w ≡ name_at b.strings p ++ names_from k b next (onward_of k w kind)
    names_next = rw q (names_item k b at w.next w.skipped i r e kind next f)

    pub earlier_hit : is_named b.strings p x ≡ true → is_in x (take left (names_from k b at w)) ≡ true
    earlier_hit t = ap (λ (l : List Bytes). is_in x (take left l)) names_next ∙ search_hit b.strings p x left _ pos t

    pub earlier_on : is_named b.strings p x ≡ false → (v : Walk) → v ≡ onward_of k w kind → (less : ℕ) → less ≡ less_one p left
        → is_in x (take less (names_from k b next v)) ≡ is_in x (take left (names_from k b at w))
    earlier_on t v g less l = sym (ap (λ (l : List Bytes). is_in x (take left l)) names_next ∙ search_miss b.strings p x left _ pos t ∙ rw (g, l))
