-- A walk over tokens as a walk over events: what a token says, and the events from a place on.
use mathlib.Core.Path.{◌≡◌, refl, sym, ◌∙◌}
use mathlib.Core.List.{[]}
use Prim.Native.Nat.{ℕ, ◌≤◌}
use lib.ListN.{length}
use Rattle.rules.specs.Tokens.{token_at}
use Rattle.rules.specs.Blob.{Block}
use Rattle.rules.specs.Events.{saying, events_in}
use Rattle.rules.specs.declared.Token.{Token}
use Rattle.rules.specs.declared.Token.TheVariants.{Item, End, Cut}
use Rattle.rules.specs.declared.Kind.{Kind}
use Rattle.rules.specs.Laws.Events.{events_at}
use Rattle.rules.proofs.Laws.Events as laws

pub events_all : (b : Block) → events_at b 0 ≡ events_in b
events_all b = sym (laws.events_all b)

module _ (b : Block) (at : ℕ) (i : at ≤ length b.structure) (r : Token) (e : r ≡ token_at b.structure at) where
  -- an item says its part, and the rest follows it
  pub events_item : (kind : Kind) (next : ℕ) → r ≡ Item kind next → events_at b at ≡ saying b at (Item kind next) (events_at b next)
  events_item kind next f = laws.events_item b at i kind next (sym e ∙ f)

  -- what is no item ends them
  pub events_stop : ((kind : Kind) (next : ℕ) → r ≡ Item kind next → ⊥) → events_at b at ≡ []
  events_stop h = by r e h
    where
      by : (t : Token) → t ≡ token_at b.structure at → ((kind : Kind) (next : ℕ) → t ≡ Item kind next → ⊥) → events_at b at ≡ []
      by (Item kind next) f h = absurd (h kind next refl)
      by End f h = laws.events_end b at i (sym f)
      by Cut f h = laws.events_cut b at i (sym f)
