-- The properties of a node, one after the other, as tokens say them.
use Rattle.std.specs.Prelude.{List, [], ◌∷◌, ℕ, length, Option, Some, None}
use Rattle.rules.specs.Octets.{Bytes}
use Rattle.rules.specs.Tokens.{token_at, Placed}
use Rattle.rules.specs.Laws.Tokens.{tokens_at}
use Rattle.rules.specs.declared.Token.{Token}
use Rattle.rules.specs.declared.Token.TheVariants.{Item, End, Cut}
use Rattle.rules.specs.declared.Kind.TheVariants.{Begin, EndNode, Prop, Nop}
use Rattle.tokens.specs.declared.Property.{Property}

-- where what follows a token begins, in a block of so many bytes
abbrev pub behind_token : (size : ℕ) → Token → ℕ
behind_token size (Item kind next) = next
behind_token size End = size
behind_token size Cut = size

unfoldable pub behind_at : Bytes → ℕ → ℕ
behind_at s at = behind_token (length s) (token_at s at)

-- the next property from a token on, where `rest` is the next one from those behind it on
abbrev pub held_by : (at : ℕ) → Token → (rest : Option Property) → Option Property
held_by at (Item (Begin len) next) rest = None
held_by at (Item EndNode next) rest = None
held_by at (Item (Prop len name value) next) rest = Some (record { at = at; len = len; name = name; value = value; next = next })
held_by at (Item Nop next) rest = rest
held_by at End rest = None
held_by at Cut rest = None

unfoldable pub property_in : List Placed → Option Property
property_in [] = None
property_in (t ∷ ts) = held_by t.at t.token (property_in ts)

-- the next property from a place of the structure on
unfoldable pub property_at : Bytes → ℕ → Option Property
property_at s at = property_in (tokens_at s at)
