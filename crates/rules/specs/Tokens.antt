-- 01, "The blob, as read": the tokens of a structure block (DTSpec 5.4), with their places in it.
use Rattle.std.specs.Prelude.{List, [], ◌∷◌, ℕ, zero, suc, ◌+◌, eqb, leb, length, drop, if◌then◌else◌}
use Rattle.rules.specs.Octets.{Bytes, word_at, nul_in, padded}
use Rattle.rules.specs.declared.Token.{Token}
use Rattle.rules.specs.declared.Token.TheVariants.{Item, End, Cut}
use Rattle.rules.specs.declared.Kind.{Kind}
use Rattle.rules.specs.declared.Kind.TheVariants.{Begin, EndNode, Prop, Nop}

-- an item that ends at `next`, "padded to 4", or a cut one
abbrev pub whole : Bytes → (next : ℕ) → Kind → Token
whole s next kind = if leb next (length s) then Item kind next else Cut

-- BEGIN, whose name begins at b. A name without NUL runs to the end of the block and is cut.
unfoldable pub begin_at : Bytes → ℕ → Token
begin_at s b = let len : ℕ = nul_in (drop b s) in whole s (b + padded (len + 1)) (Begin len)

-- PROP, whose length and name offset begin at b, and whose value begins 8 further on
unfoldable pub prop_at : Bytes → ℕ → Token
prop_at s b =
    if leb (b + 8) (length s) then whole s (b + 8 + padded (word_at s b)) (Prop (word_at s b) (word_at s (b + 4)) (b + 8)) else Cut

-- BEGIN 1, END_NODE 2, PROP 3, NOP 4, END 9; `b` is where what belongs to it begins
unfoldable pub tagged : (tag : ℕ) → Bytes → (b : ℕ) → Token
tagged tag s b =
    if eqb tag 1 then begin_at s b
    else if eqb tag 2 then Item EndNode b
    else if eqb tag 3 then prop_at s b
    else if eqb tag 4 then Item Nop b
    else if eqb tag 9 then End
    else Cut

-- the token at a place
unfoldable pub token_at : Bytes → ℕ → Token
token_at s at = if leb (at + 4) (length s) then tagged (word_at s at) s (at + 4) else Cut

-- a token and where it stands
pub record Placed : Type 0 where
  pub at : ℕ
  pub token : Token

-- what follows a token; `go` says it of each place
abbrev pub following : (ℕ → List Placed) → Token → List Placed
following go (Item kind next) = go next
following go End = []
following go Cut = []

-- one token after the other, up to END or what is no item
unfoldable pub tokens_from : (fuel : ℕ) → Bytes → ℕ → List Placed
tokens_from zero s at = []
tokens_from (suc fuel) s at = record { at = at; token = token_at s at } ∷ following (tokens_from fuel s) (token_at s at)

-- An item takes four bytes at least, so that there are fewer tokens than bytes, and one more.
unfoldable pub tokens : Bytes → List Placed
tokens s = tokens_from (suc (length s)) s 0
