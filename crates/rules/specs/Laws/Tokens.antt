-- The tokens of a structure block from a place on, without their fuel. Their laws stand in proofs/Laws/Tokens.antt.
use Rattle.std.specs.Prelude.{List, length}
use Prim.Native.Nat.{ℕ, suc}
use Rattle.rules.specs.Octets.{Bytes}
use Rattle.rules.specs.Tokens.{Placed, tokens_from}

-- ---- the tokens from a place on

-- with fuel enough for any place of the block
unfoldable pub tokens_at : Bytes → ℕ → List Placed
tokens_at s at = tokens_from (suc (length s)) s at
