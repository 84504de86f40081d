-- The entries of a path list from a place on, without their fuel. Their laws stand in proofs/Laws/Given.antt.
use Rattle.std.specs.Prelude.{List, ℕ, suc, length, drop}
use Rattle.rules.specs.Octets.{Bytes}
use Rattle.rules.specs.Derivation.{Given, given_from}

-- ---- the entries from a place on

-- with fuel enough for any place of the list
unfoldable pub given_at : Bytes → ℕ → List Given
given_at s at = given_from (suc (length s)) at (drop at s)
