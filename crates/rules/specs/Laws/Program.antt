-- The lines of an input from a place on, without their fuel. Their laws stand in proofs/Laws/Program.antt.
use Rattle.std.specs.Prelude.{List, ℕ, suc, length, drop}
use Rattle.rules.specs.Octets.{Bytes}
use Rattle.rules.specs.Program.{Line, lines_from}

-- ---- the lines from a place on

-- with fuel enough for any place of the input
unfoldable pub lines_at : Bytes → ℕ → List Line
lines_at s at = lines_from (suc (length s)) at (drop at s)
