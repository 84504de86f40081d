-- How an answer of the node table is read.
use Rattle.std.proofs.Math.Option as math
use Rattle.std.specs.Prelude.{ℕ, Option, None, Some}

abbrev pub found : Option ℕ → math.Option ℕ
found (Some i) = math.some i
found None = math.none
