-- The list of the first n nodes that stand in the work space, as it is answered.
use Rattle.std.specs.Prelude.{List, map, ℕ, take, drop}
use Rattle.rules.specs.Octets.{Bytes}
use Rattle.rules.specs.Tree.{Tree, path}
use Rattle.rules.specs.Listing.{paths_bytes}
use Rattle.rules.specs.Space.{list_at}

abbrev pub list_bytes : Tree → (words : List ℕ) (n : ℕ) → Bytes
list_bytes t ws n = paths_bytes (map (path t) (take n (drop list_at ws)))
