-- The marks in the work space.
use mathlib.Core.Path.{◌≡◌}
use mathlib.Core.Bool.{false}
use mathlib.Core.List.{List}
use Prim.Native.Nat.{ℕ, ◌+◌, ◌≤◌, ◌<◌}
use lib.Dec.{eqb}
use borrow.Author.Tests.{lt-ltb, le-ltb}
use lib.ListN.{get_or}
use Rattle.rules.specs.Ceilings.{node_ceiling}
use Rattle.rules.specs.Space.{marks_at}
use Rattle.guest.specs.Walked.{marked}

pub mark_here : (ws : List ℕ) (i w : ℕ) → i < node_ceiling → w ≡ get_or ws (marks_at + i) 0 → eqb w 1 ≡ marked ws i
unfolding marked
mark_here ws i w h e = rw (lt-ltb i node_ceiling h, e)

pub mark_past : (ws : List ℕ) (i : ℕ) → node_ceiling ≤ i → false ≡ marked ws i
unfolding marked
mark_past ws i h = rw (le-ltb i node_ceiling h)
