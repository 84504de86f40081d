-- The nodes that a list of configured paths names, up to the first path at fault; all of them where there is none.
use Rattle.std.specs.Prelude.{true, false, ℕ, length}
use mathlib.Core.List.{List, [], ◌∷◌}
use Rattle.std.proofs.Math.Option.{none, some}
use Rattle.rules.specs.Octets.{Bytes}
use Rattle.rules.specs.Outcome.{Outcome, gives, ◌then◌}
use Rattle.rules.specs.Tree.{Frame}
use Rattle.rules.specs.Derivation.{Given, given, node_at, repeats, configured_from}

module _ (f : Frame) where
  unfoldable pub named_from : (seen : List Bytes) → List Given → List ℕ
  named_from seen [] = []
  named_from seen (g ∷ gs) = elim (node_at f g.path) [
    | none ↦ []
    | some i ↦ elim (repeats g.path seen) [ true ↦ [] | false ↦ i ∷ named_from (g.path ∷ seen) gs ]
  ]

unfoldable pub configured_nodes : Frame → (list : Bytes) → List ℕ
configured_nodes f list = named_from f [] (given list)

unfoldable pub configured_outcome : Frame → (list : Bytes) → Outcome ℕ
configured_outcome f list = configured_from f [] (given list) then gives (length (configured_nodes f list))
