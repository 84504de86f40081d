-- What the reader grants of a tree that it accepts, and a node's path as definitions spell it. The laws of paths stand in
-- proofs/Laws/Paths.antt.
use Rattle.std.specs.Prelude.{◌≡◌, [], length}
use Prim.Native.Nat.{ℕ, suc, ◌≤◌, ◌<◌}
use Rattle.rules.specs.Octets.{Bytes}
use Rattle.rules.specs.Tree.{Tree, node, spell}
use Rattle.rules.specs.Listing.{◌∈◌}

-- what the reader grants of a tree that it accepts
pub record Formed (t : Tree) : Type 0 where
  pub up : (i : ℕ) → suc i < length t → (node t (suc i)).parent ≤ i
  pub named : (i : ℕ) → suc i < length t → (node t (suc i)).name ≡ [] → ⊥
  pub plain : (i : ℕ) → 47 ∈ (node t i).name → ⊥
  pub siblings : (i j : ℕ) → suc i < length t → suc j < length t → (node t (suc i)).parent ≡ (node t (suc j)).parent
      → (node t (suc i)).name ≡ (node t (suc j)).name → i ≡ j

-- the path, but that the root's is empty
abbrev pub trail : Tree → ℕ → Bytes
trail t m = spell t m m
