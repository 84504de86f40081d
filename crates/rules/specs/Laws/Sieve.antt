-- A choice of nodes that takes with a node its parent. The laws of the sieve stand in proofs/Laws/Sieve.antt.
use Rattle.std.specs.Prelude.{◌≡◌, Bool, length}
use Rattle.std.proofs.Math.Bool.{true}
use Prim.Native.Nat.{ℕ, ◌+◌, ◌<◌}
use Rattle.rules.specs.Tree.{Tree, node}

-- ---- the nodes of what is left

module _ (k : ℕ → Bool) where
  -- with a node its parent is kept
  abbrev pub Upward : ℕ → Tree → Type 0
  Upward next t = (j : ℕ) → j < length t → k (next + j) ≡ true → k (node t j).parent ≡ true
