-- Lists without repeats. The laws of lists stand in proofs/Laws/Lists.antt.
use Rattle.std.specs.Prelude.{ℕ}
use mathlib.Core.List.{List, [], ◌∷◌}
use Rattle.rules.specs.Listing.{◌∈◌}

-- ---- no number twice

pub data Distinct : List ℕ → Type 0 where
  none : Distinct []
  more : {x : ℕ} {l : List ℕ} → (x ∈ l → ⊥) → Distinct l → Distinct (x ∷ l)
