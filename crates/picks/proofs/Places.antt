-- Words cleared at the code's place are cleared in the part of the work space.
use mathlib.Core.Path.{◌≡◌}
use mathlib.Core.List.{List}
use Prim.Native.Nat.{ℕ}
use Rattle.rules.specs.Octets.{lay, zeros}

pub cleared_as : {a b n m : ℕ} → a ≡ b → n ≡ m → (ws vs : List ℕ) → vs ≡ lay ws a (zeros n) → vs ≡ lay ws b (zeros m)
cleared_as e f ws vs p = rw (← e, ← f) p
