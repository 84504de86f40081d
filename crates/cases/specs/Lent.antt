-- What stands in a buffer before it is lent, and how much of it is lent.
use Rattle.std.specs.Prelude.{◌≡◌, List, ℕ, ◌≤◌, length, take, replicate}

-- a list of one element, as long as the other
unfoldable pub filled : {A : Type 0} → List A → A → List A
filled xs x = replicate (length xs) x

-- n elements can be lent of a list: said so that the proof that is made of `&buf[..n]` finds both parts
abbrev pub Lends : {A : Type 0} → List A → ℕ → Type 0
Lends xs n = (n ≤ length xs) × (n ≡ length (take n xs))
