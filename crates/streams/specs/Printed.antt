-- Numbers as they are printed.
use Rattle.std.specs.Prelude.{List, ℕ, ◌-◌, false, ◌++◌, length, replicate}
use Rattle.std.specs.Fmt.{digits}

-- a number's hexadecimal digits, with zeros in front up to so many
unfoldable pub hex : (width n : ℕ) → List ℕ
hex width n = replicate (width - length (digits 16 false n)) 48 ++ digits 16 false n
