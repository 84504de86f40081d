-- What a hole of a format with zeros in front writes of a number.
use Rattle.std.proofs.Common.{◌≡◌, ℕ, ◌-◌, ◌^◌, List, [], ◌++◌, false, append-nil, length, replicate, refl, arith}
use Rattle.std.specs.Fmt.{char_count, digits, format_spec, padded_integral}
use Rattle.streams.specs.Printed.{hex}

zeros_in_front : (width : ℕ) (ds : List ℕ) → padded_integral (format_spec 32 0 4 width (2 ^ 64 - 1)) false [] ds ≡ replicate (width - length ds) 48 ++ ds
unfolding padded_integral char_count
zeros_in_front width ds = let none : width - length ds - 0 - 0 ≡ width - length ds = omega arith in rw (append-nil ds, none) refl

pub hex_printed : (width n : ℕ) → padded_integral (format_spec 32 0 4 width (2 ^ 64 - 1)) false [] (digits 16 false n) ≡ hex width n
unfolding hex
hex_printed width n = zeros_in_front width (digits 16 false n)
