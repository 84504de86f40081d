-- Numbers, reservations and states of the writer as a script has them.
use Rattle.std.specs.Prelude.{[], ◌∷◌, ℕ, ◌+◌, ◌*◌, ◌%◌, eqb, ltb, if◌then◌else◌}
use Rattle.rules.specs.Outcome.{Outcome, Verdict, gives, refuses}
use Rattle.rules.specs.Octets.{Bytes}
use Rattle.rules.specs.Reservations.{Entry, made}
use Rattle.rules.specs.Writer.{State}

-- "0" to "9" are 48 to 57, "a" to "f" 97 to 102, and "A" to "F" 65 to 70
abbrev pub digit_of : ℕ → ℕ
digit_of x = if ltb x 58 then x % 16 else (x % 16 + 9) % 16

-- one more digit behind a number of 64 bits, whose first digit goes
abbrev pub shifted : ℕ → ℕ → ℕ
shifted n x = n % 1152921504606846976 * 16 + digit_of x

-- the number that bytes spell behind the number n
unfoldable pub spelt_behind : ℕ → Bytes → ℕ
spelt_behind n [] = n
spelt_behind n (x ∷ xs) = spelt_behind (shifted n x) xs

abbrev pub spelt_of : Bytes → ℕ
spelt_of s = spelt_behind 0 s

abbrev pub least : Entry
least = record { address = 0; size = 1 }

abbrev pub or_least : Outcome Entry → Entry
or_least (gives e) = e
or_least (refuses n p) = least

-- what the maker makes, or the first byte of memory where it refuses
abbrev pub entry_or_least : ℕ → ℕ → Entry
entry_or_least address size = or_least (made address size)

-- the number of a refusal, or 0
abbrev pub refusal_of : Verdict → ℕ
refusal_of (gives u) = 0
refusal_of (refuses n p) = n

-- a state with another number
abbrev pub altered : State → (field : ℕ) → ℕ → State
altered w field n =
    record {
      data_length = if eqb field 0 then n else w.data_length;
      structure = if eqb field 1 then n else w.structure;
      strings_length = if eqb field 2 then n else w.strings_length;
      phandle_count = if eqb field 3 then n else w.phandle_count;
      depth = if ltb field 4 then w.depth else n;
      ended = w.ended;
      finished = w.finished;
      boot_cpu = w.boot_cpu;
    }
