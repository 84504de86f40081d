-- A digest of 32 bits.
use Rattle.std.specs.Prelude.{List, [], ◌∷◌, ℕ, ◌+◌, ◌*◌, ◌%◌}

-- one more number in a digest
abbrev pub mixed : ℕ → ℕ → ℕ
mixed h x = (h * 16777619 + x + 1) % 4294967296

-- the digest of numbers behind those that came to h
unfoldable pub digest_behind : ℕ → List ℕ → ℕ
digest_behind h [] = h
digest_behind h (x ∷ xs) = digest_behind (mixed h x) xs

abbrev pub digest_of : List ℕ → ℕ
digest_of xs = digest_behind 0 xs
