-- Byte strings: numbers in them, padding, parts, names closed by NUL, and what a buffer becomes when bytes are laid into it.
-- DTSpec 5.1: all numbers are big-endian. A byte past the end reads 0.
use Rattle.std.specs.Prelude.{Bool, true, false, ◌&&◌, ◌||◌, List, [], ◌∷◌, ◌++◌, reverse, ℕ, suc, ◌+◌, ◌-◌, ◌*◌, ◌/◌, ◌%◌, ◌<◌, eqb, ltb, length, get_or, take, drop, replicate}
use Prim.Native.Char.{code}
use Prim.Native.String.{String, [] as []ˢ, ◌∷◌ as ◌∷ˢ◌}

abbrev pub Bytes : Type 0
Bytes = List ℕ

-- every number is a byte; what is lent as bytes is so
abbrev pub AreBytes : Bytes → Type 0
AreBytes s = (i : ℕ) → get_or s i 0 < 256

-- ---- numbers

abbrev pub byte_at : Bytes → ℕ → ℕ
byte_at s at = get_or s at 0

-- the 32-bit number at a place
unfoldable pub word_at : Bytes → ℕ → ℕ
word_at s at = byte_at s at * 16777216 + byte_at s (at + 1) * 65536 + byte_at s (at + 2) * 256 + byte_at s (at + 3)

-- the 64-bit number at a place
unfoldable pub long_at : Bytes → ℕ → ℕ
long_at s at = word_at s at * 4294967296 + word_at s (at + 4)

-- a number as four bytes, and as eight
unfoldable pub be32 : ℕ → Bytes
be32 v = v / 16777216 % 256 ∷ v / 65536 % 256 ∷ v / 256 % 256 ∷ v % 256 ∷ []

unfoldable pub be64 : ℕ → Bytes
be64 v = be32 (v / 4294967296) ++ be32 (v % 4294967296)

-- bytes of any length read as one number, after n
unfoldable pub number_after : ℕ → Bytes → ℕ
number_after n [] = n
number_after n (b ∷ bs) = number_after (n * 256 + b) bs

abbrev pub number : Bytes → ℕ
number bs = number_after 0 bs

-- numbers one after the other
unfoldable pub words32 : List ℕ → Bytes
words32 [] = []
words32 (v ∷ vs) = be32 v ++ words32 vs

unfoldable pub words64 : List ℕ → Bytes
words64 [] = []
words64 (v ∷ vs) = be64 v ++ words64 vs

-- ---- padding

abbrev pub zeros : ℕ → Bytes
zeros n = replicate n 0

-- "padded to 4": the least multiple of 4 that is no less than n
abbrev pub padded : ℕ → ℕ
padded n = (n + 3) / 4 * 4

-- bytes with zeros behind them up to a multiple of 4
unfoldable pub filled : Bytes → Bytes
filled bs = bs ++ zeros (padded (length bs) - length bs)

-- ---- parts

-- n bytes from a place on
abbrev pub part : Bytes → ℕ → ℕ → Bytes
part s at n = take n (drop at s)

-- What `old` becomes when bytes are laid into it from `at` on: the rest stays.
unfoldable pub put {ℓ} : {A : Type ℓ} → List A → ℕ → List A → List A
put old at new = take at old ++ (new ++ drop (at + length new) old)

-- The same for any place: what would come to stand past the end is dropped, so that a buffer keeps its length.
unfoldable pub lay {ℓ} : {A : Type ℓ} → List A → ℕ → List A → List A
lay old at new = take (length old) (put old at new)

-- ---- names

-- how many bytes stand before the first of this value; all of them where there is none
unfoldable pub length_to : (byte : ℕ) → Bytes → ℕ
length_to byte [] = 0
length_to byte (b ∷ bs) = elim (eqb b byte) [ true ↦ 0 | false ↦ suc (length_to byte bs) ]

abbrev pub nul_in : Bytes → ℕ
nul_in s = length_to 0 s

abbrev pub has_nul : Bytes → Bool
has_nul s = ltb (nul_in s) (length s)

-- "each closed by NUL"
abbrev pub closed : Bytes → Bytes
closed name = name ++ 0 ∷ []

-- the bytes of a text of plain ASCII
unfoldable pub ascii : String → Bytes
ascii []ˢ = []
ascii (c ∷ˢ s) = code c ∷ ascii s

-- ---- comparing, byte for byte

-- "whole and exact"
unfoldable pub same : Bytes → Bytes → Bool
same [] [] = true
same [] (y ∷ ys) = false
same (x ∷ xs) [] = false
same (x ∷ xs) (y ∷ ys) = eqb x y && same xs ys

-- "a prefix, ending or part"
unfoldable pub begins : Bytes → Bytes → Bool
begins [] s = true
begins (x ∷ p) [] = false
begins (x ∷ p) (y ∷ s) = eqb x y && begins p s

abbrev pub ends : Bytes → Bytes → Bool
ends e s = begins (reverse e) (reverse s)

unfoldable pub holds : Bytes → Bytes → Bool
holds p [] = begins p []
holds p (y ∷ s) = begins p (y ∷ s) || holds p s

-- "byte order of path": at the first place where they differ the smaller byte, or the one that ends, comes first
unfoldable pub before : Bytes → Bytes → Bool
before [] [] = false
before [] (y ∷ ys) = true
before (x ∷ xs) [] = false
before (x ∷ xs) (y ∷ ys) = ltb x y || (eqb x y && before xs ys)
