-- A chunk of names in byte order, kept in the words of the work space behind the node table.
use Rattle.std.specs.Prelude.{◌≡◌, ◌⊎◌, Bool, true, false, ◌||◌, List, ℕ, zero, suc, ◌+◌, ◌-◌, ◌≤◌, ◌<◌, min, get_or, Result, Ok, Err}
use Rattle.rules.specs.Octets.{Bytes, before, same}
use Rattle.rules.specs.Events.{string_at}
use Rattle.rules.specs.Laws.Constants.{WORK_WORDS, MARKS_AT}

-- the first word behind the node table, and how many there are up to the end of the work space
abbrev pub chunk_start : ℕ
chunk_start = MARKS_AT

abbrev pub chunk_room : ℕ
chunk_room = WORK_WORDS - MARKS_AT

-- the name at an index of the chunk
abbrev pub key_at : (strings : Bytes) → List ℕ → ℕ → Bytes
key_at strings w i = string_at strings (get_or w (chunk_start + i) 0)

-- a name is among the first n
unfoldable pub key_below : (strings : Bytes) → List ℕ → (n : ℕ) → Bytes → Bool
key_below strings w zero x = false
key_below strings w (suc n) x = same x (key_at strings w n) || key_below strings w n x

abbrev pub Ordered : (strings : Bytes) → List ℕ → ℕ → Type 0
Ordered strings w n = (i j : ℕ) → i < j → j < n → before (key_at strings w i) (key_at strings w j) ≡ true

-- x is not among them, and would stand at k
pub record Fresh (strings : Bytes) (w : List ℕ) (n : ℕ) (x : Bytes) (k : ℕ) : Type 0 where
  pub missing : key_below strings w n x ≡ false
  pub few : k ≤ n
  pub lower : (i : ℕ) → i < k → before (key_at strings w i) x ≡ true
  pub upper : (i : ℕ) → k ≤ i → i < n → before x (key_at strings w i) ≡ true

abbrev pub Finds : (strings : Bytes) → List ℕ → (n : ℕ) → Bytes → Result ℕ ℕ → Type 0
Finds strings w n x (Ok k) = key_below strings w n x ≡ true
Finds strings w n x (Err k) = Fresh strings w n x k

-- a word is put at an index of the chunk, and those up to the n-th move up by one
pub record Inserted (w : List ℕ) (n at offset : ℕ) (u : List ℕ) : Type 0 where
  pub below : (i : ℕ) → i < at → get_or u (chunk_start + i) 0 ≡ get_or w (chunk_start + i) 0
  pub here : get_or u (chunk_start + at) 0 ≡ offset
  pub above : (i : ℕ) → at ≤ i → i < n → get_or u (chunk_start + (i + 1)) 0 ≡ get_or w (chunk_start + i) 0
  pub outside : (i : ℕ) → (i < chunk_start) ⊎ (chunk_start + n < i) → get_or u i 0 ≡ get_or w i 0

-- how many words of the chunk n names take at most
abbrev pub taken : ℕ → ℕ
taken n = min n chunk_room

-- all words but the first n of the chunk are as they were
pub record Framed (w : List ℕ) (n : ℕ) (u : List ℕ) : Type 0 where
  pub outside : (i : ℕ) → (i < chunk_start) ⊎ (chunk_start + n ≤ i) → get_or u i 0 ≡ get_or w i 0
