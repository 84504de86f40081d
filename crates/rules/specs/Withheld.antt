-- 01, "The filtered copy": which bytes of a host are withheld. "Withheld: value bytes of a property of an uncopied node, unless the
-- name is one that refusal 11 reads, or a reference property of a reached node, or `reg` of a CPU child."
use Rattle.std.specs.Prelude.{◌≡◌, Bool, false, not, ◌&&◌, ◌||◌, List, [], ◌∷◌, ℕ, ◌+◌, leb, ltb, length, get_or}
use Rattle.rules.specs.Octets.{Bytes, ascii, same}
use Rattle.rules.specs.Lists.{one_of, any}
use Rattle.rules.specs.Events.{Property}
use Rattle.rules.specs.Tree.{Tree, node, frame, numbers, read_name}
use Rattle.rules.specs.Reader.{tree_read}
use Rattle.rules.specs.References.{Rules}
use Rattle.rules.specs.Listing.{reached_list}
use Rattle.rules.specs.Copy.{Asked, cpu_child, copied}
use Rattle.rules.specs.Derivation.{Request, asked}

-- a property of node i whose value is withheld
unfoldable pub hidden : Rules → Asked → Tree → ℕ → (name : Bytes) → Bool
hidden r q t i name =
    not (copied r q t i)
    && not (read_name name)
    && not (r.refers name && one_of i (reached_list r t q.conf))
    && not (cpu_child (frame t) i && same name (ascii "reg"))

-- the value of the PROP at a place begins 12 bytes further on
unfoldable pub in_value : Property → (x : ℕ) → Bool
in_value p x = leb (p.place + 12) x && ltb x (p.place + 12 + length p.value)

unfoldable pub hidden_in : (secret : Bytes → Bool) → (x : ℕ) → List Property → Bool
hidden_in secret x [] = false
hidden_in secret x (p ∷ ps) = secret p.name && in_value p x || hidden_in secret x ps

-- whether the byte at place x of the blob is withheld
unfoldable pub withheld : Rules → (host : Bytes) → Request → (x : ℕ) → Bool
withheld r host q x =
    let t : Tree = tree_read host in
    any (λ (i : ℕ). hidden_in (hidden r (asked (frame t) q) t i) x (node t i).props) (numbers (frame t))

-- "All other lent bytes agree, padding too."
pub record Agree (r : Rules) (q : Request) (host other : Bytes) : Type 0 where
  pub size : length host ≡ length other
  pub bytes : (x : ℕ) → withheld r host q x ≡ false → get_or host x 0 ≡ get_or other x 0
