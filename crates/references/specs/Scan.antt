-- The scan from any word on, and how its answer is read.
use Rattle.std.specs.Prelude.{◌≡◌, List, [], ◌∷◌, ℕ, ◌+◌, ◌/◌, ◌%◌, ◌≤◌, eqb, ltb, length, if◌then◌else◌, Option, Some, None}
use Rattle.std.proofs.Math.Option as math
use Prim.Native.String.{String}
use Rattle.rules.specs.Octets.{Bytes}
use Rattle.rules.specs.Blob.{Block}
use Rattle.rules.specs.Tree.{node}
use Rattle.rules.specs.References.{Reference, scan_from}
use Rattle.rules.specs.Laws.Tabled.{tree_in, look_in, count_named}
use Rattle.references.specs.declared.scan.Reference as scan

-- The references from word i on. Each turn passes a word, so that as many turns as words are enough.
unfoldable pub scan_at : (look : ℕ → math.Option ℕ) (cells : ℕ → ℕ) → Bytes → (i : ℕ) → List Reference
scan_at look cells v i = if eqb (length v % 4) 0 then scan_from look cells (length v / 4) v (length v / 4) i else []

-- what a known phandle at word i of n is
abbrev pub refers_at : (n i target cells : ℕ) → Option scan.Reference
refers_at n i target cells = if ltb (i + cells) n then Some (record { target = target; index = i; cells = cells; next = i + cells + 1 }) else None

-- the references that an answer tells: it, and those from its `next` on
abbrev pub told : (ℕ → List Reference) → Option scan.Reference → List Reference
told go (Some r) = record { target = r.target; index = r.index; cells = r.cells } ∷ go r.next
told go None = []

-- the scan goes on behind the reference's words, and inside the value
abbrev pub Ahead : (i n : ℕ) → Option scan.Reference → Type 0
Ahead i n (Some r) = (i ≤ r.index) × (r.next ≡ r.index + r.cells + 1) × (r.next ≤ n)
Ahead i n None = Unit {0}

-- the scan of a value, over the node table
abbrev pub scan_in : Block → (words : List ℕ) (count : ℕ) → math.Option String → Bytes → (i : ℕ) → List Reference
scan_in b ws count o v i = scan_at (look_in ws count) (λ (m : ℕ). count_named o (node (tree_in b ws count) m).props) v i

pub record Scanned (b : Block) (ws : List ℕ) (count : ℕ) (o : math.Option String) (v : Bytes) (i : ℕ) (r : Option scan.Reference) : Type 0 where
  pub list : scan_in b ws count o v i ≡ told (scan_in b ws count o v) r
  pub ahead : Ahead i (length v / 4) r
