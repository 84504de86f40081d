-- The tree that a node table and its structure say, node by node: what code over the table promises. Of the table of a blob that
-- is accepted it is the tree read (proofs/Laws/TabledRead.antt).
use Rattle.std.specs.Prelude.{List, [], map, eqb, get_or, if◌then◌else◌}
use Rattle.std.proofs.Math.Option.{Option, none, some}
use Prim.Native.Nat.{ℕ, ◌+◌, ◌-◌, ◌*◌}
use Prim.Native.String.{String}
use Rattle.rules.specs.Octets.{Bytes, ascii}
use Rattle.rules.specs.Blob.{Block, block_of}
use Rattle.rules.specs.Tokens.{token_at}
use Rattle.rules.specs.Events.{Property, string_at}
use Rattle.rules.specs.Tree.{Node, Tree, numbers_from, props_of}
use Rattle.rules.specs.References.{place_of, word_named}
use Rattle.rules.specs.declared.Token.{Token}
use Rattle.rules.specs.declared.Token.TheVariants.{Item, End, Cut}
use Rattle.rules.specs.Laws.Events.{events_at}
use Rattle.rules.specs.Laws.Constants.{NODE_WORDS}

-- ---- a node

-- word k of row i
abbrev pub cell : List ℕ → (i k : ℕ) → ℕ
cell ws i k = get_or ws (NODE_WORDS * i + k) 0

abbrev pub props_behind : Block → Token → List Property
props_behind b (Item kind next) = props_of (events_at b next)
props_behind b End = []
props_behind b Cut = []

-- the properties of the node whose BEGIN stands at a place of the structure: they follow it
unfoldable pub props_at : Block → ℕ → List Property
props_at b at = props_behind b (token_at b.structure at)

-- where the BEGIN of node i stands in the structure
abbrev pub begin_of : (place : ℕ) → List ℕ → ℕ → ℕ
begin_of place ws i = cell ws i 0 - place

abbrev pub node_in : Block → List ℕ → ℕ → Node
node_in b ws i = record {
  place = cell ws i 0;
  parent = cell ws i 1;
  name = string_at b.structure (begin_of b.place ws i + 4);
  props = props_at b (begin_of b.place ws i);
}

-- the first `count` rows
unfoldable pub tree_in : Block → (words : List ℕ) (count : ℕ) → Tree
tree_in b ws count = map (node_in b ws) (numbers_from 0 count)

-- the same, the block by its parts
abbrev pub tree_of : (place : ℕ) (structure strings : Bytes) (words : List ℕ) (count : ℕ) → Tree
tree_of place structure strings words count = tree_in (block_of place structure strings) words count

-- ---- phandles

abbrev pub phandle_in : List ℕ → ℕ → Option ℕ
phandle_in ws i = if eqb (cell ws i 2) 1 then some (cell ws i 3) else none

-- those of n rows from i on
unfoldable pub phandles_from : List ℕ → (i n : ℕ) → List (Option ℕ)
phandles_from ws i n = map (phandle_in ws) (numbers_from i n)

-- the node of a phandle, among the first `count` rows
unfoldable pub look_in : (words : List ℕ) (count phandle : ℕ) → Option ℕ
look_in ws count w = place_of w (phandles_from ws 0 count)

-- ---- cells

-- the value of a cells property, if one is asked for; 0 where it is absent
unfoldable pub count_named : Option String → List Property → ℕ
count_named none ps = 0
count_named (some s) ps = word_named (ascii s) ps
