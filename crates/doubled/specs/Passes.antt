-- What the passes of refusals 10 to 12 share: the nodes that a pass walks over, their rows, and its answer as a verdict.
use Rattle.std.specs.Prelude.{Bool, List, Option, Some, None, ℕ, ◌+◌, ◌*◌, ◌/◌, ◌≤◌, ltb, length, take, drop, if◌then◌else◌}
use Rattle.rules.specs.Ceilings.{node_words}
use Rattle.rules.specs.Octets.{Bytes}
use Rattle.rules.specs.Outcome.{Verdict, refuses, passes}
use Rattle.rules.specs.Blob.{block_of}
use Rattle.rules.specs.declared.Block.{Block}
use Rattle.rules.specs.Events.{Property, events_in}
use Rattle.rules.specs.Laws.Events.{events_at}
use Rattle.rules.specs.Tree.{Tree, props_of, nodes_of}

abbrev pub nodes_in : (s strings : Bytes) (place : ℕ) → Tree
nodes_in s strings place = nodes_of (events_in (block_of place s strings))

-- those of a block as it is lent
abbrev pub nodes_lent : Block → Tree
nodes_lent b = nodes_in b.structure.now b.strings.now b.place

-- node i has a row in w
abbrev pub has_row : List ℕ → ℕ → Bool
has_row w i = ltb i (length w / node_words)

-- its row, where it has one
abbrev pub row_in : List ℕ → ℕ → Option (List ℕ)
row_in w i = if has_row w i then Some (take node_words (drop (node_words * i) w)) else None

-- an answer, which counts from the start of the structure, as a verdict, which counts from the start of the blob
abbrev pub verdict : (number place : ℕ) → Option ℕ → Verdict
verdict number place None = passes
verdict number place (Some at) = refuses number (place + at)

-- a token stands there
abbrev pub Inside : Bytes → Option ℕ → Type 0
Inside s None = Unit {0}
Inside s (Some at) = at + 4 ≤ length s

-- the properties that stand at a place of the structure
abbrev pub props_at : (s strings : Bytes) (place at : ℕ) → List Property
props_at s strings place at = props_of (events_at (block_of place s strings) at)
