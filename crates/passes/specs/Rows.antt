-- Refusal 12, on the rows of the node table: what a work space becomes.
use Rattle.std.specs.Prelude.{Bool, true, false, ◌&&◌, ◌||◌, List, [], ◌∷◌, ℕ, zero, suc, ◌+◌, ◌*◌, eqb, get_or, set, if◌then◌else◌, Option, Some, None}
use Rattle.std.proofs.Math.Option.{none, some}
use Rattle.rules.specs.Ceilings.{node_words}
use Rattle.rules.specs.Octets.{Bytes, word_at, part}
use Rattle.rules.specs.Outcome.{Verdict, refuses, passes}
use Rattle.rules.specs.Events.{string_at}
use Rattle.rules.specs.Tree.{Node, is_phandle, phandle_prop}
use Rattle.rules.specs.declared.Kind.{Kind}
use Rattle.rules.specs.declared.Kind.TheVariants.{Begin, EndNode, Prop, Nop}
use Rattle.doubled.specs.Passes.{has_row}
use Rattle.passes.specs.declared.shared.Search.{Search}

-- ---- rows

-- node i's row says that its phandle is v
unfoldable pub row_has : List ℕ → (i v : ℕ) → Bool
row_has w i v = has_row w i && (eqb (get_or w (node_words * i + 2) 0) 1 && eqb (get_or w (node_words * i + 3) 0) v)

-- a row before i says that its node's phandle is v
unfoldable pub row_below : List ℕ → (i v : ℕ) → Bool
row_below w zero v = false
row_below w (suc i) v = row_below w i v || row_has w i v

-- the phandle is written into the row
unfoldable pub row_given : List ℕ → (i v : ℕ) → List ℕ
row_given w i v = if has_row w i then set (set w (node_words * i + 2) 1) (node_words * i + 3) v else w

-- ---- the pass: what is judged, and the work space behind it

unfoldable pub rows_from : List ℕ → ℕ → List Node → Verdict × List ℕ
rows_from w i [] = (passes, w)
rows_from w i (n ∷ ns) = elim (phandle_prop n.props) [
  | none ↦ rows_from w (suc i) ns
  | some p ↦ elim (row_below w i (word_at p.value 0)) [
    | true ↦ (refuses 12 p.place, w)
    | false ↦ rows_from (row_given w i (word_at p.value 0)) (suc i) ns
  ]
]

-- ---- the same, token by token

-- the number of the next node
abbrev pub next_number : ℕ → Bool → ℕ
next_number number true = suc number
next_number number false = number

abbrev pub passed : Search → ℕ
passed search = next_number search.number search.wants

unfoldable pub row_give : List ℕ → (i v : ℕ) → Option Search × List ℕ
row_give w i v = elim (row_below w i v) [ true ↦ (None, w) | false ↦ (Some (record { number = suc i; wants = false }), row_given w i v) ]

-- a property that does or does not give a phandle, where one is looked for or not
abbrev pub row_prop : (wants gives : Bool) (search : Search) (v : ℕ) → List ℕ → Option Search × List ℕ
row_prop false gives search v w = (Some search, w)
row_prop true false search v w = (Some search, w)
row_prop true true search v w = row_give w search.number v

abbrev pub row_turn : (s strings : Bytes) → Kind → Search → List ℕ → Option Search × List ℕ
row_turn s strings (Begin len) search w = (Some (record { number = passed search; wants = true }), w)
row_turn s strings EndNode search w = (Some (record { number = passed search; wants = false }), w)
row_turn s strings (Prop len name value) search w = row_prop search.wants (is_phandle (string_at strings name)) search (word_at (part s value len) 0) w
row_turn s strings Nop search w = (Some search, w)
