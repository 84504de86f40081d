-- 01, "The blob, as read": the nodes in blob order, refusals 10, 11 and 12, each "a pass of its own"; node, path and below.
use Rattle.std.specs.Prelude.{Bool, true, false, not, ◌&&◌, ◌||◌, List, [], ◌∷◌, ◌++◌, ℕ, zero, suc, eqb, length, get_or, if◌then◌else◌}
use Rattle.std.proofs.Math.Option.{Option, none, some, map}
use Prim.Native.String.{String}
use Rattle.rules.specs.Octets.{Bytes, word_at, ascii, same}
use Rattle.rules.specs.Outcome.{Verdict, passes, ◌then◌, first}
use Rattle.rules.specs.Lists.{one_of}
use Rattle.rules.specs.Events.{Property, Event, opens, has, closes}

-- A node: where its BEGIN stands in the blob, its parent's number (root: 0), its name and its properties in order.
pub record Node : Type 0 where
  pub place : ℕ
  pub parent : ℕ
  pub name : Bytes
  pub props : List Property

-- The nodes in blob order; a node's number is its index, and the root's is 0.
abbrev pub Tree : Type 0
Tree = List Node

-- the properties that stand here: a node's follow its BEGIN
unfoldable pub props_of : List Event → List Property
props_of [] = []
props_of (opens place name ∷ es) = []
props_of (has p ∷ es) = p ∷ props_of es
props_of (closes place ∷ es) = []

abbrev pub top : List ℕ → ℕ
top [] = 0
top (i ∷ is) = i

abbrev pub rest : List ℕ → List ℕ
rest [] = []
rest (i ∷ is) = is

-- `stack` holds the numbers of the open nodes, the innermost first; `next` is the number of the next node
unfoldable pub nodes_from : (stack : List ℕ) (next : ℕ) → List Event → Tree
nodes_from stack next [] = []
nodes_from stack next (opens place name ∷ es) =
    record { place = place; parent = top stack; name = name; props = props_of es } ∷ nodes_from (next ∷ stack) (suc next) es
nodes_from stack next (has p ∷ es) = nodes_from stack next es
nodes_from stack next (closes place ∷ es) = nodes_from (rest stack) next es

unfoldable pub nodes_of : List Event → Tree
nodes_of es = nodes_from [] 0 es

abbrev pub nowhere : Node
nowhere = record { place = 0; parent = 0; name = []; props = [] }

abbrev pub node : Tree → ℕ → Node
node t i = get_or t i nowhere

-- the value of a property, by its name
unfoldable pub value_of : Bytes → List Property → Option Bytes
value_of n [] = none
value_of n (p ∷ ps) = elim (same n p.name) [ true ↦ some p.value | false ↦ value_of n ps ]

-- ---- 10: "two siblings, or two properties of a node, share a name"
-- A node's properties follow its BEGIN, so that node by node, each with its BEGIN and then its properties, is token order.

unfoldable pub sibling : Node → List Node → Bool
sibling n [] = false
sibling n (m ∷ ms) = eqb n.parent m.parent && same n.name m.name || sibling n ms

unfoldable pub named : Bytes → List Property → Bool
named n [] = false
named n (p ∷ ps) = same n p.name || named n ps

-- `seen` are the properties before, and the nodes before
unfoldable pub doubled_props : (seen : List Property) → List Property → Verdict
doubled_props seen [] = passes
doubled_props seen (p ∷ ps) =
    first (record { fails = named p.name seen; number = 10; place = p.place } ∷ []) then doubled_props (p ∷ seen) ps

unfoldable pub doubled_from : (seen : List Node) → List Node → Verdict
doubled_from seen [] = passes
doubled_from seen (n ∷ ns) =
    first (record { fails = sibling n seen; number = 10; place = n.place } ∷ [])
    then doubled_props [] n.props
    then doubled_from (n ∷ seen) ns

unfoldable pub doubled_judged : Tree → Verdict
doubled_judged t = doubled_from [] t

-- ---- 11: "`phandle`, `linux,phandle` or one of the 14 `#...-cells` names in `build_phandle_map` isn't 4 bytes, or a node's two
-- phandle names disagree"

unfoldable pub among : Bytes → List String → Bool
among n [] = false
among n (s ∷ ss) = same n (ascii s) || among n ss

unfoldable pub phandle_names : List String
phandle_names = "phandle" ∷ "linux,phandle" ∷ []

unfoldable pub cells_names : List String
cells_names =
    "#address-cells"
    ∷ "#size-cells"
    ∷ "#clock-cells"
    ∷ "#reset-cells"
    ∷ "#gpio-cells"
    ∷ "#interrupt-cells"
    ∷ "#power-domain-cells"
    ∷ "#thermal-sensor-cells"
    ∷ "#phy-cells"
    ∷ "#dma-cells"
    ∷ "#sound-dai-cells"
    ∷ "#mbox-cells"
    ∷ "#pwm-cells"
    ∷ "#iommu-cells"
    ∷ []

abbrev pub is_phandle : Bytes → Bool
is_phandle n = among n phandle_names

-- a name that refusal 11 reads
abbrev pub read_name : Bytes → Bool
read_name n = is_phandle n || among n cells_names

abbrev pub differs : Option ℕ → ℕ → Bool
differs none v = false
differs (some u) v = not (eqb u v)

-- `had` is the node's phandle so far
unfoldable pub words_from : (had : Option ℕ) → List Property → Verdict
words_from had [] = passes
words_from had (p ∷ ps) =
    first
    (record { fails = read_name p.name && not (eqb (length p.value) 4); number = 11; place = p.place }
    ∷ record { fails = is_phandle p.name && differs had (word_at p.value 0); number = 11; place = p.place }
    ∷ [])
    then words_from (if is_phandle p.name then some (word_at p.value 0) else had) ps

unfoldable pub words_judged : Tree → Verdict
words_judged [] = passes
words_judged (n ∷ ns) = words_from none n.props then words_judged ns

-- ---- 12: "two nodes have one phandle"; the place is "the later node's first phandle token"

-- the first property that gives a node's phandle
unfoldable pub phandle_prop : List Property → Option Property
phandle_prop [] = none
phandle_prop (p ∷ ps) = elim (is_phandle p.name) [ true ↦ some p | false ↦ phandle_prop ps ]

abbrev pub phandle_of : Node → Option ℕ
phandle_of n = map (λ (p : Property). word_at p.value 0) (phandle_prop n.props)

-- `seen` are the phandles before
unfoldable pub shared_from : (seen : List ℕ) → List Node → Verdict
shared_from seen [] = passes
shared_from seen (n ∷ ns) = elim (phandle_prop n.props) [
  | none ↦ shared_from seen ns
  | some p ↦
      first (record { fails = one_of (word_at p.value 0) seen; number = 12; place = p.place } ∷ [])
      then shared_from (word_at p.value 0 ∷ seen) ns
]

unfoldable pub shared_judged : Tree → Verdict
shared_judged t = shared_from [] t

-- ---- below and path

-- from node m, k steps to the parent at most: does one come to p
unfoldable pub climb : Tree → ℕ → ℕ → ℕ → Bool
climb t zero p m = false
climb t (suc k) p zero = false
climb t (suc k) p (suc m) = let q : ℕ = (node t (suc m)).parent in eqb q p || climb t k p q

-- m is below p; a parent's number is smaller than its child's, so that m steps are enough
abbrev pub below : Tree → ℕ → ℕ → Bool
below t p m = climb t m p m

-- the path of node m, but that the root's is empty; again m steps are enough
unfoldable pub spell : Tree → ℕ → ℕ → Bytes
spell t zero m = []
spell t (suc k) zero = []
spell t (suc k) (suc m) = spell t k (node t (suc m)).parent ++ 47 ∷ (node t (suc m)).name

abbrev pub path : Tree → ℕ → Bytes
path t zero = 47 ∷ []
path t (suc m) = spell t (suc m) (suc m)

-- What a tree is without its properties: how many nodes, their parents and names, their paths, and which is below which.
pub record Frame : Type 0 where
  pub size : ℕ
  pub up : ℕ → ℕ
  pub name : ℕ → Bytes
  pub path : ℕ → Bytes
  pub below : ℕ → ℕ → Bool

abbrev pub frame : Tree → Frame
frame t = record { size = length t; up = λ i. (node t i).parent; name = λ i. (node t i).name; path = path t; below = below t }

-- the numbers below n, ascending from `from`
unfoldable pub numbers_from : (from n : ℕ) → List ℕ
numbers_from from zero = []
numbers_from from (suc n) = from ∷ numbers_from (suc from) n

abbrev pub numbers : Frame → List ℕ
numbers f = numbers_from 0 f.size
