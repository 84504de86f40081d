-- The nodes that are read are the grammar's, in its order, each below the node that holds it there.
use Rattle.std.specs.Prelude.{◌≡◌, refl, List, [], ◌∷◌, ◌++◌, map, ℕ, suc, ◌+◌, length}
use Rattle.std.proofs.Common.{sym, ap, ap₂, ◌∙◌, append_assoc, append-nil, arith, length-append}
use Rattle.std.proofs.lemmas.List.{length-map}
use Rattle.rules.specs.Octets.{Bytes}
use Rattle.rules.specs.Blob.{Block, block_in}
use Rattle.rules.specs.Events.{Property, Event, opens, has, closes, events_in}
use Rattle.rules.specs.Tree.{Node, props_of, top, rest, nodes_from, nodes_of}
use Rattle.rules.specs.Reader.{events_read, tree_read}
use Rattle.rules.specs.Written.{unplaced}
use Rattle.rules.specs.Grammar.{Forest, empty, node, size, tell_props, tell}
use Rattle.rules.specs.Demands.{Plain, plain}
use Rattle.rules.specs.Exactly.{preorder, NodesOfGrammar}
use Rattle.rules.proofs.Laws.Trips.Single.{grammar_says}

abbrev row : Node → ℕ × Plain
row n = (n.parent, plain n)

abbrev pair : Property → Bytes × Bytes
pair p = (p.name, p.value)

-- the rows of events, and their properties
abbrev rows : List ℕ → ℕ → List Event → List (ℕ × Plain)
rows stack next es = map row (nodes_from stack next es)

abbrev pairs : List Event → List (Bytes × Bytes)
pairs es = map pair (props_of es)

abbrev entry : ℕ → Bytes → List (Bytes × Bytes) → ℕ × Plain
entry parent name props = (parent, record { name = name; props = props })

-- ---- places do not count

pairs_unplaced : (es : List Event) → pairs (unplaced es) ≡ pairs es
unfolding unplaced props_of
pairs_unplaced [] = refl
pairs_unplaced (opens place name ∷ es) = refl
pairs_unplaced (has p ∷ es) = ap (λ (x : List (Bytes × Bytes)). pair p ∷ x) (pairs_unplaced es)
pairs_unplaced (closes place ∷ es) = refl

rows_unplaced : (stack : List ℕ) (next : ℕ) (es : List Event) → rows stack next (unplaced es) ≡ rows stack next es
unfolding unplaced nodes_from
rows_unplaced stack next [] = refl
rows_unplaced stack next (opens place name ∷ es) =
    ap₂ (λ (p : List (Bytes × Bytes)) (x : List (ℕ × Plain)). entry (top stack) name p ∷ x) (pairs_unplaced es) (rows_unplaced (next ∷ stack) (suc next) es)
rows_unplaced stack next (has p ∷ es) = rows_unplaced stack next es
rows_unplaced stack next (closes place ∷ es) = rows_unplaced (rest stack) next es

-- ---- what a forest says

-- properties, and then what is none
pairs_props : (ps : List (Bytes × Bytes)) (es : List Event) → pairs (tell_props ps es) ≡ ps ++ pairs es
unfolding tell_props props_of
pairs_props [] es = refl
pairs_props (p ∷ ps) es = ap (λ (x : List (Bytes × Bytes)). p ∷ x) (pairs_props ps es)

pairs_none : (f : Forest) (es : List Event) → pairs (tell f (closes 0 ∷ es)) ≡ []
unfolding tell props_of
pairs_none empty es = refl
pairs_none (node name props below beside) es = refl

rows_props : (stack : List ℕ) (next : ℕ) (ps : List (Bytes × Bytes)) (es : List Event) → rows stack next (tell_props ps es) ≡ rows stack next es
unfolding tell_props nodes_from
rows_props stack next [] es = refl
rows_props stack next (p ∷ ps) es = rows_props stack next ps es

-- nodes below the innermost open one, and then the rest
rows_tell : (stack : List ℕ) (next : ℕ) (f : Forest) (es : List Event) → rows stack next (tell f es) ≡ preorder (top stack) next f ++ rows stack (next + size f) es
unfolding tell nodes_from preorder size
rows_tell stack next empty es = let e : next + 0 ≡ next = omega arith in rw e
rows_tell stack next (node name props below beside) es =
    let more : List Event = tell below (closes 0 ∷ tell beside es) in
    let p : pairs (tell_props props more) ≡ props = pairs_props props more ∙ rw (pairs_none below (tell beside es)) (append-nil props) in
    let e : suc next + size below + size beside ≡ next + suc (size below + size beside) = omega arith in
    let inner : List (ℕ × Plain) = preorder next (suc next) below in
    let outer : List (ℕ × Plain) = preorder (top stack) (suc next + size below) beside in
    let q : rows (next ∷ stack) (suc next) (tell_props props more) ≡ (inner ++ outer) ++ rows stack (next + suc (size below + size beside)) es =
    rows_props (next ∷ stack) (suc next) props more
    ∙ rows_tell (next ∷ stack) (suc next) below (closes 0 ∷ tell beside es)
    ∙ ap (λ (x : List (ℕ × Plain)). inner ++ x) (rows_tell stack (suc next + size below) beside es)
    ∙ rw e (sym (append_assoc inner outer (rows stack (next + suc (size below + size beside)) es))) in
    ap₂ (λ (x : List (Bytes × Bytes)) (y : List (ℕ × Plain)). entry (top stack) name x ∷ y) p q

length_preorder : (parent next : ℕ) (f : Forest) → length (preorder parent next f) ≡ size f
unfolding preorder size
length_preorder parent next empty = refl
length_preorder parent next (node name props below beside) =
    let a = length_preorder next (suc next) below in
    let b = length_preorder parent (suc next + size below) beside in
    let l = length-append (preorder next (suc next) below) (preorder parent (suc next + size below) beside) in
    omega arith

rows_none : (stack : List ℕ) (next : ℕ) → rows stack next [] ≡ []
unfolding nodes_from
rows_none stack next = refl

-- THE NODES THAT ARE READ ARE THOSE OF THE GRAMMAR'S TREE
pub nodes_of_grammar : NodesOfGrammar
unfolding tree_read events_read nodes_of
nodes_of_grammar blob f d =
    let b : Block = block_in blob in
    let e : map row (tree_read blob) ≡ preorder 0 0 f =
    sym (rows_unplaced [] 0 (events_in b))
    ∙ ap (rows [] 0) (grammar_says b f d)
    ∙ rows_tell [] 0 f []
    ∙ rw (rows_none [] (0 + size f)) (append-nil (preorder 0 0 f)) in
    (e, sym (length-map (tree_read blob) row) ∙ ap length e ∙ length_preorder 0 0 f)
