-- Events that are the same but for their places: the same is said without places, their nodes have the same names and properties, and
-- where one of two such trees passes 10 to 12 the other does.
use Rattle.std.specs.Prelude.{◌≡◌, refl, false, List, [], ◌∷◌, map, ℕ, suc, if◌then◌else◌}
use Rattle.std.proofs.Common.{sym, ap, ◌∙◌}
use Rattle.std.proofs.Math.Option.{Option, none, some}
use Rattle.rules.specs.Octets.{Bytes, word_at}
use Rattle.rules.specs.Outcome.{passes, ◌then◌}
use Rattle.rules.specs.Events.{Property, Event, opens, has, closes}
use Rattle.rules.specs.Tree.{Node, Tree, props_of, rest, nodes_from, nodes_of, sibling, named, doubled_props, doubled_from, doubled_judged, is_phandle, words_from, words_judged, phandle_prop, shared_from, shared_judged}
use Rattle.rules.specs.Written.{unplaced}
use Rattle.rules.specs.Demands.{plain}
use Rattle.rules.proofs.Laws.Tests.{by_test}
use Rattle.rules.proofs.Laws.Verdicts.{then_passes, one_passes}
use Rattle.rules.proofs.Laws.Passes.{doubled_step, words_step, step_words, shared_none, shared_split, shared_join, phandle_here, phandle_past}

-- ---- properties and nodes

pub data MovedProps : List Property → List Property → Type 0 where
  no_props : MovedProps [] []
  moved_prop : {p q : Property} {ps qs : List Property} → p.name ≡ q.name → p.value ≡ q.value → MovedProps ps qs → MovedProps (p ∷ ps) (q ∷ qs)

pub record MovedNode (a b : Node) : Type 0 where
  pub parent : a.parent ≡ b.parent
  pub name : a.name ≡ b.name
  pub props : MovedProps a.props b.props

pub data Moved : Tree → Tree → Type 0 where
  no_nodes : Moved [] []
  moved_node : {a b : Node} {t u : Tree} → MovedNode a b → Moved t u → Moved (a ∷ t) (b ∷ u)

-- ---- events

pub data Says : List Event → List Event → Type 0 where
  says_all : Says [] []
  says_open : {p q : ℕ} {name : Bytes} {es fs : List Event} → Says es fs → Says (opens p name ∷ es) (opens q name ∷ fs)
  says_has : {p q : Property} {es fs : List Event} → p.name ≡ q.name → p.value ≡ q.value → Says es fs → Says (has p ∷ es) (has q ∷ fs)
  says_close : {p q : ℕ} {es fs : List Event} → Says es fs → Says (closes p ∷ es) (closes q ∷ fs)

pub says_back : {es fs : List Event} → Says es fs → Says fs es
says_back says_all = says_all
says_back (says_open s) = says_open (says_back s)
says_back (says_has n v s) = says_has (sym n) (sym v) (says_back s)
says_back (says_close s) = says_close (says_back s)

pub says_unplaced : {es fs : List Event} → Says es fs → unplaced es ≡ unplaced fs
unfolding unplaced
says_unplaced says_all = refl
says_unplaced (says_open s) = rw (says_unplaced s)
says_unplaced (says_has n v s) = rw (n, v, says_unplaced s)
says_unplaced (says_close s) = rw (says_unplaced s)

says_props : {es fs : List Event} → Says es fs → MovedProps (props_of es) (props_of fs)
unfolding props_of
says_props says_all = no_props
says_props (says_open s) = no_props
says_props (says_has n v s) = moved_prop n v (says_props s)
says_props (says_close s) = no_props

says_from : {es fs : List Event} (stack : List ℕ) (next : ℕ) → Says es fs → Moved (nodes_from stack next es) (nodes_from stack next fs)
unfolding nodes_from
says_from stack next says_all = no_nodes
says_from stack next (says_open s) = moved_node (record { parent = refl; name = refl; props = says_props s }) (says_from (next ∷ stack) (suc next) s)
says_from stack next (says_has n v s) = says_from stack next s
says_from stack next (says_close s) = says_from (rest stack) next s

pub says_nodes : {es fs : List Event} → Says es fs → Moved (nodes_of es) (nodes_of fs)
unfolding nodes_of
says_nodes s = says_from [] 0 s

-- ---- names and properties

moved_values : {ps qs : List Property} → MovedProps ps qs
    → map {B = Bytes × Bytes} (λ (p : Property). (p.name, p.value)) ps ≡ map {B = Bytes × Bytes} (λ (p : Property). (p.name, p.value)) qs
moved_values no_props = refl
moved_values (moved_prop n v m) = λ i. (n i, v i) ∷ moved_values m i

pub moved_plain : {t u : Tree} → Moved t u → map plain t ≡ map plain u
moved_plain no_nodes = refl
moved_plain (moved_node a m) = λ i. record { name = a.name i; props = moved_values a.props i } ∷ moved_plain m i

pub moved_parents : {t u : Tree} → Moved t u → map (λ (n : Node). n.parent) t ≡ map (λ (n : Node). n.parent) u
moved_parents no_nodes = refl
moved_parents (moved_node a m) = λ i. a.parent i ∷ moved_parents m i

-- ---- 10 to 12

named_moved : (n m : Bytes) {ps qs : List Property} → n ≡ m → MovedProps ps qs → named n ps ≡ named m qs
unfolding named
named_moved n m e no_props = refl
named_moved n m e (moved_prop a v r) = rw (named_moved n m e r, e, a)

doubled_props_moved : {old new ps qs : List Property} → MovedProps old new → MovedProps ps qs → doubled_props old ps ≡ passes
    → doubled_props new qs ≡ passes
unfolding doubled_props
doubled_props_moved seen no_props h = h
doubled_props_moved {old} {new} seen (moved_prop {p = p} {q = q} {ps = ps} {qs = qs} n v m) h =
    let e = then_passes _ (doubled_props (p ∷ old) ps) tt h in
    rw (← named_moved p.name q.name n seen, one_passes (named p.name old) 10 p.place e.0)
    (doubled_props_moved (moved_prop n v seen) m e.1)

sibling_moved : (n m : Node) {t u : List Node} → n.parent ≡ m.parent → n.name ≡ m.name → Moved t u → sibling n t ≡ sibling m u
unfolding sibling
sibling_moved n m p e no_nodes = refl
sibling_moved n m p e (moved_node a r) = rw (sibling_moved n m p e r, p, e, a.parent, a.name)

doubled_from_moved : {old new t u : List Node} → Moved old new → Moved t u → doubled_from old t ≡ passes → doubled_from new u ≡ passes
unfolding doubled_from
doubled_from_moved seen no_nodes h = h
doubled_from_moved {old} {new} seen (moved_node {a = a} {b = b} {t = t} {u = u} m r) h =
    let d = doubled_step old a t h in
    let s : sibling b new ≡ false = sym (sibling_moved a b m.parent m.name seen) ∙ d.siblings in
    rw (s, doubled_props_moved no_props m.props d.props) (doubled_from_moved (moved_node m seen) r d.later)

pub doubled_moved : {t u : Tree} → Moved t u → doubled_judged t ≡ passes → doubled_judged u ≡ passes
unfolding doubled_judged
doubled_moved m h = doubled_from_moved no_nodes m h

worded_moved : (had : Option ℕ) {ps qs : List Property} → MovedProps ps qs → words_from had ps ≡ passes → words_from had qs ≡ passes
unfolding words_from
worded_moved had no_props h = h
worded_moved had (moved_prop {p = p} {q = q} {ps = ps} {qs = qs} n v m) h =
    let w = words_step had p ps h in
    let e : words_from (if is_phandle p.name then some (word_at p.value 0) else had) qs ≡ passes = worded_moved (if is_phandle p.name then some (word_at p.value 0) else had) m w.later in
    step_words had q qs (record { size = rw (n, v) at w.size; phandle = rw (n, v) at w.phandle; later = rw (n, v) at e })

pub words_moved : {t u : Tree} → Moved t u → words_judged t ≡ passes → words_judged u ≡ passes
unfolding words_judged
words_moved no_nodes h = h
words_moved (moved_node {a = a} {b = b} {t = t} {u = u} m r) h =
    let e = then_passes (words_from none a.props) (words_judged t) tt h in
    rw (worded_moved none m.props e.0) (words_moved r e.1)

-- one phandle property, or none
data SamePhandle : Option Property → Option Property → Type 0 where
  neither : SamePhandle none none
  each : {p q : Property} → p.value ≡ q.value → SamePhandle (some p) (some q)

phandle_moved : {ps qs : List Property} → MovedProps ps qs → SamePhandle (phandle_prop ps) (phandle_prop qs)
unfolding phandle_prop
phandle_moved no_props = neither
phandle_moved (moved_prop {p = p} {q = q} {ps = ps} {qs = qs} n v m) = by_test (is_phandle p.name)
    (λ e. rw (phandle_here p ps e, phandle_here q qs (rw n at e)) (each v))
    (λ e. rw (phandle_past p ps e, phandle_past q qs (rw n at e)) (phandle_moved m))

shared_node : (seen : List ℕ) (a b : Node) (t u : Tree) (x y : Option Property) → phandle_prop a.props ≡ x → phandle_prop b.props ≡ y
    → SamePhandle x y
    → ((seen : List ℕ) → shared_from seen t ≡ passes → shared_from seen u ≡ passes) → shared_from seen (a ∷ t) ≡ passes → shared_from seen (b ∷ u) ≡ passes
shared_node seen a b t u none none e f neither ih h = shared_none seen b u f ∙ ih seen (sym (shared_none seen a t e) ∙ h)
shared_node seen a b t u none (some q) e f x11 ih h = elim x11 [ ]
shared_node seen a b t u (some p) none e f x8 ih h = elim x8 [ ]
shared_node seen a b t u (some p) (some q) e f (each v) ih h =
    let s = shared_split seen a t p e h in
    let w : word_at p.value 0 ≡ word_at q.value 0 = ap (λ (z : Bytes). word_at z 0) v in
    shared_join seen b u q f (rw w at s.0) (ih (word_at q.value 0 ∷ seen) (rw w at s.1))

shared_from_moved : (seen : List ℕ) {t u : Tree} → Moved t u → shared_from seen t ≡ passes → shared_from seen u ≡ passes
unfolding shared_from
shared_from_moved seen no_nodes h = h
shared_from_moved seen (moved_node {a = a} {b = b} {t = t} {u = u} m r) h =
    shared_node seen a b t u (phandle_prop a.props) (phandle_prop b.props) refl refl (phandle_moved m.props) (λ s. shared_from_moved s r) h

pub shared_moved : {t u : Tree} → Moved t u → shared_judged t ≡ passes → shared_judged u ≡ passes
unfolding shared_judged
shared_moved m h = shared_from_moved [] m h
