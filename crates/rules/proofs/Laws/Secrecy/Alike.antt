-- Properties, nodes, trees and events that are the same but for values that are not open: what the reader judges of them, and what
-- it takes from them, is the same.
use Rattle.std.specs.Prelude.{◌≡◌, refl, Bool, true, false, List, [], ◌∷◌, map, ℕ, zero, suc, ◌+◌, length, ◌||◌, if◌then◌else◌}
use Rattle.std.proofs.Common.{sym, ap, ap₂, ◌∙◌, subst, arith}
use Rattle.std.proofs.Math.Option
use Rattle.std.proofs.Math.Option.{Option, none, some}
use Rattle.rules.specs.Octets.{Bytes, word_at, same}
use Rattle.rules.specs.Outcome.{◌then◌}
use Rattle.rules.specs.Events.{Property, Event, opens, has, closes}
use Rattle.rules.specs.Tree.{Node, Tree, node, props_of, top, rest, nodes_from, nodes_of, value_of, sibling, named, doubled_props, doubled_from, doubled_judged, among, cells_names, is_phandle, read_name, words_from, words_judged, phandle_prop, phandle_of, shared_from, shared_judged}
use Rattle.rules.specs.Copy.{sieve}
use Rattle.rules.proofs.Laws.Tests.{by_test, or_false, or_left}
use Rattle.rules.proofs.Laws.Octets.{same_eq}
use Rattle.rules.proofs.Laws.References.{by_option}
use Rattle.rules.proofs.Laws.Passes.{shared_none, shared_some, phandle_here, phandle_past}

-- ---- properties

pub record AlikeProp (O : Bytes → Type 0) (p q : Property) : Type 0 where
  pub place : p.place ≡ q.place
  pub name : p.name ≡ q.name
  pub size : length p.value ≡ length q.value
  pub value : O p.name → p.value ≡ q.value

pub data Alike (O : Bytes → Type 0) : List Property → List Property → Type 0 where
  ended : Alike O [] []
  paired : {p q : Property} {ps qs : List Property} → AlikeProp O p q → Alike O ps qs → Alike O (p ∷ ps) (q ∷ qs)

-- where the name is open, they are one
pub prop_same : {O : Bytes → Type 0} {p q : Property} → AlikeProp O p q → O p.name → p ≡ q
prop_same a o = λ i. record { place = a.place i; name = a.name i; value = a.value o i }

pub alike_all : {O : Bytes → Type 0} {ps qs : List Property} → ((n : Bytes) → O n) → Alike O ps qs → ps ≡ qs
alike_all o ended = refl
alike_all o (paired {p = p} a more) = λ i. prop_same a (o p.name) i ∷ alike_all o more i

pub alike_weaken : {O P : Bytes → Type 0} {ps qs : List Property} → ((n : Bytes) → P n → O n) → Alike O ps qs → Alike P ps qs
alike_weaken f ended = ended
alike_weaken f (paired {p = p} a more) =
    paired (record { place = a.place; name = a.name; size = a.size; value = λ h. a.value (f p.name h) }) (alike_weaken f more)

module _ (n : Bytes) (p : Property) (ps : List Property) where
  pub value_here : same n p.name ≡ true → value_of n (p ∷ ps) ≡ some p.value
  unfolding value_of
  value_here e = rw (e, value_of)

  pub value_past : same n p.name ≡ false → value_of n (p ∷ ps) ≡ value_of n ps
  unfolding value_of
  value_past e = rw (e, value_of)

-- the value of an open name
pub alike_value : {O : Bytes → Type 0} {ps qs : List Property} (n : Bytes) → O n → Alike O ps qs → value_of n ps ≡ value_of n qs
unfolding value_of
alike_value n o ended = refl
alike_value {O} n o (paired {p = p} {q = q} {ps = ps} {qs = qs} a more) = by_test (same n p.name)
    (λ s. value_here n p ps s ∙ ap {B = Option Bytes} some (a.value (rw (same_eq n p.name s) at o)) ∙ sym (value_here n q qs (rw a.name at s)))
    (λ s. value_past n p ps s ∙ alike_value n o more ∙ sym (value_past n q qs (rw a.name at s)))

-- ---- names that refusal 11 reads

abbrev pub Public : Bytes → Type 0
Public n = read_name n ≡ true

module _ (p : Property) (ps : List Property) where
  words_skip : (had : Option ℕ) → read_name p.name ≡ false → words_from had (p ∷ ps) ≡ words_from had ps
  unfolding words_from
  words_skip had e = let o = or_false (is_phandle p.name) (among p.name cells_names) e in rw (o.0, o.1)

-- 11 of a node
pub words_same : (had : Option ℕ) {ps qs : List Property} → Alike Public ps qs → words_from had ps ≡ words_from had qs
unfolding words_from
words_same had ended = refl
words_same had (paired {p = p} {q = q} {ps = ps} {qs = qs} a more) = by_test (read_name p.name)
    (λ e. rw (prop_same a e, words_same (if is_phandle q.name then some (word_at q.value 0) else had) more))
    (λ e. words_skip p ps had e ∙ words_same had more ∙ sym (words_skip q qs had (rw a.name at e)))

pub phandle_prop_same : {ps qs : List Property} → Alike Public ps qs → phandle_prop ps ≡ phandle_prop qs
unfolding phandle_prop
phandle_prop_same ended = refl
phandle_prop_same (paired {p = p} {q = q} {ps = ps} {qs = qs} a more) = by_test (is_phandle p.name)
    (λ e. phandle_here p ps e
    ∙ ap {B = Option Property} some (prop_same a (or_left (is_phandle p.name) (among p.name cells_names) e))
    ∙ sym (phandle_here q qs (rw a.name at e)))
    (λ e. phandle_past p ps e ∙ phandle_prop_same more ∙ sym (phandle_past q qs (rw a.name at e)))

named_same : {O : Bytes → Type 0} (n m : Bytes) {ps qs : List Property} → n ≡ m → Alike O ps qs → named n ps ≡ named m qs
unfolding named
named_same n m e ended = refl
named_same n m e (paired {q = q} a more) = rw (e, a.name) (ap (λ (b : Bool). same m q.name || b) (named_same n m e more))

-- 10 of a node's properties
pub doubled_props_same : {O : Bytes → Type 0} {old new ps qs : List Property} → Alike O old new → Alike O ps qs
    → doubled_props old ps ≡ doubled_props new qs
unfolding doubled_props
doubled_props_same seen ended = refl
doubled_props_same seen (paired {p = p} {q = q} a more) =
    rw (doubled_props_same (paired a seen) more, named_same p.name q.name a.name seen, a.place)

-- ---- nodes

pub record AlikeNode (O : Bytes → Type 0) (a b : Node) : Type 0 where
  pub place : a.place ≡ b.place
  pub parent : a.parent ≡ b.parent
  pub name : a.name ≡ b.name
  pub props : Alike O a.props b.props

pub data Twins : List Node → List Node → Type 0 where
  no_twins : Twins [] []
  twins : {a b : Node} {t u : List Node} → AlikeNode Public a b → Twins t u → Twins (a ∷ t) (b ∷ u)

sibling_same : (n m : Node) {t u : List Node} → n.parent ≡ m.parent → n.name ≡ m.name → Twins t u → sibling n t ≡ sibling m u
unfolding sibling
sibling_same n m p e no_twins = refl
sibling_same n m p e (twins a more) = rw (sibling_same n m p e more, p, e, a.parent, a.name)

doubled_from_same : {old new t u : List Node} → Twins old new → Twins t u → doubled_from old t ≡ doubled_from new u
unfolding doubled_from
doubled_from_same seen no_twins = refl
doubled_from_same seen (twins {a = n} {b = m} a more) =
    rw (doubled_from_same (twins a seen) more, doubled_props_same ended a.props, sibling_same n m a.parent a.name seen, a.place)

-- 10, 11 and 12 judge alike
pub doubled_same : {t u : Tree} → Twins t u → doubled_judged t ≡ doubled_judged u
unfolding doubled_judged
doubled_same a = doubled_from_same no_twins a

pub words_judged_same : {t u : Tree} → Twins t u → words_judged t ≡ words_judged u
unfolding words_judged
words_judged_same no_twins = refl
words_judged_same (twins a more) = rw (words_same none a.props, words_judged_same more)

shared_from_same : (seen : List ℕ) {t u : Tree} → Twins t u → shared_from seen t ≡ shared_from seen u
unfolding shared_from
shared_from_same seen no_twins = refl
shared_from_same seen (twins {a = n} {b = m} {t = t} {u = u} a more) = by_option (phandle_prop n.props)
    (λ e. shared_none seen n t e ∙ shared_from_same seen more ∙ sym (shared_none seen m u (sym (phandle_prop_same a.props) ∙ e)))
    (λ p e. shared_some seen n t p e
    ∙ rw (shared_from_same (word_at p.value 0 ∷ seen) more)
    (sym (shared_some seen m u p (sym (phandle_prop_same a.props) ∙ e))))

pub shared_same : {t u : Tree} → Twins t u → shared_judged t ≡ shared_judged u
unfolding shared_judged
shared_same a = shared_from_same [] a

pub phandles_same : {t u : Tree} → Twins t u → map phandle_of t ≡ map phandle_of u
phandles_same no_twins = refl
phandles_same (twins a more) =
    ap₂ (λ (o : Option ℕ) (l : List (Option ℕ)). o ∷ l) (ap (Option.map (λ (p : Property). word_at p.value 0)) (phandle_prop_same a.props))
    (phandles_same more)

-- ---- trees: what is open depends on the node

pub record AlikeTree (O : ℕ → Bytes → Type 0) (t u : Tree) : Type 0 where
  pub size : length t ≡ length u
  pub each : (i : ℕ) → AlikeNode (O i) (node t i) (node u i)
  pub twins : Twins t u

data AlikeFrom (O : ℕ → Bytes → Type 0) : ℕ → Tree → Tree → Type 0 where
  over : {next : ℕ} → AlikeFrom O next [] []
  both : {next : ℕ} {a b : Node} {t u : Tree} → AlikeNode (O next) a b → AlikeFrom O (suc next) t u → AlikeFrom O next (a ∷ t) (b ∷ u)

from_size : {O : ℕ → Bytes → Type 0} {next : ℕ} {t u : Tree} → AlikeFrom O next t u → length t ≡ length u
from_size over = refl
from_size (both a f) = ap suc (from_size f)

from_each : {O : ℕ → Bytes → Type 0} {next : ℕ} {t u : Tree} → AlikeFrom O next t u → (j i : ℕ) → next + j ≡ i → AlikeNode (O i) (node t j) (node u j)
from_each over j i e = record { place = refl; parent = refl; name = refl; props = ended }
from_each {O} (both {next = next} {a = a} {b = b} n f) zero i e =
    let g : next ≡ i = omega arith in subst (λ (z : ℕ). AlikeNode (O z) a b) g n
from_each (both {next = next} n f) (suc j) i e = from_each f j i (omega arith)

from_twins : {O : ℕ → Bytes → Type 0} {next : ℕ} {t u : Tree} → ((i : ℕ) (n : Bytes) → Public n → O i n) → AlikeFrom O next t u → Twins t u
from_twins o over = no_twins
from_twins o (both {next = next} a f) =
    twins (record { place = a.place; parent = a.parent; name = a.name; props = alike_weaken (o next) a.props }) (from_twins o f)

-- ---- events

-- `stack` holds the open nodes, `next` the next number
pub data Veiled (O : ℕ → Bytes → Type 0) : List ℕ → ℕ → List Event → List Event → Type 0 where
  veiled : {stack : List ℕ} {next : ℕ} → Veiled O stack next [] []
  both_open : {stack : List ℕ} {next place : ℕ} {name : Bytes} {es fs : List Event} → Veiled O (next ∷ stack) (suc next) es fs
      → Veiled O stack next (opens place name ∷ es) (opens place name ∷ fs)
  both_have : {stack : List ℕ} {next : ℕ} {p q : Property} {es fs : List Event} → AlikeProp (O (top stack)) p q → Veiled O stack next es fs
      → Veiled O stack next (has p ∷ es) (has q ∷ fs)
  both_close : {stack : List ℕ} {next place : ℕ} {es fs : List Event} → Veiled O (rest stack) next es fs
      → Veiled O stack next (closes place ∷ es) (closes place ∷ fs)

veiled_props : {O : ℕ → Bytes → Type 0} {stack : List ℕ} {next : ℕ} {es fs : List Event} → Veiled O stack next es fs
    → Alike (O (top stack)) (props_of es) (props_of fs)
unfolding props_of
veiled_props veiled = ended
veiled_props (both_open v) = ended
veiled_props (both_have a v) = paired a (veiled_props v)
veiled_props (both_close v) = ended

veiled_nodes : {O : ℕ → Bytes → Type 0} {stack : List ℕ} {next : ℕ} {es fs : List Event} → Veiled O stack next es fs
    → AlikeFrom O next (nodes_from stack next es) (nodes_from stack next fs)
unfolding nodes_from
veiled_nodes veiled = over
veiled_nodes (both_open v) = both (record { place = refl; parent = refl; name = refl; props = veiled_props v }) (veiled_nodes v)
veiled_nodes (both_have a v) = veiled_nodes v
veiled_nodes (both_close v) = veiled_nodes v

-- the nodes of such events are alike
pub veiled_tree : {O : ℕ → Bytes → Type 0} {es fs : List Event} → ((i : ℕ) (n : Bytes) → Public n → O i n) → Veiled O [] 0 es fs
    → AlikeTree O (nodes_of es) (nodes_of fs)
unfolding nodes_of
veiled_tree o v =
    let f = veiled_nodes v in
    record { size = from_size f; each = λ i. from_each f i i (omega arith); twins = from_twins o f }

-- a sieve that keeps only nodes of which all is open leaves the same
pub sieve_same : {O : ℕ → Bytes → Type 0} (k : ℕ → Bool) → ((i : ℕ) (n : Bytes) → k i ≡ true → O i n) → {stack : List ℕ} {next : ℕ} {es fs : List Event}
    → Veiled O stack next es fs → sieve k stack next es ≡ sieve k stack next fs
unfolding sieve
sieve_same k o veiled = refl
sieve_same k o (both_open v) = rw (sieve_same k o v)
sieve_same k o (both_close v) = rw (sieve_same k o v)
sieve_same k o (both_have {stack = stack} {p = p} {q = q} a v) = by_test (k (top stack))
    (λ e. rw (e, prop_same a (o (top stack) p.name e), sieve_same k o v))
    (λ e. rw e (sieve_same k o v))
