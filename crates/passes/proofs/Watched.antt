-- Refusal 11 as a walk over events, and the names that it reads.
use Rattle.std.specs.Prelude.{if◌then◌else◌, Option as Answer, Some, None}
use mathlib.Core.Path.{◌≡◌, refl, sym, ap, ap₂, ◌∙◌}
use mathlib.Core.Bool.{Bool, true, false, not, ◌&&◌, ◌||◌}
use mathlib.Core.List.{List, [], ◌∷◌}
use mathlib.Core.Option.{Option, none, some}
use Prim.Native.Nat.{ℕ, suc, ◌+◌, ◌≤◌}
use Prim.Native.String.{String}
use lib.Dec.{eqb}
use native.Mathlib.Omega.{arith}
use lib.ListN.{length}
use lib.Pointwise.{pointwise}
use Rattle.std.specs.List.{starts_with}
use types.Run.{OneOf, miss}
use denote.Enum.Declared.{tag_of}
use borrow.Author.Tests.{eqb-true, eq-eqb, ne_eqb}
use Rattle.rules.specs.Octets.{Bytes, byte_at, word_at, ascii, same}
use Rattle.rules.specs.Outcome.{Verdict, refuses, passes, ◌then◌, first}
use Rattle.rules.specs.Blob.{Block, block_of}
use Rattle.rules.specs.Events.{Property, Event, opens, has, closes, saying, events_in}
use Rattle.rules.specs.Tree.{props_of, rest, nodes_from, nodes_of, is_phandle, among, cells_names, differs, words_from, words_judged}
use Rattle.rules.specs.Tokens.{token_at}
use Rattle.rules.specs.declared.Token.{Token}
use Rattle.rules.specs.declared.Token.TheVariants.{Item}
use Rattle.rules.specs.declared.Kind.{Kind}
use Rattle.rules.specs.declared.Kind.TheVariants.{Begin, EndNode, Prop, Nop}
use Rattle.rules.proofs.Laws.Tests.{never, and_true, false_or, eqb_sym}
use Rattle.rules.proofs.Laws.Octets.{ne_same}
use Rattle.passes.specs.declared.cells.Seen.{Seen}
use Rattle.passes.specs.declared.cells.Seen.TheVariants.{Outside, Within, Given}
use Rattle.passes.specs.contracts.cells.Seen as seens
use Rattle.passes.specs.Cells.{had, on_given, on_property, on_has, on_kind}
use Rattle.rules.specs.Laws.Events.{events_at}
use Rattle.doubled.specs.Passes.{nodes_in}
use Rattle.doubled.proofs.Turns.{events_all, events_item, events_stop}

-- ---- names

-- whether each begins with `#`
unfoldable marked : List String → Bool
marked [] = true
marked (s ∷ ss) = eqb (byte_at (ascii s) 0) 35 && marked ss

-- a name that does not begin with `#` is none of those that do
none_marked : (n : Bytes) → (byte_at n 0 ≡ 35 → ⊥) → (ss : List String) → marked ss ≡ true → among n ss ≡ false
unfolding among marked
none_marked n h [] m = refl
none_marked n h (s ∷ ss) m =
    let t = and_true (eqb (byte_at (ascii s) 0) 35) (marked ss) m in
    false_or (same n (ascii s)) (among n ss) (ne_same n (ascii s) (λ f. h (ap (λ (l : Bytes). byte_at l 0) f ∙ eqb-true (byte_at (ascii s) 0) 35 t.0))) (none_marked n h ss t.1)

-- `==` on byte strings, as it is asked of their bytes
pub equal_same : (a b : Bytes) → pointwise eqb a b ≡ same b a
unfolding same
equal_same [] [] = refl
equal_same [] (y ∷ b) = refl
equal_same (x ∷ a) [] = refl
equal_same (x ∷ a) (y ∷ b) = ap₂ (λ (p q : Bool). p && q) (eqb_sym x y) (equal_same a b)

pub unmarked : (n : Bytes) → starts_with eqb n (35 ∷ []) ≡ false → among n cells_names ≡ false
unfolding marked cells_names ascii
unmarked n h = none_marked n (head n h) cells_names refl
  where
    head : (m : Bytes) → starts_with eqb m (35 ∷ []) ≡ false → byte_at m 0 ≡ 35 → ⊥
    head [] k e = let z : ⊥ = omega (arith, e) in z
    head (b ∷ m) k e = never (starts_with eqb (b ∷ m) (35 ∷ [])) (rw (eq-eqb 35 b (sym e))) k

-- ---- events

-- what follows a turn
abbrev turned : (place : ℕ) → (Seen → Verdict) → Answer Seen → Verdict
turned place rest (Some seen) = rest seen
turned place rest None = refuses 11 place

unfoldable pub words_rest : Seen → List Event → Verdict
words_rest seen [] = passes
words_rest seen (opens place name ∷ es) = words_rest Within es
words_rest seen (has p ∷ es) = turned p.place (λ (q : Seen). words_rest q es) (on_has seen p.name p.value)
words_rest seen (closes place ∷ es) = words_rest Outside es

-- what is left of the node whose properties are read
abbrev in_node : Seen → List Property → Verdict
in_node Outside ps = passes
in_node Within ps = words_from none ps
in_node (Given v) ps = words_from (some v) ps

-- a property's tests, by what they come to: c is that it gives a phandle, a that it is another name that is read, l that it isn't
-- four bytes, d that the phandles differ
module _ (place v : ℕ) (hd : Option ℕ) (seen : Seen) (go : Option ℕ → Verdict) (ns : Verdict) (then-on : Seen → Verdict)
    (same : then-on seen ≡ (go hd then ns)) (new : then-on (Given v) ≡ (go (some v) then ns)) where
  tests : (a c l d : Bool)
      → turned place then-on (if c then (if l then None else if d then None else Some (Given v)) else if a && l then None else Some seen)
      ≡ ((first (record { fails = (c || a) && l; number = 11; place = place } ∷ record { fails = c && d; number = 11; place = place } ∷ []) then go (if c then some v else hd)) then ns)
  tests a true true d = refl
  tests a true false true = refl
  tests a true false false = new
  tests true false true d = refl
  tests true false false d = same
  tests false false true d = same
  tests false false false d = same

-- the walk says what the definition says of the nodes
pub words_nodes : (seen : Seen) (stack : List ℕ) (next : ℕ) (es : List Event) → words_rest seen es ≡ (in_node seen (props_of es) then words_judged (nodes_from stack next es))
unfolding words_rest words_from words_judged props_of nodes_from on_property on_given
words_nodes Outside stack next [] = refl
words_nodes Within stack next [] = refl
words_nodes (Given v) stack next [] = refl
words_nodes Outside stack next (opens place name ∷ es) = words_nodes Within (next ∷ stack) (suc next) es
words_nodes Within stack next (opens place name ∷ es) = words_nodes Within (next ∷ stack) (suc next) es
words_nodes (Given v) stack next (opens place name ∷ es) = words_nodes Within (next ∷ stack) (suc next) es
words_nodes Outside stack next (closes place ∷ es) = words_nodes Outside (rest stack) next es
words_nodes Within stack next (closes place ∷ es) = words_nodes Outside (rest stack) next es
words_nodes (Given v) stack next (closes place ∷ es) = words_nodes Outside (rest stack) next es
words_nodes Outside stack next (has p ∷ es) = words_nodes Outside stack next es
words_nodes Within stack next (has p ∷ es) =
    tests p.place (word_at p.value 0) none Within (λ (o : Option ℕ). words_from o (props_of es)) (words_judged (nodes_from stack next es)) (λ (q : Seen). words_rest q es)
    (words_nodes Within stack next es) (words_nodes (Given (word_at p.value 0)) stack next es)
    (among p.name cells_names) (is_phandle p.name) (not (eqb (length p.value) 4)) (differs none (word_at p.value 0))
words_nodes (Given v) stack next (has p ∷ es) =
    tests p.place (word_at p.value 0) (some v) (Given v) (λ (o : Option ℕ). words_from o (props_of es)) (words_judged (nodes_from stack next es)) (λ (q : Seen). words_rest q es)
    (words_nodes (Given v) stack next es) (words_nodes (Given (word_at p.value 0)) stack next es)
    (among p.name cells_names) (is_phandle p.name) (not (eqb (length p.value) 4)) (differs (some v) (word_at p.value 0))

-- ---- one token

pub word_turn : (b : Block) (seen : Seen) (at : ℕ) (kind : Kind) (next : ℕ) (es : List Event)
    → words_rest seen (saying b at (Item kind next) es) ≡ turned (b.place + at) (λ (q : Seen). words_rest q es) (on_kind b.structure b.strings seen kind)
unfolding words_rest
word_turn b seen at (Begin len) next es = refl
word_turn b seen at EndNode next es = refl
word_turn b seen at (Prop len name value) next es = refl
word_turn b seen at Nop next es = refl

pub words_none : (seen : Seen) → words_rest seen [] ≡ passes
unfolding words_rest
words_none seen = refl

-- a phandle where none is known
pub unknown : (seen : Seen) (v : ℕ) → OneOf (0 ∷ 1 ∷ []) (tag_of seens.the_type seen) → differs (had seen) v ≡ false
unknown Outside v h = refl
unknown Within v h = refl
unknown (Given u) v h = absurd (miss (0 ∷ 1 ∷ []) 2 tt h)

-- a property of a node
pub known : (seen : Seen) (name value : Bytes) → (seen ≡ Outside → ⊥) → on_has seen name value ≡ on_property seen name value
known Outside name value h = absurd (h refl)
known Within name value h = refl
known (Given u) name value h = refl

-- another phandle than the one that is known, or the same
pub other : (seen : Seen) (u v : ℕ) → seen ≡ Given u → (u ≡ v → ⊥) → differs (had seen) v ≡ true
other seen u v e h = rw (e, ne_eqb u v h)

pub again : (seen : Seen) (u v : ℕ) → seen ≡ Given u → u ≡ v → differs (had seen) v ≡ false
again seen u v e h = rw (e, eq-eqb u v h)

-- ---- the walk from its start to its end

pub words_start : (s strings : Bytes) (p : ℕ) → words_rest Outside (events_at (block_of p s strings) 0) ≡ words_judged (nodes_in s strings p)
unfolding nodes_of
words_start s strings p = ap (words_rest Outside) (events_all (block_of p s strings)) ∙ words_nodes Outside [] 0 (events_in (block_of p s strings))

module _ (b : Block) (seen : Seen) (at : ℕ) (i : at ≤ length b.structure) (r : Token) (e : r ≡ token_at b.structure at) where
  -- no item follows
  pub words_stop : ((kind : Kind) (next : ℕ) → r ≡ Item kind next → ⊥) → words_rest seen (events_at b at) ≡ passes
  words_stop h = ap (words_rest seen) (events_stop b at i r e h) ∙ words_none seen

  module _ (kind : Kind) (next : ℕ) (f : r ≡ Item kind next) (t : Answer Seen) (g : t ≡ on_kind b.structure b.strings seen kind) where
    words_step : words_rest seen (events_at b at) ≡ turned (b.place + at) (λ (q : Seen). words_rest q (events_at b next)) t
    words_step =
        ap (words_rest seen) (events_item b at i r e kind next f)
        ∙ word_turn b seen at kind next (events_at b next)
        ∙ ap (turned (b.place + at) (λ (q : Seen). words_rest q (events_at b next))) (sym g)

    pub words_fault : t ≡ None → words_rest seen (events_at b at) ≡ refuses 11 (b.place + at)
    words_fault h = words_step ∙ ap (turned (b.place + at) (λ (q : Seen). words_rest q (events_at b next))) h

    pub words_go : (after : Seen) → t ≡ Some after → words_rest after (events_at b next) ≡ words_rest seen (events_at b at)
    words_go after h = sym (words_step ∙ ap (turned (b.place + at) (λ (q : Seen). words_rest q (events_at b next))) h)
