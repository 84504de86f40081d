-- The paths of a tree that was read have no NUL.
use mathlib.Core.Path.{◌≡◌, sym}
use mathlib.Core.Logic.{inl, inr}
use mathlib.Core.List.Memᴰ
use mathlib.Core.List.{List, [], ◌∷◌, map}
use Prim.Native.Nat.{ℕ, zero, suc}
use native.Mathlib.Omega.{arith}
use Rattle.rules.specs.Octets.{Bytes}
use Rattle.rules.specs.Outcome.{Verdict, passes, ◌then◌}
use Rattle.rules.specs.Blob.{header_judged, block_in}
use Rattle.rules.specs.Events.{shape_judged, Event, opens, has, closes}
use Rattle.rules.specs.Tree.{Tree, node, rest, nodes_from, nodes_of, spell, path, frame, doubled_judged, words_judged, shared_judged}
use Rattle.rules.specs.Reader.{events_read, tree_read, blob_judged}
use Rattle.rules.specs.References.{Rules}
use Rattle.rules.specs.Listing.{◌∈◌, listed}
use Rattle.rules.specs.Derivation.{Request, asked, listed_paths}
use Rattle.rules.proofs.Laws.Verdicts.{then_passes}
use Rattle.rules.proofs.Laws.Nested.{events_pass, events_nested}
use Rattle.rules.proofs.Laws.ReadBack.{Clean, nested_clean}
use Rattle.printed.specs.Text.{Plain, AllPlain, none, more}

-- ---- names

-- no node's name has a NUL
abbrev NoNul : Tree → Type 0
NoNul t = (i : ℕ) → 0 ∈ (node t i).name → ⊥

clean_nodes : (stack : List ℕ) (next : ℕ) (es : List Event) → Clean es → NoNul (nodes_from stack next es)
unfolding nodes_from
clean_nodes stack next [] h i m = Memᴰ.not-nil m
clean_nodes stack next (opens place name ∷ es) h zero m = h.0 m
clean_nodes stack next (opens place name ∷ es) h (suc i) m = clean_nodes (next ∷ stack) (suc next) es h.1 i m
clean_nodes stack next (has p ∷ es) h i m = clean_nodes stack next es h.1 i m
clean_nodes stack next (closes place ∷ es) h i m = clean_nodes (rest stack) next es h i m

-- ---- paths

spell_plain : (t : Tree) → NoNul t → (k m : ℕ) → 0 ∈ spell t k m → ⊥
unfolding spell
spell_plain t h zero m e = Memᴰ.not-nil e
spell_plain t h (suc k) zero e = Memᴰ.not-nil e
spell_plain t h (suc k) (suc m) e = elim (Memᴰ.append_cases (spell t k (node t (suc m)).parent) e) [
  | inl f ↦ spell_plain t h k (node t (suc m)).parent f
  | inr f ↦ elim (Memᴰ.cases_cons f) [ inl g ↦ (let z : ◌≡◌ {A = ℕ} 0 47 = g in absurd (omega arith)) | inr g ↦ h (suc m) g ]
]

path_plain : (t : Tree) → NoNul t → (i : ℕ) → 0 ∈ path t i → ⊥
path_plain t h zero e = elim (Memᴰ.cases_cons e) [ inl g ↦ (let z : ◌≡◌ {A = ℕ} 0 47 = g in absurd (omega arith)) | inr g ↦ Memᴰ.not-nil g ]
path_plain t h (suc i) e = spell_plain t h (suc i) (suc i) e

no_nul : (s : Bytes) → (0 ∈ s → ⊥) → Plain s
no_nul [] h i k e = omega arith
no_nul (b ∷ s) h zero k e = h (Memᴰ.head (sym e))
no_nul (b ∷ s) h (suc i) k e = no_nul s (λ m. h (Memᴰ.tail m)) i (omega arith) e

all_plain : (t : Tree) → NoNul t → (is : List ℕ) → AllPlain (map (path t) is)
all_plain t h [] = none
all_plain t h (i ∷ is) = more (no_nul (path t i) (path_plain t h i)) (all_plain t h is)

-- ---- of a blob that passes

shape_passes : (host : Bytes) → blob_judged host ≡ passes → shape_judged (block_in host) ≡ passes
unfolding blob_judged
shape_passes host h =
    let t : Tree = tree_read host in
    let later : Verdict = doubled_judged t then words_judged t then shared_judged t in
    (then_passes (shape_judged (block_in host)) later tt (then_passes (header_judged host) (shape_judged (block_in host) then later) tt h).1).0

read_plain : (host : Bytes) → blob_judged host ≡ passes → NoNul (tree_read host)
unfolding tree_read nodes_of events_read
read_plain host h =
    clean_nodes [] 0 (events_read host) (nested_clean (events_nested (events_read host) (events_pass (block_in host) (shape_passes host h))))

pub listed_plain : (r : Rules) (host : Bytes) (q : Request) → blob_judged host ≡ passes → AllPlain (listed_paths r (tree_read host) q)
unfolding listed_paths
listed_plain r host q h =
    let t : Tree = tree_read host in
    all_plain t (read_plain host h) (listed r t (asked (frame t) q).conf (asked (frame t) q).excl)
