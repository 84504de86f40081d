-- The laws of the nodes that a list of configured paths names: one path, and a list that passes.
use Rattle.std.proofs.Math.Path.{◌≡◌, refl, sym, ap}
use Rattle.std.proofs.Common.{◌∙◌, arith}
use Rattle.std.specs.Prelude.{true, false, ℕ}
use mathlib.Core.List.{List, [], ◌∷◌}
use Rattle.std.proofs.Math.Option.{none, some}
use Rattle.rules.specs.Octets.{Bytes}
use Rattle.rules.specs.Outcome.{refuses, passes}
use Rattle.rules.specs.Tree.{Frame}
use Rattle.rules.specs.Derivation.{Given, given, node_at, repeats, configured_from, nodes_named}
use Rattle.rules.proofs.Laws.Tests.{by_test}
use Rattle.rules.proofs.Laws.References.{by_option}
use Rattle.rules.proofs.Laws.Formed.{named_step}
use Rattle.asked.specs.Nodes.{named_from, configured_nodes}

module _ (f : Frame) (seen : List Bytes) (g : Given) (gs : List Given) where
  pub from_none : node_at f g.path ≡ none → (configured_from f seen (g ∷ gs) ≡ refuses 42 g.offset) × (named_from f seen (g ∷ gs) ≡ [])
  unfolding configured_from named_from
  from_none e = (rw e, rw (e, named_from))

  pub from_again : (i : ℕ) → node_at f g.path ≡ some i → repeats g.path seen ≡ true
      → (configured_from f seen (g ∷ gs) ≡ refuses 42 g.offset) × (named_from f seen (g ∷ gs) ≡ [])
  unfolding configured_from named_from
  from_again i e r = (rw (e, r), rw (e, named_from, r))

  pub from_new : (i : ℕ) → node_at f g.path ≡ some i → repeats g.path seen ≡ false
      → (configured_from f seen (g ∷ gs) ≡ configured_from f (g.path ∷ seen) gs) × (named_from f seen (g ∷ gs) ≡ i ∷ named_from f (g.path ∷ seen) gs)
  unfolding configured_from named_from
  from_new i e r = (rw (e, r), rw (e, named_from, r))

-- a list that passes is taken whole
module _ (f : Frame) where
  pub from_whole : (seen : List Bytes) (gs : List Given) → configured_from f seen gs ≡ passes → named_from f seen gs ≡ nodes_named f gs
  unfolding named_from nodes_named
  from_whole seen [] h = refl
  from_whole seen (g ∷ gs) h = by_option (node_at f g.path)
      (λ e. absurd (let z : ◌≡◌ {A = ℕ} 0 1 = cc ((from_none f seen g gs e).0, h) in omega (arith, z)))
      (λ i e. by_test (repeats g.path seen)
      (λ r. absurd (let z : ◌≡◌ {A = ℕ} 0 1 = cc ((from_again f seen g gs i e r).0, h) in omega (arith, z)))
      (λ r. let n = from_new f seen g gs i e r in
      n.1 ∙ ap (λ (is : List ℕ). i ∷ is) (from_whole (g.path ∷ seen) gs (sym n.0 ∙ h)) ∙ sym (named_step f g gs i e)))

pub configured_whole : (f : Frame) (list : Bytes) → configured_from f [] (given list) ≡ passes → configured_nodes f list ≡ nodes_named f (given list)
unfolding configured_nodes
configured_whole f list h = from_whole f [] (given list) h
