-- `enter` meets its contract.
use mathlib.Core.Path.{ap, ap₂, ◌∙◌}
use mathlib.Core.List.{List, [], ◌∷◌}
use Prim.Native.Nat.{ℕ, ◌+◌}
use native.Mathlib.Omega.{arith}
use Rattle.rules.specs.Octets.{lay}
use Rattle.rules.proofs.Laws.Kept.{node_word}
use Rattle.rules.proofs.Laws.Constants.{marks_at_lem, list_at_lem}
use Rattle.listing.specs.State.{entered}
use Rattle.listing.proofs.note.enter.Goals as goal

pub overflow_add-x : goal.overflow_add-x
overflow_add-x c = omega (arith, node_word)

pub overflow_add-n : goal.overflow_add-n
overflow_add-n c = omega (arith, node_word)

pub overflow_cast-x : goal.overflow_cast-x
overflow_cast-x c = omega (arith, node_word)

pub returns : goal.returns
unfolding entered
returns c =
    let a = c.args in
    c.put_word_of-2.ensures
    ∙ ap₂ (λ (ws : List ℕ) (k : ℕ). lay ws (k + a.n) (a.x ∷ []))
    (c.put_word_of.ensures ∙ ap (λ (k : ℕ). lay a.work.now (k + a.x) (1 ∷ [])) marks_at_lem) list_at_lem
