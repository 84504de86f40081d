-- `note` meets its contract: the node is known, or it is entered and put on the stack.
use mathlib.Core.Path.{◌≡◌, sym, ap, ◌∙◌}
use mathlib.Core.List.{List, [], ◌∷◌}
use Prim.Native.Nat.{ℕ, ◌+◌}
use native.Mathlib.Omega.{arith}
use lib.ListN.{get_or}
use Rattle.rules.specs.Space.{stack_at}
use Rattle.rules.specs.Octets.{lay}
use Rattle.rules.proofs.Laws.Kept.{node_word}
use Rattle.rules.proofs.Laws.Constants.{marks_at_lem, stack_at_lem}
use Rattle.listing.specs.State.{entered}
use Rattle.listing.proofs.Notes.{known, unknown, stacks_known, stacks-new}
use Rattle.listing.proofs.note.Ends.note.Goals as goal

pub overflow_add-x : goal.overflow_add-x
overflow_add-x c = omega (arith, node_word)

pub returns-then-word_of-ne0 : goal.returns-then-word_of-ne0
returns-then-word_of-ne0 c =
    let a = c.args in
    let e = a.self.now in
    λ count h p. stacks_known a.work.now count e.list e.stack a.x [] p
    (known a.work.now count e.list p.marked a.x h (λ z. c.if-word_of-ne0.true (c.word_of.ensures ∙ ap (λ (k : ℕ). get_or a.work.now (k + a.x) 0) marks_at_lem ∙ z)))

pub overflow_cast-x : goal.overflow_cast-x
overflow_cast-x c = omega (arith, node_word)

pub overflow_add-self : goal.overflow_add-self
overflow_add-self c = omega (arith, node_word)

pub overflow_add-self-2 : goal.overflow_add-self-2
overflow_add-self-2 c = omega (arith, node_word)

pub overflow_add-self-3 : goal.overflow_add-self-3
overflow_add-self-3 c = omega (arith, node_word)

pub returns : goal.returns
returns c =
    let a = c.args in
    let e = a.self.now in
    λ count h p.
    let q : c.put_word_of.new.d ≡ lay (entered a.work.now e.list a.x) (stack_at + e.stack) (a.x ∷ []) =
    c.put_word_of.ensures ∙ ap (λ (k : ℕ). lay c.enter.new.work (k + e.stack) (a.x ∷ [])) stack_at_lem
    ∙ ap (λ (ws : List ℕ). lay ws (stack_at + e.stack) (a.x ∷ [])) c.enter.ensures in
    rw q (stacks-new a.work.now count e.list p.marked a.x h
    (unknown a.work.now count e.list p.marked a.x h (ap (λ (k : ℕ). get_or a.work.now (k + a.x) 0) (sym marks_at_lem) ∙ sym c.word_of.ensures ∙ c.if-word_of-ne0.false)) e.stack p.least p.nodes [])
