-- `list` meets its contract: the node is known, or it is entered.
use mathlib.Core.List.{[]}
use mathlib.Core.Path.{sym, ap, ◌∙◌}
use Prim.Native.Nat.{ℕ, ◌+◌}
use native.Mathlib.Omega.{arith}
use lib.ListN.{get_or}
use Rattle.rules.proofs.Laws.Kept.{node_word}
use Rattle.rules.proofs.Laws.Constants.{marks_at_lem}
use Rattle.listing.proofs.Notes.{known, unknown, gains_new, gains_known}
use Rattle.listing.proofs.given.list.Goals as goal

pub overflow_add-x : goal.overflow_add-x
overflow_add-x c = omega (arith, node_word)

pub returns-then-word_of-ne0 : goal.returns-then-word_of-ne0
returns-then-word_of-ne0 c =
    let a = c.args in
    λ count h m. gains_known a.work.now count a.n m a.x []
    (known a.work.now count a.n m a.x h (λ e. c.if-word_of-ne0.true (c.word_of.ensures ∙ ap (λ (k : ℕ). get_or a.work.now (k + a.x) 0) marks_at_lem ∙ e)))

pub overflow_add-result : goal.overflow_add-result
overflow_add-result c = omega (arith, node_word)

pub returns : goal.returns
returns c =
    let a = c.args in
    λ count h m. rw c.enter.ensures (gains_new a.work.now count a.n m a.x h
    (unknown a.work.now count a.n m a.x h (ap (λ (k : ℕ). get_or a.work.now (k + a.x) 0) (sym marks_at_lem) ∙ sym c.word_of.ensures ∙ c.if-word_of-ne0.false)) [])
