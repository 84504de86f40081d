-- `of` meets its contract: the tests find the case, and outside `/cpus` the parent's standing and the node's own.
use mathlib.Core.Path.{sym, ap, ◌∙◌}
use Prim.Native.Nat.{ℕ}
use native.Mathlib.Omega.{arith}
use lib.Dec.{eqb}
use lib.Seq.{take-length}
use Rattle.rules.specs.Lists.{one_of}
use Rattle.rules.specs.Tree.{frame}
use Rattle.rules.specs.Copy.{null, is_cpus, stranger}
use Rattle.rules.specs.Space.{marks_at}
use Rattle.rules.specs.Laws.Lent.{tree_lent}
use Rattle.rules.proofs.Laws.Kept.{node_word, word_in_part}
use Rattle.rules.proofs.Laws.Constants.{marks_at_lem}
use Rattle.picks.specs.Marks.{marked}
use Rattle.picks.specs.Standings.{next}
use Rattle.picks.proofs.Coding.{of_outside}
use Rattle.picks.proofs.standing.Standing.of.Goals as goal

pub overflow_add-i : goal.overflow_add-i
overflow_add-i c = omega (arith, node_word)

pub returns-in_default : goal.returns-in_default
returns-in_default c =
    let a = c.args in
    let t = a.tree.now in
    of_outside (null a.ids.now) (is_cpus (frame (tree_lent t)) a.i) (stranger (tree_lent t) a.ids.now a.i) (one_of a.i a.excl.now) (marked t.work.now marks_at a.i)
    (sym c.is_cpus.ensures ∙ c.if-is_cpus.false)
    c.one_of.result (c.one_of.ensures ∙ ap (one_of a.i) (take-length a.excl.now))
    _ (ap (λ (y : ℕ). eqb y 1) (word_in_part marks_at_lem t.work.now a.i c.word_of-listed.result c.word_of-listed.ensures))
    c.of_parent.result (c.in_default.not-Kept) (c.in_default.not-Dropped) c.outside.result c.outside.ensures
    ∙ ap (next (null a.ids.now) (is_cpus (frame (tree_lent t)) a.i) (stranger (tree_lent t) a.ids.now a.i) (one_of a.i a.excl.now) (marked t.work.now marks_at a.i)) c.of_parent.ensures
