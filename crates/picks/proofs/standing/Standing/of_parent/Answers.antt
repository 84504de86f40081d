-- `of_parent` meets its contract.
use mathlib.Core.Path.{ap, ◌∙◌}
use native.Mathlib.Omega.{arith}
use Rattle.rules.specs.Laws.Lent.{block_lent}
use Rattle.rules.proofs.Laws.Kept.{node_word, word_in_part}
use Rattle.rules.proofs.Laws.Constants.{stack_at_lem}
use Rattle.picks.specs.Standings.{standing_in}
use Rattle.picks.proofs.Coding.{parent_some}
use Rattle.picks.proofs.standing.Standing.of_parent.Goals as goal

pub overflow_add-parent : goal.overflow_add-parent
overflow_add-parent c = omega (arith, node_word)

pub returns : goal.returns
returns c =
    let t = c.args.tree.now in
    let b = block_lent t.block in
    c.from.ensures
    ∙ ap standing_in (word_in_part stack_at_lem t.work.now c.up-parent.result c.word_of.result c.word_of.ensures)
    ∙ parent_some b t.work.now t.count c.args.i c.up-parent.result c.up-parent.ensures (omega (arith, c.if-i-parent.false))
