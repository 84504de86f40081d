-- `list_if_below` meets its contract: the node is passed over, or listed.
use mathlib.Core.Path.{sym, ◌∙◌}
use Rattle.rules.specs.Tree.{below}
use Rattle.rules.specs.Laws.Lent.{tree_with}
use Rattle.listing.proofs.Gained.{gains_passed, gains_kept}
use Rattle.listing.proofs.given.list_if_below.Goals as goal

pub returns-then-not-below : goal.returns-then-not-below
returns-then-not-below c =
    let a = c.args in
    gains_passed a.count a.work.now a.n a.x (below (tree_with a.block.now a.work.now a.count) a.p)
    (sym c.below.ensures ∙ c.if-not-below.true) c.requires.marked

pub returns : goal.returns
returns c =
    let a = c.args in
    let p = c.requires in
    gains_kept a.count a.work.now a.n a.x (below (tree_with a.block.now a.work.now a.count) a.p)
    (sym c.below.ensures ∙ c.if-not-below.false) c.list.new.work c.list.result (c.list.ensures a.count p.x_lt_count p.marked)
