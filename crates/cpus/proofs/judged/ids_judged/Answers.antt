use mathlib.Core.Path.{sym, ◌∙◌}
use native.Mathlib.Omega.{arith}
use Rattle.rules.specs.Laws.Lent.{tree_lent}
use Rattle.cpus.proofs.Searches.{ids_unmet, ids_met, ids_end}
use Rattle.cpus.proofs.judged.ids_judged.Goals as goal

pub returns-then-not-met : goal.returns-then-not-met
returns-then-not-met c = ids_unmet (tree_lent c.args.tree.now) c.args.ids.now c.loop-at.at c.loop-at-test.true (sym c.met.ensures ∙ c.if-not-met.true) ∙ sym c.loop-at.invariant

pub loop-at-preserved : goal.loop-at-preserved
loop-at-preserved c = c.loop-at.invariant ∙ ids_met (tree_lent c.args.tree.now) c.args.ids.now c.loop-at.at c.loop-at-test.true (sym c.met.ensures ∙ c.if-not-met.false)

pub returns : goal.returns
returns c = ids_end (tree_lent c.args.tree.now) c.args.ids.now c.loop-at.at (omega (arith, c.loop-at-test.false)) ∙ sym c.loop-at.invariant
