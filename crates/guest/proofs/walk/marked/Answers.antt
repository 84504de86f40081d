-- `marked` meets its contract: past the ceiling no node is marked.
use mathlib.Core.Path.{◌∙◌}
use native.Mathlib.Omega.{arith}
use borrow.Author.Tests.{le-ltb}
use Rattle.rules.proofs.Laws.Kept.{word_in_part}
use Rattle.rules.proofs.Laws.Constants.{node_ceiling_lem, marks_at_lem}
use Rattle.guest.proofs.Marks.{mark_here, mark_past}
use Rattle.guest.proofs.walk.marked.Goals as goal

pub returns-then-i-lt-NODE_CEILING : goal.returns-then-i-lt-NODE_CEILING
returns-then-i-lt-NODE_CEILING c = mark_here c.args.work.now c.args.i c.word_of.result (omega (arith, node_ceiling_lem)) (word_in_part marks_at_lem c.args.work.now c.args.i _ c.word_of.ensures)

pub returns-else-i-lt-NODE_CEILING : goal.returns-else-i-lt-NODE_CEILING
returns-else-i-lt-NODE_CEILING c = le-ltb c.args.i _ (omega arith) ∙ mark_past c.args.work.now c.args.i (omega (arith, node_ceiling_lem))
