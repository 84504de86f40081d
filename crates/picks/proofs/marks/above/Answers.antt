use mathlib.Core.Logic.{inr}
use mathlib.Core.Path.{◌≡◌, ◌∙◌}
use Prim.Native.Nat.{◌-◌}
use Rattle.rules.specs.Blob.{Block}
use Rattle.rules.specs.Tree.{node}
use Rattle.rules.specs.Laws.Lent.{block_lent}
use Rattle.rules.specs.Laws.Tabled.{tree_in}
use native.Mathlib.Omega.{arith}
use Rattle.rules.proofs.Laws.Kept.{node_word, put_in_part}
use Rattle.rules.proofs.Laws.Constants.{names_at_lem}
use Rattle.picks.proofs.Marking.{climbing_done, climbing_more, up_small, parent_any, parent_less}
use Rattle.picks.proofs.marks.above.Goals as goal
use Rattle.picks.proofs.marks.above.Goals.{After-up-at}

-- the parent, whatever the block
parent : (c : After-up-at) (b : Block) → c.up-at.result ≡ (node (tree_in b c.loop-at.work c.args.count) c.loop-at.at).parent
parent c b = c.up-at.ensures ∙ parent_any (block_lent c.args.block.now) b c.loop-at.work c.args.count c.loop-at.at c.loop-at.invariant.2.inside

pub overflow_add-at : goal.overflow_add-at
overflow_add-at c =
    let a = c.args in
    let i = c.loop-at.invariant in
    omega (arith, node_word, up_small a.count a.work.now c.requires.keeps c.loop-at.work a.j i.0 c.loop-at.at i.2 c.loop-at-test.true c.up-at.result (parent (goal.at.overflow_add-at c).After-up-at))

pub loop-at-smaller : goal.loop-at-smaller
loop-at-smaller c =
    let a = c.args in
    let k = c.requires.keeps in
    let i = c.loop-at.invariant in
    omega (arith, parent (goal.at.loop-at-smaller c).After-up-at k.0, parent_less a.count a.work.now k k.0 c.loop-at.work i.2.only c.loop-at.at c.loop-at-test.true i.2.inside)

pub loop-at-preserved : goal.loop-at-preserved
loop-at-preserved c =
    let a = c.args in
    let k = c.requires.keeps in
    let i = c.loop-at.invariant in
    let less = parent_less a.count a.work.now k k.0 c.loop-at.work i.2.only c.loop-at.at c.loop-at-test.true i.2.inside in (
      i.0 - 1,
      omega (arith, parent (goal.at.loop-at-preserved c).After-up-at k.0, less, i.1),
      climbing_more a.count a.work.now k c.loop-at.work a.j i.0 c.loop-at.at i.2 (omega (arith, i.1)) c.loop-at-test.true c.up-at.result (parent (goal.at.loop-at-preserved c).After-up-at) _
          (put_in_part names_at_lem c.loop-at.work _ c.up-at.result 1 c.put_word_of.ensures),
    )

pub returns : goal.returns
returns c =
    let a = c.args in
    let i = c.loop-at.invariant in
    record {
      only = i.2.only;
      over = climbing_done a.count a.work.now c.requires.keeps c.loop-at.work a.j i.0 c.loop-at.at i.2 (inr (omega arith));
    }
