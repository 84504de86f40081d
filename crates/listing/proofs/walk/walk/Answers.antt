use mathlib.Core.Path.{◌≡◌, ap, ◌∙◌}
use Prim.Native.Nat.{ℕ, ◌+◌, ◌-◌}
use native.Mathlib.Omega.{arith}
use lib.ListN.{get_or}
use Rattle.rules.specs.Space.{stack_at}
use Rattle.rules.specs.Laws.Lent.{block_lent}
use Rattle.rules.proofs.Laws.Kept.{node_word, only_kept}
use Rattle.rules.proofs.Laws.Constants.{stack_at_lem}
use Rattle.listing.proofs.Walks.{top_small, popped, walk_turn, walk_apart, walked}
use Rattle.listing.proofs.walk.walk.Goals as goal
use Rattle.listing.proofs.walk.walk.Goals.{After-word_of-x}

-- the node that is taken
taken : (c : After-word_of-x) → c.word_of-x.result ≡ get_or c.loop-ends.work (stack_at + (c.loop-ends.ends.stack - 1)) 0
taken c = c.word_of-x.ensures ∙ ap (λ (k : ℕ). get_or c.loop-ends.work (k + (c.loop-ends.ends.stack - 1)) 0) stack_at_lem

pub overflow_add-ends : goal.overflow_add-ends
overflow_add-ends c =
    let p = c.loop-ends.invariant.1 in
    omega (arith, node_word, p.least, p.marked.short, p.marked.few)

pub visit-requires : goal.visit-requires
visit-requires c =
    let a = c.args in
    let e = c.loop-ends.ends in
    let p = c.loop-ends.invariant.1 in
    record {
      kept = only_kept (block_lent a.block.now) a.count (omega arith) c.loop-ends.invariant.0 c.requires.kept;
      piled = popped c.loop-ends.work a.count e.list e.stack p c.loop-ends-test.true;
      x_lt_count = omega (arith, taken (goal.at.visit-requires c).After-word_of-x, top_small c.loop-ends.work a.count e.list e.stack p c.loop-ends-test.true);
    }

pub loop-ends-preserved : goal.loop-ends-preserved
loop-ends-preserved c =
    let a = c.args in
    let e = c.loop-ends.ends in
    let d = c.visit.new.ends in
    let t = taken (goal.at.loop-ends-preserved c).After-word_of-x in (
      walk_apart c.loop-ends.work a.count e.list e.stack c.loop-ends.invariant.1 c.loop-ends-test.true (block_lent a.block.now) a.work.now c.loop-ends.invariant.0
          c.word_of-x.result t c.visit.new.work d.list d.stack c.visit.ensures,
      c.visit.ensures.piled,
      walk_turn c.loop-ends.work a.count e.list e.stack c.loop-ends.invariant.1 c.loop-ends-test.true (block_lent a.block.now) a.work.now c.loop-ends.invariant.0
          c.word_of-x.result t c.visit.new.work d.list d.stack c.visit.ensures ∙ c.loop-ends.invariant.2,
    )

pub returns : goal.returns
returns c =
    let a = c.args in
    let e = c.loop-ends.ends in
    walked (block_lent a.block.now) a.work.now a.count a.ends.list a.ends.stack c.loop-ends.work e.list e.stack c.loop-ends.invariant.0 c.loop-ends.invariant.1 c.loop-ends-test.false c.loop-ends.invariant.2
