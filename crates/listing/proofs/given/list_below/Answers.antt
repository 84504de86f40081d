use mathlib.Core.Path.{ap, ◌∙◌}
use Prim.Native.Nat.{ℕ, ◌+◌}
use native.Mathlib.Omega.{arith}
use lib.ListN.{get_or}
use Rattle.rules.specs.Laws.Lent.{block_lent}
use Rattle.rules.proofs.Laws.Kept.{node_word}
use Rattle.rules.proofs.Laws.Constants.{stack_at_lem}
use Rattle.listing.proofs.Gained.{start_below, below_turn, below_all}
use Rattle.listing.proofs.given.list_below.Goals as goal

pub overflow_add-k : goal.overflow_add-k
overflow_add-k c = omega (arith, node_word)

pub list_if_below-n-requires : goal.list_if_below-n-requires
list_if_below-n-requires c =
    let a = c.args in
    let p = c.requires in
    record {
      x_lt_count = start_below a.count a.work.now a.listed a.starts a.p p.starts_le_node_ceiling p.by_index c.loop-k.work c.loop-k.n c.loop-k.k p.marked.room (c.loop-k.invariant.stack a.starts) c.loop-k-test.true
          c.word_of-x.result (c.word_of-x.ensures ∙ ap (λ (j : ℕ). get_or c.loop-k.work (j + c.loop-k.k) 0) stack_at_lem);
      marked = c.loop-k.invariant.marked;
    }

pub loop-k-preserved : goal.loop-k-preserved
loop-k-preserved c =
    let a = c.args in
    let p = c.requires in
    below_turn a.count a.work.now a.listed a.starts a.p p.starts_le_node_ceiling p.by_index c.loop-k.work c.loop-k.n c.loop-k.k (block_lent a.block.now) c.loop-k.invariant p.marked.room c.loop-k-test.true
    c.word_of-x.result (c.word_of-x.ensures ∙ ap (λ (j : ℕ). get_or c.loop-k.work (j + c.loop-k.k) 0) stack_at_lem) c.list_if_below-n.new.work c.list_if_below-n.result c.list_if_below-n.ensures

pub returns : goal.returns
returns c =
    let a = c.args in
    let p = c.requires in
    below_all a.count a.work.now a.listed a.starts a.p p.starts_le_node_ceiling p.by_index c.loop-k.work c.loop-k.n c.loop-k.k (block_lent a.block.now) c.loop-k.invariant p.marked.room c.loop-k-test.false
