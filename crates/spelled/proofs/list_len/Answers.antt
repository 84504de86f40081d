use mathlib.Core.Path.{refl, sym, ap}
use native.Mathlib.Omega.{arith}
use lib.ListN.{length, get_or}
use Rattle.rules.specs.Laws.Lent.{block_lent, tree_lent}
use Rattle.spelled.proofs.Spelt.{path_short, sum_more, sum_fits, length_more, paths_none, listed_few}
use Rattle.spelled.proofs.list_len.Goals as goal

pub loop-i-init : goal.loop-i-init
loop-i-init c = (omega arith, sym (ap length (paths_none (tree_lent c.args.tree.now) c.listed-i-items.result.now)))

pub overflow_add-len : goal.overflow_add-len
overflow_add-len c =
    let t = c.args.tree.now in
    let s = path_short (block_lent t.block) t.work.now t.count c.requires.structure_len_bound c.requires.count_le_node_ceiling (get_or c.listed-i-items.result.now c.loop-i.i-index 0) in
    record { fits = omega (arith, sum_fits c.loop-i.i-index c.loop-i.len c.path_len.result (omega (arith, listed_few (tree_lent t) t.work.now c.args.n c.listed-i-items.result.now c.listed-i-items.ensures)) c.loop-i.invariant.0 (omega (arith, c.path_len.ensures))) }

pub overflow_add-len-in-loop-i : goal.overflow_add-len-in-loop-i
overflow_add-len-in-loop-i c =
    let t = c.args.tree.now in
    let s = path_short (block_lent t.block) t.work.now t.count c.requires.structure_len_bound c.requires.count_le_node_ceiling (get_or c.listed-i-items.result.now c.loop-i.i-index 0) in
    record { fits = omega (arith, sum_fits c.loop-i.i-index c.loop-i.len c.path_len.result (omega (arith, listed_few (tree_lent t) t.work.now c.args.n c.listed-i-items.result.now c.listed-i-items.ensures)) c.loop-i.invariant.0 (omega (arith, c.path_len.ensures))) }

pub loop-i-preserved : goal.loop-i-preserved
loop-i-preserved c =
    let t = c.args.tree.now in
    let xs = c.listed-i-items.result.now in
    let k = c.loop-i.i-index in
    let i = get_or xs k 0 in
    let s = path_short (block_lent t.block) t.work.now t.count c.requires.structure_len_bound c.requires.count_le_node_ceiling i in (
      sum_more k c.loop-i.len c.path_len.result (omega (arith, listed_few (tree_lent t) t.work.now c.args.n c.listed-i-items.result.now c.listed-i-items.ensures)) c.loop-i.invariant.0 (omega (arith, c.path_len.ensures)),
      length_more (tree_lent t) xs k c.loop-i-test.true i refl c.loop-i.len c.path_len.result c.loop-i.invariant.1 c.path_len.ensures,
    )
