use mathlib.Core.Path.{refl, sym, ap, ◌∙◌}
use native.Mathlib.Omega.{arith}
use lib.ListN.{length, get_or}
use Rattle.rules.specs.Octets.{lay}
use Rattle.rules.proofs.Laws.Octets.{lay_nil}
use Rattle.rules.specs.Laws.Lent.{block_lent, tree_lent}
use Rattle.spelled.proofs.Spelt.{path_short, sum_more, sum_fits, length_more, laid_more, paths_none, listed_few}
use Rattle.spelled.proofs.list_out.Goals as goal

pub loop-i-init : goal.loop-i-init
loop-i-init c =
    let e = paths_none (tree_lent c.args.tree.now) c.listed-i-items.result.now in
    (omega arith, sym (ap length e), sym (ap (lay c.args.out.now 0) e ∙ lay_nil c.args.out.now 0))

pub overflow_add-at : goal.overflow_add-at
overflow_add-at c =
    let t = c.args.tree.now in
    let s = path_short (block_lent t.block) t.work.now t.count c.requires.structure_len_bound c.requires.count_le_node_ceiling (get_or c.listed-i-items.result.now c.loop-i.i-index 0) in
    record { fits = omega (arith, sum_fits c.loop-i.i-index c.loop-i.at c.path_len.result (omega (arith, listed_few (tree_lent t) t.work.now c.args.n c.listed-i-items.result.now c.listed-i-items.ensures)) c.loop-i.invariant.0 (omega (arith, c.path_len.ensures))) }

pub overflow_add-at-in-loop-i : goal.overflow_add-at-in-loop-i
overflow_add-at-in-loop-i c =
    let t = c.args.tree.now in
    let s = path_short (block_lent t.block) t.work.now t.count c.requires.structure_len_bound c.requires.count_le_node_ceiling (get_or c.listed-i-items.result.now c.loop-i.i-index 0) in
    record { fits = omega (arith, sum_fits c.loop-i.i-index c.loop-i.at c.path_len.result (omega (arith, listed_few (tree_lent t) t.work.now c.args.n c.listed-i-items.result.now c.listed-i-items.ensures)) c.loop-i.invariant.0 (omega (arith, c.path_len.ensures))) }

pub loop-i-preserved : goal.loop-i-preserved
loop-i-preserved c =
    let t = c.args.tree.now in
    let xs = c.listed-i-items.result.now in
    let k = c.loop-i.i-index in
    let i = get_or xs k 0 in
    let s = path_short (block_lent t.block) t.work.now t.count c.requires.structure_len_bound c.requires.count_le_node_ceiling i in (
      sum_more k c.loop-i.at c.path_len.result (omega (arith, listed_few (tree_lent t) t.work.now c.args.n c.listed-i-items.result.now c.listed-i-items.ensures)) c.loop-i.invariant.0 (omega (arith, c.path_len.ensures)),
      length_more (tree_lent t) xs k c.loop-i-test.true i refl c.loop-i.at c.path_len.result c.loop-i.invariant.1 c.path_len.ensures,
      laid_more (tree_lent t) xs k c.loop-i-test.true i refl c.args.out.now c.loop-i.out c.spell.new.out c.loop-i.at c.loop-i.invariant.1 c.loop-i.invariant.2 c.spell.ensures,
    )
