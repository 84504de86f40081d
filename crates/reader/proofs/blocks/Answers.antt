-- `blocks` meets its contract: the parts lie inside, the walk judges the shape, and then the pairs are judged.
use mathlib.Core.Path.{subst}
use native.Mathlib.Omega.{arith}
use Rattle.rules.specs.Blob.{Block}
use Rattle.reader.specs.Whole.{Judged}
use Rattle.std.specs.Prelude.{Err}
use Rattle.std.proofs.lemmas.Result.{err_from_is_err_and}
use Rattle.reader.proofs.Joined.{structure_end, strings_end, block_is, part_short, tabled, paired, shape_refused}
use Rattle.reader.proofs.blocks.Goals as goal

pub overflow_add-block : goal.overflow_add-block
overflow_add-block c = omega (arith, structure_end c.requires.found)

pub slice_bounds-block-end : goal.slice_bounds-block-end
slice_bounds-block-end c = omega (arith, structure_end c.requires.found)

pub overflow_add-block-2 : goal.overflow_add-block-2
overflow_add-block-2 c = omega (arith, strings_end c.requires.found)

pub slice_bounds-block-end-2 : goal.slice_bounds-block-end-2
slice_bounds-block-end-2 c = omega (arith, strings_end c.requires.found)

pub judge-requires-clause-structure_bound : goal.judge-requires-clause-structure_bound
judge-requires-clause-structure_bound c = part_short c.requires.found

pub returns-in_err-count : goal.returns-in_err-count
returns-in_err-count c =
    let p = err_from_is_err_and c.from_residual.result c.from_residual.ensures.1 in
    rw p.1
    (subst (λ (b : Block). Judged b c.args.work.now c.judge.new.work (Err p.0)) (block_is c.requires.found)
    (shape_refused p.0 p.2 c.in_err-count.was c.judge.ensures))

pub judge-requires-2-clause-structure_bound : goal.judge-requires-2-clause-structure_bound
judge-requires-2-clause-structure_bound c = part_short c.requires.found

pub judge-requires-2-clause-tabled : goal.judge-requires-2-clause-tabled
judge-requires-2-clause-tabled c = tabled c.judge.ensures c.in_ok-count.was c.requires.work_words_in_bounds

pub returns : goal.returns
returns c =
    subst (λ (b : Block). Judged b c.args.work.now c.judge-2.new.work c.judge-2.result) (block_is c.requires.found)
    (paired c.judge.ensures c.in_ok-count.was c.requires.work_words_in_bounds c.judge-2.ensures)
