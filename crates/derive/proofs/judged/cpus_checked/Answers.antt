-- `cpus_checked` meets its contract.
use Rattle.std.proofs.lemmas.Result.{err_from_is_err_and}
use mathlib.Core.Path.{sym}
use lib.ListN.{length}
use borrow.Author.Tests.{eqb-true, eqb-false}
use Rattle.rules.specs.Laws.Lent.{tree_lent}
use Rattle.derive.proofs.Checks.{no_ids, bad_cpu, then_ids}
use Rattle.derive.proofs.judged.cpus_checked.Goals as goal

pub returns-then-is_empty : goal.returns-then-is_empty
returns-then-is_empty c = no_ids (tree_lent c.args.tree.now) c.args.ids.now (eqb-true (length c.args.ids.now) 0 (sym c.if-is_empty.ensures))

pub returns-in_err-cpus_judged : goal.returns-in_err-cpus_judged
returns-in_err-cpus_judged c =
    let a = c.args in
    let e = err_from_is_err_and c.from_residual.result c.from_residual.ensures.1 in
    rw (e.1, e.2) (bad_cpu (tree_lent a.tree.now) a.ids.now (eqb-false (length a.ids.now) 0 (sym c.if-is_empty.ensures)) c.in_err-cpus_judged.field-0.0.at c.in_err-cpus_judged.ensures)

pub returns-in_err-ids_judged : goal.returns-in_err-ids_judged
returns-in_err-ids_judged c =
    let a = c.args in
    let e = err_from_is_err_and c.from_residual-in_err-ids_judged.result c.from_residual-in_err-ids_judged.ensures.1 in
    rw (e.1, e.2) (then_ids (tree_lent a.tree.now) a.ids.now (eqb-false (length a.ids.now) 0 (sym c.if-is_empty.ensures)) _ c.in_ok-cpus_judged.ensures c.in_err-ids_judged.ensures)

pub returns : goal.returns
returns c = then_ids (tree_lent c.args.tree.now) c.args.ids.now (eqb-false (length c.args.ids.now) 0 (sym c.if-is_empty.ensures)) _ c.in_ok-cpus_judged.ensures c.in_ok-ids_judged.ensures
