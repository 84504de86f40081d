-- `judged` meets its contract: the lists, and then the configured paths.
use Rattle.std.proofs.lemmas.Result.{err_from_is_err_and}
use mathlib.Core.Path.{refl, sym, ap, ◌∙◌}
use native.Mathlib.Omega.{arith}
use Rattle.rules.specs.Device.{wanted}
use Rattle.rules.specs.Laws.Lent.{tree_lent}
use Rattle.rules.proofs.Laws.Given.{lists_few}
use Rattle.given.specs.Answers.{meaning as gmeaning}
use Rattle.asked.specs.Answers.{meaning as ameaning}
use Rattle.asked.proofs.Judged.{checks_lists, checks-named, checks-whole}
use Rattle.device.proofs.Checks.{wanted_so}
use Rattle.device.proofs.judged.judged.Goals as goal

pub returns-in_err-lists_judged : goal.returns-in_err-lists_judged
returns-in_err-lists_judged c =
    let a = c.args in
    let e = err_from_is_err_and c.from_residual.result c.from_residual.ensures.1 in
    rw (e.1, e.2) (checks_lists (wanted_so (tree_lent a.tree.now) a.configured.now a.excluded.now) a.conf.now _ c.in_err-lists_judged.field-0.0.at refl
    (sym (ap gmeaning c.in_err-lists_judged.was) ∙ c.lists_judged.ensures))

pub configured-requires : goal.configured-requires
configured-requires c = record {
  count_le_node_ceiling = c.requires.count_le_node_ceiling;
  list_in_bounds = omega (arith, lists_few (wanted c.args.configured.now c.args.excluded.now) (sym (sym (ap gmeaning c.in_ok-lists_judged.was) ∙ c.lists_judged.ensures)), c.requires.entry_ceiling_in_bounds);
}

pub returns-in_err-n : goal.returns-in_err-n
returns-in_err-n c =
    let a = c.args in
    let e = err_from_is_err_and c.from_residual-in_err-n.result c.from_residual-in_err-n.ensures.1 in
    rw (e.1, e.2) (checks-named (wanted_so (tree_lent a.tree.now) a.configured.now a.excluded.now) a.conf.now _
    (sym (ap gmeaning c.in_ok-lists_judged.was) ∙ c.lists_judged.ensures) _ c.configured.ensures.out_after c.in_err-n.field-0.0.at refl
    (sym (ap ameaning c.in_err-n.was) ∙ c.configured.ensures.result_value))

pub returns : goal.returns
returns c =
    let a = c.args in
    checks-whole (wanted_so (tree_lent a.tree.now) a.configured.now a.excluded.now) a.conf.now _
    (sym (ap gmeaning c.in_ok-lists_judged.was) ∙ c.lists_judged.ensures) _ c.configured.ensures.out_after c.in_ok-n.n
    (sym (ap ameaning c.in_ok-n.was) ∙ c.configured.ensures.result_value) refl
