-- `judged` meets its contract: lists, configured paths, CPU children and ids, one after the other.
use Rattle.std.proofs.lemmas.Result.{err_from_is_err_and}
use Rattle.std.specs.Prelude.{Result}
use mathlib.Core.Path.{refl, sym, ap, ◌∙◌}
use native.Mathlib.Omega.{arith}
use Rattle.rules.specs.Outcome.{gives, ◌then◌}
use Rattle.rules.specs.Laws.Lent.{tree_lent}
use Rattle.rules.proofs.Laws.Given.{lists_few}
use Rattle.given.specs.Answers.{meaning as gmeaning, request_lent}
use Rattle.asked.specs.Answers.{meaning as ameaning}
use Rattle.asked.proofs.Judged.{checks_lists, checks-named, checks-whole}
use Rattle.derive.specs.declared.Refusal.{Refusal}
use Rattle.derive.specs.Answers.{checked}
use Rattle.derive.proofs.Checks.{request_so, behind_so}
use Rattle.derive.proofs.judged.judged.Goals as goal

pub returns-in_err-lists_judged : goal.returns-in_err-lists_judged
returns-in_err-lists_judged c =
    let a = c.args in
    let e = err_from_is_err_and c.from_residual.result c.from_residual.ensures.1 in
    rw (e.1, e.2) (checks_lists (request_so (tree_lent a.tree.now) (request_lent a.request.now)) a.conf.now _ c.in_err-lists_judged.field-0.0.at refl
    (sym (ap gmeaning c.in_err-lists_judged.was) ∙ c.lists_judged.ensures))

pub configured-requires : goal.configured-requires
configured-requires c = record {
  count_le_node_ceiling = c.requires.count_le_node_ceiling;
  list_in_bounds = omega (arith, lists_few (request_lent c.args.request.now) (sym (sym (ap gmeaning c.in_ok-lists_judged.was) ∙ c.lists_judged.ensures)), c.requires.entry_ceiling_in_bounds);
}

pub returns-in_err-n : goal.returns-in_err-n
returns-in_err-n c =
    let a = c.args in
    let e = err_from_is_err_and c.from_residual-in_err-n.result c.from_residual-in_err-n.ensures.1 in
    rw (e.1, e.2) (checks-named (request_so (tree_lent a.tree.now) (request_lent a.request.now)) a.conf.now _
    (sym (ap gmeaning c.in_ok-lists_judged.was) ∙ c.lists_judged.ensures) _ c.configured.ensures.out_after c.in_err-n.field-0.0.at refl
    (sym (ap ameaning c.in_err-n.was) ∙ c.configured.ensures.result_value))

pub returns-in_err-cpus_checked : goal.returns-in_err-cpus_checked
returns-in_err-cpus_checked c =
    let a = c.args in
    let t = tree_lent a.tree.now in
    let q = request_lent a.request.now in
    let e = err_from_is_err_and c.from_residual-in_err-cpus_checked.result c.from_residual-in_err-cpus_checked.ensures.1 in
    rw (e.1, e.2) (checks-whole (request_so t q) a.conf.now _
    (sym (ap gmeaning c.in_ok-lists_judged.was) ∙ c.lists_judged.ensures) _ c.configured.ensures.out_after c.in_ok-n.n
    (sym (ap ameaning c.in_ok-n.was) ∙ c.configured.ensures.result_value)
    (ap (λ (r : Result (Unit {0}) Refusal). checked r then gives c.in_ok-n.n) (sym c.in_err-cpus_checked.was) ∙ behind_so t q c.in_ok-n.n _ c.cpus_checked.ensures))

pub returns : goal.returns
returns c =
    let a = c.args in
    let t = tree_lent a.tree.now in
    let q = request_lent a.request.now in
    checks-whole (request_so t q) a.conf.now _
    (sym (ap gmeaning c.in_ok-lists_judged.was) ∙ c.lists_judged.ensures) _ c.configured.ensures.out_after c.in_ok-n.n
    (sym (ap ameaning c.in_ok-n.was) ∙ c.configured.ensures.result_value)
    (ap (λ (r : Result (Unit {0}) Refusal). checked r then gives c.in_ok-n.n) (sym c.in_ok-cpus_checked.was) ∙ behind_so t q c.in_ok-n.n _ c.cpus_checked.ensures)
