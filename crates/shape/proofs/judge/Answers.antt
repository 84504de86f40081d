use mathlib.Core.Path.{sym, ap, ◌∙◌}
use native.Mathlib.Omega.{arith}
use Rattle.std.specs.Prelude.{Ok, Err}
use Rattle.rules.specs.Ceilings.{blob_ceiling}
use Rattle.rules.specs.Laws.Lent.{block_lent}
use Rattle.shape.proofs.Walks.{starts, ahead, at_stop, at_open, at_close, at_stay, at_end}
use Rattle.std.proofs.lemmas.Result.{err_from_is_err_and}
use Rattle.shape.proofs.judge.Goals as goal

pub loop-kind-init : goal.loop-kind-init
loop-kind-init c = starts (block_lent c.args.block.now) c.args.work.now c.default-walk.result c.default-walk.ensures c.requires.work_value

pub overflow_add-place : goal.overflow_add-place
unfolding blob_ceiling
overflow_add-place c = omega (arith, c.requires.structure_bound, c.loop-kind.invariant.inside)

pub returns-in_default : goal.returns-in_default
returns-in_default c = at_end c.loop-kind.invariant c.token_at-token.result c.end.result c.token_at-token.ensures c.in_default.not-Item c.end.ensures

pub returns-in_err-item : goal.returns-in_err-item
returns-in_err-item c =
    let p = err_from_is_err_and c.from_residual.result c.from_residual.ensures.1 in
    rw p.1 (at_stop c.loop-kind.invariant c.token_at-token.ensures c.in-Item.is c.item.ensures (c.in_err-item.was ∙ ap Err (sym p.2)))

pub loop-kind-smaller-in-Opens : goal.loop-kind-smaller-in-Opens
loop-kind-smaller-in-Opens c = omega (arith, ahead c.loop-kind.invariant c.token_at-token.ensures c.in-Item.is c.item.ensures)

pub loop-kind-preserved-in-Opens : goal.loop-kind-preserved-in-Opens
loop-kind-preserved-in-Opens c =
    rw (c.opened-walk.ensures.walk, c.opened-walk.ensures.row) (at_open c.loop-kind.invariant c.token_at-token.ensures c.in-Item.is c.item.ensures (c.in_ok-item.was ∙ ap Ok c.in-Opens.is))

pub loop-kind-smaller-in-Closes : goal.loop-kind-smaller-in-Closes
loop-kind-smaller-in-Closes c = omega (arith, ahead c.loop-kind.invariant c.token_at-token.ensures c.in-Item.is c.item.ensures)

pub loop-kind-preserved-in-Closes : goal.loop-kind-preserved-in-Closes
loop-kind-preserved-in-Closes c =
    rw c.closed-walk.ensures (at_close c.loop-kind.invariant c.token_at-token.ensures c.in-Item.is c.item.ensures (c.in_ok-item.was ∙ ap Ok c.in-Closes.is))

pub loop-kind-smaller : goal.loop-kind-smaller
loop-kind-smaller c = omega (arith, ahead c.loop-kind.invariant c.token_at-token.ensures c.in-Item.is c.item.ensures)

pub loop-kind-preserved : goal.loop-kind-preserved
loop-kind-preserved c = at_stay c.loop-kind.invariant c.token_at-token.ensures c.in-Item.is c.item.ensures (c.in_ok-item.was ∙ ap Ok c.in-Stays.is)
