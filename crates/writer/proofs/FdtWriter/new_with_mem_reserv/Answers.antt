-- `FdtWriter::new_with_mem_reserv` meets its contract.
use mathlib.Core.Path.{◌≡◌, sym, ap, ◌∙◌}
use mathlib.Core.Bool.{false}
use Prim.Native.Nat.{ℕ}
use lib.ListN.{length}
use Rattle.rules.specs.Outcome.{passes}
use Rattle.rules.specs.Writer.{fresh, start_judged}
use Rattle.reservation.specs.Made.{entries_of}
use Rattle.judge.specs.Judged.{outcome_of}
use Rattle.writer.proofs.Passed.{was_ok, was_err}
use Rattle.writer.proofs.Starts.{start_long, start_refused, start_done}
use Rattle.writer.proofs.FdtWriter.new_with_mem_reserv.Goals as goal

pub returns-in_err-or_refused : goal.returns-in_err-or_refused
returns-in_err-or_refused c =
    let rs = c.args.reservations.now in
    let t = was_err c.fresh.result _ _ c.or_refused.ensures _ c.in_err-or_refused.was _ c.from_residual.ensures.1 in
    let p = start_refused c.args.«data».now rs _ c.fresh.ensures _ (ap outcome_of (sym t.1) ∙ c.judge_start.ensures) in
    record { answer = t.2 ∙ p.0; bytes = p.1 }

pub returns : goal.returns
returns c =
    let d = c.args.«data».now in
    let rs = c.args.reservations.now in
    let v : passes ≡ start_judged (length d) (entries_of rs) (length rs) = ap outcome_of (sym (was_ok c.fresh.result _ _ c.or_refused.ensures _ c.in_ok-or_refused.was)) ∙ c.judge_start.ensures in
    let p = start_done d rs _ _ (c.fresh-2.ensures ∙ ap (λ (k : ℕ). fresh k false) (c.start_size.ensures ∙ start_long (length d) rs v)) v c.write_start.ensures in
    record { answer = p.0; bytes = p.1 }
