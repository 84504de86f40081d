-- `FdtWriter::finish` meets its contract: refused, all stays; passed, END, strings and header are laid in.
use mathlib.Core.Path.{◌≡◌, sym, ap, ◌∙◌}
use native.Mathlib.Omega.{arith}
use lib.ListN.{length}
use Rattle.rules.specs.Ceilings.{blob_ceiling}
use Rattle.rules.specs.Outcome.{refuses, passes}
use Rattle.rules.specs.Writer.{header_bytes, finish_judged, finish, finish_data, closed_state}
use Rattle.judge.specs.Meaning.{number_of}
use Rattle.judge.specs.Judged.{outcome_of}
use Rattle.writer.specs.Meaning.{state_of}
use Rattle.writer.proofs.Passed.{judged_ok, was_err, answer_refused, answer_done, kept, finish_passed, finish_left}
use Rattle.writer.proofs.FdtWriter.finish.Goals as goal

pub overflow_add-off_dt_strings : goal.overflow_add-off_dt_strings
unfolding blob_ceiling
overflow_add-off_dt_strings c =
    let p = finish_passed (state_of c.args.self) _ _ (judged_ok c.args.self _ _ c.or_refused.ensures _ c.in_ok-or_refused.was _ (rw c.into.ensures at c.finish.ensures)) in
    omega arith

pub overflow_add-totalsize : goal.overflow_add-totalsize
unfolding blob_ceiling
overflow_add-totalsize c =
    let p = finish_passed (state_of c.args.self) _ _ (judged_ok c.args.self _ _ c.or_refused.ensures _ c.in_ok-or_refused.was _ (rw c.into.ensures at c.finish.ensures)) in
    omega arith

pub overflow_cast-totalsize : goal.overflow_cast-totalsize
unfolding blob_ceiling
overflow_cast-totalsize c =
    let p = finish_passed (state_of c.args.self) _ _ (judged_ok c.args.self _ _ c.or_refused.ensures _ c.in_ok-or_refused.was _ (rw c.into.ensures at c.finish.ensures)) in
    omega arith

pub overflow_cast-self : goal.overflow_cast-self
unfolding blob_ceiling
overflow_cast-self c =
    let p = finish_passed (state_of c.args.self) _ _ (judged_ok c.args.self _ _ c.or_refused.ensures _ c.in_ok-or_refused.was _ (rw c.into.ensures at c.finish.ensures)) in
    omega arith

pub overflow_cast-off_dt_strings : goal.overflow_cast-off_dt_strings
unfolding blob_ceiling
overflow_cast-off_dt_strings c =
    let p = finish_passed (state_of c.args.self) _ _ (judged_ok c.args.self _ _ c.or_refused.ensures _ c.in_ok-or_refused.was _ (rw c.into.ensures at c.finish.ensures)) in
    omega arith

pub overflow_cast-used : goal.overflow_cast-used
unfolding blob_ceiling
overflow_cast-used c =
    let p = finish_passed (state_of c.args.self) _ _ (judged_ok c.args.self _ _ c.or_refused.ensures _ c.in_ok-or_refused.was _ (rw c.into.ensures at c.finish.ensures)) in
    omega arith

pub overflow_sub-off_dt_strings : goal.overflow_sub-off_dt_strings
overflow_sub-off_dt_strings c =
    let p = finish_passed (state_of c.args.self) _ _ (judged_ok c.args.self _ _ c.or_refused.ensures _ c.in_ok-or_refused.was _ (rw c.into.ensures at c.finish.ensures)) in
    omega arith

pub overflow_cast-off_dt_strings-2 : goal.overflow_cast-off_dt_strings-2
unfolding blob_ceiling
overflow_cast-off_dt_strings-2 c =
    let p = finish_passed (state_of c.args.self) _ _ (judged_ok c.args.self _ _ c.or_refused.ensures _ c.in_ok-or_refused.was _ (rw c.into.ensures at c.finish.ensures)) in
    omega arith

pub returns-in_err-or_refused : goal.returns-in_err-or_refused
unfolding finish finish_data
returns-in_err-or_refused c =
    let t = was_err c.args.self _ _ c.or_refused.ensures _ c.in_err-or_refused.was _ c.from_residual.ensures.1 in
    let w = state_of c.args.self in
    let d = c.args.«data».now in
    let s = c.args.strings.now in
    let v : refuses (number_of t.0) 0 ≡ finish_judged w (length d) (length s) = ap outcome_of (sym t.1) ∙ rw c.into.ensures at c.finish.ensures in
    record { answer = t.2 ∙ answer_refused _ _ w (closed_state w) v; bytes = kept _ _ d _ v }

pub returns : goal.returns
unfolding finish header_bytes
returns c =
    let w = state_of c.args.self in
    let d = c.args.«data».now in
    let s = c.args.strings.now in
    let v : passes ≡ finish_judged w (length d) (length s) = judged_ok c.args.self _ _ c.or_refused.ensures _ c.in_ok-or_refused.was _ (rw c.into.ensures at c.finish.ensures) in
    record { answer = answer_done _ w (closed_state w) v; bytes = finish_left w d s _ _ _ v c.put_word.ensures (rw c.part.ensures at c.put.ensures) c.words.ensures }
