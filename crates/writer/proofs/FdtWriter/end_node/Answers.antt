-- `FdtWriter::end_node` meets its contract: refused, all stays; passed, there is room for what is laid in.
use mathlib.Core.Path.{◌≡◌, sym, ap, ◌∙◌}
use native.Mathlib.Omega.{arith}
use lib.ListN.{length}
use Rattle.rules.specs.Outcome.{refuses, passes}
use Rattle.rules.specs.Writer.{end_bytes, end_judged, end_node, end_node_data, closed_node}
use Rattle.rules.proofs.Laws.Writer.{length_end}
use Rattle.judge.specs.Meaning.{number_of}
use Rattle.judge.specs.Judged.{outcome_of}
use Rattle.writer.specs.Meaning.{state_of}
use Rattle.writer.proofs.Passed.{judged_ok, was_err, answer_refused, answer_done, kept, changed, end_passed}
use Rattle.writer.proofs.FdtWriter.end_node.Goals as goal

pub overflow_add-self : goal.overflow_add-self
overflow_add-self c =
    let p = end_passed (state_of c.args.self) _ _ (judged_ok c.args.self _ _ c.or_refused.ensures _ c.in_ok-or_refused.was _ (rw c.into.ensures at c.end_node.ensures)) in
    omega (arith, length_end)

pub overflow_sub-self : goal.overflow_sub-self
overflow_sub-self c =
    let p = end_passed (state_of c.args.self) _ _ (judged_ok c.args.self _ _ c.or_refused.ensures _ c.in_ok-or_refused.was _ (rw c.into.ensures at c.end_node.ensures)) in
    omega arith

pub returns-in_err-or_refused : goal.returns-in_err-or_refused
unfolding end_node end_node_data
returns-in_err-or_refused c =
    let t = was_err c.args.self _ _ c.or_refused.ensures _ c.in_err-or_refused.was _ c.from_residual.ensures.1 in
    let w = state_of c.args.self in
    let d = c.args.«data».now in
    let v : refuses (number_of t.0) 0 ≡ end_judged w (length d) c.args.depth = ap outcome_of (sym t.1) ∙ rw c.into.ensures at c.end_node.ensures in
    record { answer = t.2 ∙ answer_refused _ _ w (closed_node w) v; bytes = kept _ _ d _ v }

pub returns : goal.returns
unfolding end_node end_node_data
returns c =
    let w = state_of c.args.self in
    let d = c.args.«data».now in
    let v : passes ≡ end_judged w (length d) c.args.depth = judged_ok c.args.self _ _ c.or_refused.ensures _ c.in_ok-or_refused.was _ (rw c.into.ensures at c.end_node.ensures) in
    let p = end_passed w (length d) c.args.depth v in
    record { answer = rw (← length_end) (answer_done _ w (closed_node w) v); bytes = changed _ d _ w.data_length end_bytes v p.1 c.end.ensures }
