-- `FdtWriter::begin_node` meets its contract: refused, all stays; passed, there is room for what is laid in.
use mathlib.Core.Path.{◌≡◌, sym, ap, ◌∙◌}
use native.Mathlib.Omega.{arith}
use lib.ListN.{length}
use Rattle.rules.specs.Outcome.{refuses, passes}
use Rattle.rules.specs.Writer.{begin_bytes, begin_judged, begin_node, begin_node_data, begun}
use Rattle.rules.proofs.Laws.Writer.{length_begin}
use Rattle.judge.specs.Meaning.{number_of}
use Rattle.judge.specs.Judged.{outcome_of}
use Rattle.writer.specs.Meaning.{state_of}
use Rattle.writer.proofs.Passed.{judged_ok, was_err, answer_refused, answer_done, kept, changed, begin_passed}
use Rattle.writer.proofs.FdtWriter.begin_node.Goals as goal

pub overflow_add-self : goal.overflow_add-self
overflow_add-self c =
    let p = begin_passed (state_of c.args.self) _ _ (judged_ok c.args.self _ _ c.or_refused.ensures _ c.in_ok-or_refused.was _ (rw c.into.ensures at c.begin_node.ensures)) in
    omega (arith, c.begin_size.ensures, length_begin c.args.name.now)

pub overflow_add-self-2 : goal.overflow_add-self-2
overflow_add-self-2 c =
    let p = begin_passed (state_of c.args.self) _ _ (judged_ok c.args.self _ _ c.or_refused.ensures _ c.in_ok-or_refused.was _ (rw c.into.ensures at c.begin_node.ensures)) in
    omega arith

pub returns-in_err-or_refused : goal.returns-in_err-or_refused
unfolding begin_node begin_node_data
returns-in_err-or_refused c =
    let t = was_err c.args.self _ _ c.or_refused.ensures _ c.in_err-or_refused.was _ c.from_residual.ensures.1 in
    let w = state_of c.args.self in
    let d = c.args.«data».now in
    let name = c.args.name.now in
    let v : refuses (number_of t.0) 0 ≡ begin_judged w (length d) name = ap outcome_of (sym t.1) ∙ rw c.into.ensures at c.begin_node.ensures in
    record { answer = t.2 ∙ answer_refused _ _ w (begun w name) v; bytes = kept _ _ d _ v }

pub returns : goal.returns
unfolding begin_node begin_node_data
returns c =
    let w = state_of c.args.self in
    let d = c.args.«data».now in
    let name = c.args.name.now in
    let v : passes ≡ begin_judged w (length d) name = judged_ok c.args.self _ _ c.or_refused.ensures _ c.in_ok-or_refused.was _ (rw c.into.ensures at c.begin_node.ensures) in
    let p = begin_passed w (length d) name v in
    let n : c.begin_size.result ≡ length (begin_bytes name) = c.begin_size.ensures ∙ sym (length_begin name) in
    record { answer = rw n (answer_done _ w (begun w name) v); bytes = changed _ d _ w.data_length (begin_bytes name) v p.1 c.begin.ensures }
