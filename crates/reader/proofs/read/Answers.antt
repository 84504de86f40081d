-- `read` meets its contract: no space, then the header, then the blocks; after a refusal the work space is cleared.
use mathlib.Core.Path.{sym, ◌∙◌, subst}
use Prim.Native.Nat.{◌≤◌}
use lib.ListN.{length, length-take}
use native.Mathlib.Omega.{arith}
use Rattle.rules.specs.Ceilings.{work_words}
use Rattle.header.specs.Header.{Heads}
use Rattle.std.proofs.lemmas.Result.{err_from_is_err_and}
use Rattle.reader.proofs.Joined.{no_space, clear_long, clear_again, head_refused, read_answer, read_refused, read_nodes, is_refused, is_counted, filled}
use Rattle.reader.proofs.read.Goals as goal

pub returns-then-work-lt-WORK_WORDS : goal.returns-then-work-lt-WORK_WORDS
unfolding work_words
returns-then-work-lt-WORK_WORDS c =
    let n = no_space c.args.blob.now c.args.work.now (omega arith) in
    record { result_value = n.0; work_after = n.1 }

pub returns-in_err-parts : goal.returns-in_err-parts
unfolding work_words
returns-in_err-parts c =
    let clear = filled c.args.work.now c.fill.new.self (omega arith) (c.fill.ensures.after (λ y h. h)) in
    let p = err_from_is_err_and c.from_residual.result c.from_residual.ensures.1 in
    let h = head_refused c.args.blob.now c.args.work.now (omega arith) clear p.0 c.in_err-parts.field-0.0 p.2 (subst (Heads c.args.blob.now) c.in_err-parts.was c.judge.ensures) in
    record { result_value = rw p.1 h.0; work_after = h.1 }

pub blocks-answer-requires : goal.blocks-answer-requires
unfolding work_words
blocks-answer-requires c =
    let clear = filled c.args.work.now c.fill.new.self (omega arith) (c.fill.ensures.after (λ y h. h)) in
    record { found = subst (Heads c.args.blob.now) c.in_ok-parts.was c.judge.ensures; work_words_in_bounds = clear_long c.args.blob.now c.args.work.now (omega arith) clear; work_value = clear_again c.args.blob.now c.args.work.now (omega arith) clear }

pub slice_bounds-fill-end-then-is_err-2 : goal.slice_bounds-fill-end-then-is_err-2
unfolding work_words
slice_bounds-fill-end-then-is_err-2 c =
    let clear = filled c.args.work.now c.fill.new.self (omega arith) (c.fill.ensures.after (λ y h. h)) in
    let long : work_words ≤ length c.blocks-answer.new.work = omega (arith, clear_long c.args.blob.now c.args.work.now (omega arith) clear, c.blocks-answer.auto.work) in
    simp length-take (omega arith)

pub returns-then-is_err : goal.returns-then-is_err
unfolding work_words
returns-then-is_err c =
    let clear = filled c.args.work.now c.fill.new.self (omega arith) (c.fill.ensures.after (λ y h. h)) in
    let long : work_words ≤ length c.blocks-answer.new.work = omega (arith, clear_long c.args.blob.now c.args.work.now (omega arith) clear, c.blocks-answer.auto.work) in
    let head = (subst (Heads c.args.blob.now) c.in_ok-parts.was c.judge.ensures).judged in
    record {
      result_value = read_answer c.args.blob.now c.args.work.now (omega arith) clear head c.blocks-answer.ensures;
      work_after = is_refused c.blocks-answer.result (sym c.is_err.ensures.value ∙ c.if-is_err.true)
          (λ f e. read_refused c.args.blob.now c.args.work.now (omega arith) clear head c.blocks-answer.ensures e (filled c.blocks-answer.new.work c.fill-then-is_err.new.self long (c.fill-then-is_err.ensures.after (λ y h. h))) long);
    }

pub returns-else-is_err : goal.returns-else-is_err
unfolding work_words
returns-else-is_err c =
    let clear = filled c.args.work.now c.fill.new.self (omega arith) (c.fill.ensures.after (λ y h. h)) in
    let head = (subst (Heads c.args.blob.now) c.in_ok-parts.was c.judge.ensures).judged in
    record {
      result_value = read_answer c.args.blob.now c.args.work.now (omega arith) clear head c.blocks-answer.ensures;
      work_after = is_counted c.blocks-answer.result (sym c.is_err.ensures.value ∙ c.if-is_err.false)
          (λ count e. read_nodes c.args.blob.now c.args.work.now (omega arith) clear head c.blocks-answer.ensures e);
    }
