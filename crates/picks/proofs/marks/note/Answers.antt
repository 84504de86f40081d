use mathlib.Core.Path.{sym, subst}
use mathlib.Core.List.{List}
use Prim.Native.Nat.{ℕ}
use native.Mathlib.Omega.{arith}
use Rattle.rules.proofs.Laws.Kept.{node_word, word_in_part, put_in_part}
use Rattle.rules.proofs.Laws.Constants.{marks_at_lem, list_at_lem}
use Rattle.picks.specs.Marks.{Keeps}
use Rattle.picks.proofs.Marking.{noted_first, node_inside, noted_keeps, noted_more}
use borrow.Author.Rules.{rules}
use Rattle.picks.proofs.marks.note.Goals as goal

pub loop-k-init : goal.loop-k-init
loop-k-init c = (omega arith, noted_first c.args.count c.args.work.now c.requires.keeps c.requires.unmarked)

pub overflow_add-k : goal.overflow_add-k
overflow_add-k c = let w = node_word in let h = c.requires.n_le_node_ceiling in search rules

pub above-requires : goal.above-requires
above-requires c = record { keeps = subst (λ (ws : List ℕ). Keeps ws c.args.count) (sym (put_in_part marks_at_lem c.loop-k.work c.put_word_of.new.d c.word_of-j.result 1 c.put_word_of.ensures)) (noted_keeps c.args.count c.args.work.now c.requires.keeps c.loop-k.work c.loop-k.k c.loop-k.invariant.1 (omega (arith, c.loop-k-test.true, c.requires.n_le_node_ceiling)) c.word_of-j.result (word_in_part list_at_lem c.loop-k.work c.loop-k.k c.word_of-j.result c.word_of-j.ensures) (c.requires.by_index c.loop-k.k c.loop-k-test.true)); j_lt_count = node_inside c.args.count c.args.work.now c.requires.keeps c.loop-k.work c.loop-k.k c.loop-k.invariant.1 (omega (arith, c.loop-k-test.true, c.requires.n_le_node_ceiling)) c.word_of-j.result (word_in_part list_at_lem c.loop-k.work c.loop-k.k c.word_of-j.result c.word_of-j.ensures) (c.requires.by_index c.loop-k.k c.loop-k-test.true) }

pub loop-k-preserved : goal.loop-k-preserved
loop-k-preserved c = (omega (arith, c.loop-k-test.true), noted_more c.args.count c.args.work.now c.requires.keeps c.loop-k.work c.loop-k.k c.loop-k.invariant.1 (omega (arith, c.loop-k-test.true, c.requires.n_le_node_ceiling)) c.word_of-j.result (word_in_part list_at_lem c.loop-k.work c.loop-k.k c.word_of-j.result c.word_of-j.ensures) (c.requires.by_index c.loop-k.k c.loop-k-test.true) c.put_word_of.new.d (put_in_part marks_at_lem c.loop-k.work c.put_word_of.new.d c.word_of-j.result 1 c.put_word_of.ensures) _ c.above.ensures.only c.above.ensures.over)
