-- `enter` meets its contract: with room a word more, and without nothing.
use native.Mathlib.Omega.{arith}
use Rattle.rules.proofs.Laws.Kept.{put_in_part}
use Rattle.rules.proofs.Laws.Constants.{work_words_lem, stack_at_lem}
use Rattle.guest.proofs.Noted.{enter_room, enter_full, space}
use Rattle.guest.proofs.measured.enter.Goals as goal

pub returns-then-names-lt-TABLE_ROOM : goal.returns-then-names-lt-TABLE_ROOM
returns-then-names-lt-TABLE_ROOM c = record { count = (enter_room c.args.work.now c.put_word_of.new.d c.args.names c.args.offset (omega (arith, space, stack_at_lem, work_words_lem)) (put_in_part stack_at_lem c.args.work.now _ c.args.names c.args.offset c.put_word_of.ensures)).0; words = (enter_room c.args.work.now c.put_word_of.new.d c.args.names c.args.offset (omega (arith, space, stack_at_lem, work_words_lem)) (put_in_part stack_at_lem c.args.work.now _ c.args.names c.args.offset c.put_word_of.ensures)).1 }

pub returns : goal.returns
returns c = record { count = (enter_full c.args.work.now c.args.names c.args.offset (omega (arith, space, stack_at_lem, work_words_lem))).0; words = (enter_full c.args.work.now c.args.names c.args.offset (omega (arith, space, stack_at_lem, work_words_lem))).1 }
