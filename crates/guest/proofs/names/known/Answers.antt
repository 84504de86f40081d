-- `known` meets its contract: in the table, or not in a table that has room, or by the search.
use native.Mathlib.Omega.{arith}
use lib.ListN.{take}
use Rattle.rules.specs.Events.{string_at}
use Rattle.rules.proofs.Laws.Constants.{work_words_lem, stack_at_lem}
use Rattle.guest.specs.Measured.{names_in}
use Rattle.guest.proofs.Noted.{known_not, space}
use Rattle.guest.proofs.names.known.Goals as goal

pub returns-then-sum-lt-TABLE_ROOM : goal.returns-then-sum-lt-TABLE_ROOM
returns-then-sum-lt-TABLE_ROOM c = known_not c.args.block.now.strings.now c.args.work.now c.args.sum.names (take c.args.sum.props (names_in c.args.block.now.structure.now c.args.block.now.strings.now c.args.work.now)) c.requires.collected (string_at c.args.block.now.strings.now c.args.offset) c.in_table.result c.in_table.ensures c.if-in_table.false (omega (arith, space, stack_at_lem, work_words_lem))
