-- `judge` meets its contract: one pass after the other. The first leaves the work space as it was.
use Rattle.reader.proofs.Twins.{tables, is_doubled, is-cells, is_shared, is_none}
use Rattle.reader.proofs.pairs.judge.Goals as goal

pub returns-in-Some : goal.returns-in-Some
returns-in-Some c = is_doubled c.requires.tabled (c.doubled.ensures.judged (tables c.requires.tabled)) (c.doubled.ensures.kept (tables c.requires.tabled)) c.in-Some.is

pub returns-in-Some-cells : goal.returns-in-Some-cells
returns-in-Some-cells c = is-cells c.requires.tabled (c.doubled.ensures.judged (tables c.requires.tabled)) (c.doubled.ensures.kept (tables c.requires.tabled)) c.in_default.is c.cells.result (c.cells.ensures.judged c.args.block.now.place) c.in-Some-cells.is

pub returns-in-Some-shared : goal.returns-in-Some-shared
returns-in-Some-shared c = is_shared c.requires.tabled (c.doubled.ensures.judged (tables c.requires.tabled)) (c.doubled.ensures.kept (tables c.requires.tabled)) c.in_default.is c.cells.result (c.cells.ensures.judged c.args.block.now.place) c.in_default-cells.is c.shared.result (c.shared.ensures.judged c.args.block.now.place) c.in-Some-shared.is

pub returns : goal.returns
returns c = is_none c.requires.tabled (c.doubled.ensures.judged (tables c.requires.tabled)) (c.doubled.ensures.kept (tables c.requires.tabled)) c.in_default.is c.cells.result (c.cells.ensures.judged c.args.block.now.place) c.in_default-cells.is c.shared.result (c.shared.ensures.judged c.args.block.now.place) c.in_default-shared.is
