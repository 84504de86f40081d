use mathlib.Core.Path.{sym, ◌∙◌}
use lib.ListN.{drop}
use Rattle.rules.proofs.Laws.Octets.{lay_past}
use Rattle.append.proofs.Laid.{laid_none, laid_more}
use Rattle.append.proofs.words.Goals as goal

pub returns-then-data-p : goal.returns-then-data-p
returns-then-data-p g c = sym (c.loop-word.invariant ∙ lay_past c.loop-word.«data» c.loop-word.p (g.T.Word.bytes (drop c.loop-word.word-index c.args.words.now)) c.if-data-p.true)

pub loop-word-preserved : goal.loop-word-preserved
loop-word-preserved g c =
    c.loop-word.invariant
    ∙ laid_more g.T.Word.bytes g.T.Word.SIZE c.loop-word.«data» c.loop-word.p c.args.words.now c.loop-word.word-index g.met.T.Word.more g.met.T.Word.wide c.word-item.result c.word-item.is c.loop-word-test.true
    ∙ rw (c.put.ensures, c.SIZE-p.ensures)

pub returns : goal.returns
returns g c = sym (c.loop-word.invariant ∙ laid_none g.T.Word.bytes g.T.Word.SIZE c.loop-word.«data» c.loop-word.p c.args.words.now c.loop-word.word-index g.met.T.Word.wide c.loop-word-test.false)
