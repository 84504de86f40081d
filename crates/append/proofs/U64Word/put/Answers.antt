-- A number of 64 bits is laid in as one of its kind.
use Rattle.rules.proofs.Laws.Writer.{words64_one}
use Rattle.append.proofs.U64Word.put.Goals as goal

pub returns : goal.returns
returns c = rw (words64_one c.args.self) c.put_long.ensures
