-- A number of 32 bits is laid in as one of its kind.
use Rattle.rules.proofs.Laws.Writer.{words32_one}
use Rattle.append.proofs.U32Word.put.Goals as goal

pub returns : goal.returns
returns c = rw (words32_one c.args.self) c.put_word.ensures
