-- `end` meets its contract.
use Rattle.rules.specs.Writer.{end_bytes}
use Rattle.append.proofs.end.Goals as goal

pub returns : goal.returns
unfolding end_bytes
returns c = c.put_word.ensures
