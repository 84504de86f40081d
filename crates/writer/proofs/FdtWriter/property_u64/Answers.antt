-- `FdtWriter::property_u64` meets its contract: one number is an array of one.
use Rattle.rules.proofs.Laws.Writer.{words64_one}
use Rattle.writer.proofs.FdtWriter.property_u64.Goals as goal

pub returns : goal.returns
returns c = rw (← words64_one c.args.val) c.property_array_u64.ensures
