-- `FdtWriter::property_u32` meets its contract: one number is an array of one.
use Rattle.rules.proofs.Laws.Writer.{words32_one}
use Rattle.writer.proofs.FdtWriter.property_u32.Goals as goal

pub returns : goal.returns
returns c = rw (← words32_one c.args.val) c.property_array_u32.ensures
