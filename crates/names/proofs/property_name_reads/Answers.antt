-- `property_name_reads` meets its contract.
use Rattle.rules.specs.Names.{property_name_reads}
use Rattle.names.proofs.property_name_reads.Goals as goal

pub returns : goal.returns
unfolding property_name_reads
returns c = c.property_name_valid.ensures
