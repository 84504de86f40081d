-- `is_listed` meets its contract: the table is the 23 names.
use Rattle.rules.specs.Octets.{ascii}
use Rattle.rules.specs.References.{reference_names}
use Rattle.references.proofs.Names.{held_among}
use Rattle.references.proofs.rows.is_listed.Goals as goal

pub returns : goal.returns
unfolding ascii reference_names
returns c = search (c.contains.ensures.value, held_among c.args.name.now reference_names)
