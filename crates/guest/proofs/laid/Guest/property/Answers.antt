-- `property` meets its contract: a name that stands in the strings is found, and another is laid behind them.
use mathlib.Core.Path.{refl}
use native.Mathlib.Omega.{arith}
use lib.ListN.{length}
use Rattle.guest.proofs.Regions.{padded_next, property_known, property_new}
use Rattle.guest.proofs.laid.Guest.property.Goals as goal

pub returns-then-offset-strings-clause-laid : goal.returns-then-offset-strings-clause-laid
returns-then-offset-strings-clause-laid c =
    let g = c.args.self.now in
    (refl, property_known g.strings_at g.bytes.now g.size c.requires.0 c.args.name.now c.args.value.now c.requires.1 c.find_name-offset.result c.find_name-offset.ensures c.property.new.data c.property.ensures _ (omega (arith, c.next_multiple_of.ensures.value, padded_next (length c.args.value.now))) (omega arith))

pub returns-clause-laid : goal.returns-clause-laid
returns-clause-laid c =
    let g = c.args.self.now in
    (refl, property_new g.strings_at g.bytes.now g.size c.requires.0 c.args.name.now c.args.value.now c.requires.1 c.find_name-offset.result c.find_name-offset.ensures c.property.new.data c.property.ensures _ (omega (arith, c.next_multiple_of.ensures.value, padded_next (length c.args.value.now))) (omega arith) c.name.new.strings c.name.ensures)
