-- `property` meets its contract: it holds no references, or those that its scan tells.
use mathlib.Core.Path.{sym, ◌∙◌}
use Rattle.references.specs.Rows.{meaning}
use Rattle.listing.specs.Visit.{property_of}
use Rattle.listing.proofs.Visits.{property_none, property_some}
use Rattle.rules.specs.Laws.Lent.{block_lent}
use Rattle.listing.proofs.visit.property.Goals as goal

pub returns-then-is_phandle_property : goal.returns-then-is_phandle_property
returns-then-is_phandle_property c =
    let a = c.args in
    λ at. property_some (block_lent a.block.now) a.work.now a.count c.requires.kept
    a.ends.now.list a.ends.now.stack (property_of at a.name.now a.value.now)
    (sym c.is_phandle_property.ensures ∙ c.if-is_phandle_property.true)
    (meaning c.cells_name.result) c.cells_name.ensures
    c.note_targets.new.work c.note_targets.new.ends.list c.note_targets.new.ends.stack c.note_targets.ensures

pub returns-else-is_phandle_property : goal.returns-else-is_phandle_property
returns-else-is_phandle_property c =
    let a = c.args in
    λ at. property_none (block_lent a.block.now) a.work.now a.count c.requires.kept
    a.ends.now.list a.ends.now.stack (property_of at a.name.now a.value.now) c.requires.piled
    (sym c.is_phandle_property.ensures ∙ c.if-is_phandle_property.false)
