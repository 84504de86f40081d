-- `property` meets its contract.
use borrow.Author.Tests.{eq-eqb, ne_eqb}
use Rattle.passes.specs.Cells.{on_property}
use Rattle.rules.proofs.Laws.Tests.{and_none}
use Rattle.passes.proofs.cells.property.Goals as goal
use Rattle.passes.proofs.cells.property.Goals.{else-value-ne4-via-then-value-ne4+else-is_cells_name, else-value-ne4-via-else-value-ne4}

pub returns-then-is_phandle_name : goal.returns-then-is_phandle_name
unfolding on_property
returns-then-is_phandle_name c = simp (← c.is_phandle_name.ensures, c.if-is_phandle_name.true) c.given.ensures

pub returns-then-is_cells_name : goal.returns-then-is_cells_name
unfolding on_property
returns-then-is_cells_name c = simp (← c.is_phandle_name.ensures, c.if-is_phandle_name.false, ne_eqb _ _ c.if-value-ne4.true, ← c.is_cells_name.ensures, c.if-is_cells_name.true)

pub returns : goal.returns
unfolding on_property
returns c = elim c.else-value-ne4.branch [
  | else-value-ne4-via-then-value-ne4+else-is_cells_name w ↦ simp (← c.is_phandle_name.ensures, c.if-is_phandle_name.false, ← w.is_cells_name.ensures, w.if-is_cells_name.false)
  | else-value-ne4-via-else-value-ne4 w ↦ simp (← c.is_phandle_name.ensures, c.if-is_phandle_name.false, eq-eqb _ _ w.if-value-ne4.false, and_none)
]
