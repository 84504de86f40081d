-- `is_cells_name` meets its contract.
use mathlib.Core.Path.{sym, ◌∙◌}
use Rattle.rules.specs.Octets.{ascii}
use Rattle.rules.specs.Tree.{among, cells_names}
use Rattle.passes.proofs.Watched.{equal_same, unmarked}
use Rattle.passes.proofs.words.is_cells_name.Goals as goal

pub returns-then-starts_with : goal.returns-then-starts_with
unfolding among cells_names ascii
returns-then-starts_with c = simp equal_same at c.contains.ensures.value

pub returns-else-starts_with : goal.returns-else-starts_with
returns-else-starts_with c = c.if-starts_with.false ∙ sym (unmarked c.args.n.now (sym c.starts_with.ensures.value ∙ c.if-starts_with.false))
