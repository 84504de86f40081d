-- `is_cells` meets its contract.
use mathlib.Core.Path.{ap, ◌∙◌}
use Rattle.rules.specs.Octets.{Bytes, same}
use Rattle.references.proofs.Names.{equal_same}
use Rattle.references.proofs.rows.is_cells.Goals as goal

pub returns-in-Some : goal.returns-in-Some
returns-in-Some c = rw c.in-Some.is (c.eq.ensures ∙ equal_same c.name.result.now c.args.name.now ∙ ap (λ (x : Bytes). same x c.args.name.now) c.name.ensures)
