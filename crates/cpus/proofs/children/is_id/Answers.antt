-- `is_id` meets its contract.
use mathlib.Core.Path.{◌∙◌}
use Rattle.cpus.proofs.Searches.{contains_one}
use Rattle.cpus.proofs.children.is_id.Goals as goal

pub returns : goal.returns
returns c = c.contains.ensures.value ∙ contains_one c.args.n c.args.ids.now
