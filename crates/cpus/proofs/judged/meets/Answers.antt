-- `meets` meets its contract.
use mathlib.Core.Path.{sym, ap, ◌∙◌}
use mathlib.Core.List.{[], ◌∷◌}
use Rattle.rules.specs.Copy.{is_id}
use Rattle.cpus.proofs.Searches.{read_one}
use Rattle.cpus.proofs.judged.meets.Goals as goal

pub returns-then-cpu_child : goal.returns-then-cpu_child
returns-then-cpu_child c =
    c.eq.ensures ∙ read_one c.reg_at.result c.args.id ∙ ap (is_id (c.args.id ∷ [])) c.reg_at.ensures ∙ rw (sym c.cpu_child.ensures ∙ c.if-cpu_child.true)
