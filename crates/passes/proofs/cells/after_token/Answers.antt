-- `after_token` meets its contract: a case for each kind.
use mathlib.Core.Path.{sym, ap₂, ◌∙◌}
use Rattle.passes.specs.Cells.{on_property}
use Rattle.passes.proofs.Watched.{known}
use Rattle.passes.proofs.cells.after_token.Goals as goal

pub returns-in_default : goal.returns-in_default
returns-in_default c =
    simp c.in-Prop.is
    (c.property.ensures
    ∙ ap₂ (on_property c.args.seen) c.string_at.ensures c.part.ensures
    ∙ sym (known c.args.seen _ _ c.in_default.not-Outside))
