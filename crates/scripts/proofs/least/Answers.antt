-- `least` meets its contract.
use Rattle.std.proofs.Common.{◌∙◌, sym, ap}
use Rattle.rules.proofs.Laws.Verdicts.{gives_refuses}
use Rattle.reservation.specs.Made.{meaning}
use Rattle.scripts.specs.Scripts.{least}
use Rattle.scripts.proofs.Spelt.{made_least, least_of}
use Rattle.scripts.proofs.least.Goals as goal

pub unreachable-requires : goal.unreachable-requires
unreachable-requires c = gives_refuses least 27 0 (sym (ap meaning c.in-Err.is) ∙ c.new.ensures ∙ made_least)

pub returns : goal.returns
returns c = least_of _ (sym (ap meaning c.in-Ok.is) ∙ c.new.ensures)
