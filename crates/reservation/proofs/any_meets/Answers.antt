-- `any_meets` meets its contract.
use mathlib.Core.Path.{◌∙◌}
use Rattle.std.proofs.Common.{rules, tests}
use Rattle.std.proofs.lemmas.Iterator.{YieldsList-from_slice}
use Rattle.std.proofs.lemmas.Iterator.Search.{any_from_yields_List}
use Rattle.rules.specs.Laws.Reservations.{meets}
use Rattle.reservation.specs.declared.Reservation.{Reservation}
use Rattle.reservation.specs.Made.{entry_of}
use Rattle.reservation.proofs.Entries.{any_meets_lem}
use Rattle.reservation.proofs.any_meets.Goals as goal

pub returns : goal.returns
returns c =
    let rs = c.args.reservations.now in
    any_from_yields_List (λ (r : Reservation). meets (entry_of r) (entry_of c.args.later)) _ _ _ c.any.ensures.ran (YieldsList-from_slice rs (cc)) (λ x b q k. search (rules, tests)) ∙ any_meets_lem (entry_of c.args.later) rs
