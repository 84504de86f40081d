-- `any_invalid` meets its contract.
use mathlib.Core.Path.{◌∙◌}
use Rattle.std.proofs.Common.{rules, tests}
use Rattle.std.proofs.lemmas.Iterator.{YieldsList-from_slice}
use Rattle.std.proofs.lemmas.Iterator.Search.{any_from_yields_List}
use Rattle.rules.specs.Reservations.{invalid}
use Rattle.reservation.specs.declared.Reservation.{Reservation}
use Rattle.reservation.specs.Made.{entry_of}
use Rattle.reservation.proofs.Entries.{any_invalid_lem}
use Rattle.reservation.proofs.any_invalid.Goals as goal

pub returns : goal.returns
returns c =
    let rs = c.args.reservations.now in
    any_from_yields_List (λ (r : Reservation). invalid (entry_of r)) _ _ _ c.any.ensures.ran (YieldsList-from_slice rs (cc)) (λ x b q k. search (rules, tests)) ∙ any_invalid_lem rs
