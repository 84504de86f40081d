use mathlib.Core.Path.{sym, ◌∙◌}
use lib.ListN.{drop_of_length-le}
use Rattle.rules.proofs.Laws.Reservations.{pairs_from, overlapping_pairs}
use Rattle.reservation.specs.Made.{entries_of}
use Rattle.reservation.proofs.Entries.{pairs_at, nowhere}
use Rattle.reservation.proofs.any_overlap.Goals as goal

pub loop-i-init : goal.loop-i-init
loop-i-init c = overlapping_pairs (entries_of c.args.reservations.now)

pub returns-then-any_meets : goal.returns-then-any_meets
returns-then-any_meets c =
    let rs = c.args.reservations.now in
    sym (c.loop-i.invariant ∙ pairs_at rs c.loop-i.i nowhere c.loop-i-test.true ∙ rw (← c.any_meets.ensures, c.if-any_meets.true))

pub loop-i-preserved : goal.loop-i-preserved
loop-i-preserved c =
    let rs = c.args.reservations.now in
    c.loop-i.invariant ∙ pairs_at rs c.loop-i.i nowhere c.loop-i-test.true ∙ rw (← c.any_meets.ensures, c.if-any_meets.false)

pub returns : goal.returns
unfolding pairs_from
returns c = sym (c.loop-i.invariant ∙ rw (drop_of_length-le c.args.reservations.now {i = c.loop-i.i} c.loop-i-test.false))
