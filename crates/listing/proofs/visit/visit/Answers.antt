use native.Mathlib.Omega.{arith}
use Rattle.rules.specs.Laws.Lent.{block_lent}
use Rattle.rules.proofs.Laws.Kept.{only_kept}
use Rattle.tokens.proofs.Properties.{behind_inside, here_ahead}
use Rattle.listing.proofs.Visits.{visit_first, visit_stop, visit_on}
use Rattle.listing.proofs.visit.visit.Goals as goal

pub loop-p-init : goal.loop-p-init
loop-p-init c =
    let a = c.args in
    let p = c.requires in (
      omega (arith, c.behind-at.ensures, behind_inside a.block.now.structure.now c.begin_of.result),
      visit_first (block_lent a.block.now) a.work.now a.count a.ends.now.list a.ends.now.stack a.x p.x_lt_count
          c.begin_of.result c.begin_of.ensures c.behind-at.result c.behind-at.ensures p.piled,
    )

pub returns : goal.returns
returns c =
    let a = c.args in
    visit_stop (block_lent a.block.now) a.work.now a.count a.ends.now.list a.ends.now.stack a.x c.requires.x_lt_count
    c.loop-p.work c.loop-p.ends c.loop-p.at c.loop-p.invariant.0 c.loop-p.invariant.1 c.property_at.result c.property_at.ensures c.in_default.is

pub property-requires : goal.property-requires
property-requires c =
    let a = c.args in
    record { kept = only_kept (block_lent a.block.now) a.count (omega arith) c.loop-p.invariant.1.apart c.requires.kept; piled = c.loop-p.invariant.1.piled }

pub loop-p-smaller : goal.loop-p-smaller
loop-p-smaller c =
    omega (arith, here_ahead c.args.block.now.structure.now c.loop-p.at c.property_at.result c.property_at.ensures c.in-Some.p c.in-Some.is)

pub loop-p-preserved : goal.loop-p-preserved
loop-p-preserved c =
    let a = c.args in (
      (here_ahead a.block.now.structure.now c.loop-p.at c.property_at.result c.property_at.ensures c.in-Some.p c.in-Some.is).1,
      visit_on (block_lent a.block.now) a.work.now a.count a.ends.now.list a.ends.now.stack a.x c.requires.x_lt_count
          c.loop-p.work c.loop-p.ends c.loop-p.at c.loop-p.invariant.0 c.loop-p.invariant.1 c.property_at.result c.property_at.ensures c.in-Some.p c.in-Some.is
          c.part-value.result.now c.part-value.ensures c.property.new.work c.property.new.ends (λ k. rw c.string_at-name.ensures at (c.property.ensures k)),
    )
