use mathlib.Core.List.{[]}
use mathlib.Core.Path.{refl, sym, ap, ◌∙◌}
use Prim.Native.Nat.{◌+◌, ◌-◌}
use native.Mathlib.Omega.{arith}
use lib.ListN.{take}
use Rattle.rules.specs.Outcome.{Verdict, ◌then◌}
use Rattle.rules.specs.Tree.{doubled_props}
use Rattle.doubled.specs.Passes.{props_at, verdict}
use Rattle.doubled.specs.Sorted.{chunk_room, taken, key_below}
use Rattle.doubled.proofs.Doubles.{meets_here, meets_none, left_all, left_zero, left_hit, left_miss}
use Rattle.doubled.proofs.Chunks.{framed_same, framed_then, builds_twice, builds_done, builds_full}
use Rattle.doubled.proofs.props.chunks.Goals as goal

pub loop-left-init : goal.loop-left-init
loop-left-init c = (omega arith, c.requires.0, tt, refl, framed_same c.args.work.now (taken c.args.all), λ p. left_all (props_at c.args.block.now.structure.now c.args.block.now.strings.now p c.args.from) c.args.all (c.requires.2 p))

pub returns-in-Twice : goal.returns-in-Twice
returns-in-Twice c =
    let t = builds_twice c.args.block.now.structure.now c.args.block.now.strings.now c.loop-left.here c.loop-left.left c.build.new.work c.build.result c.build.ensures.built c.in-Twice.at c.in-Twice.is in
    record { judged = λ p. sym (ap (λ (v : Verdict). v then verdict 10 p c.loop-left.found) (t.judged p)) ∙ c.loop-left.invariant.5 p; inside = t.inside; framed = framed_then c.args.work.now c.loop-left.work c.build.new.work (taken c.loop-left.left) (taken c.args.all) (omega (arith, c.loop-left.invariant.0)) c.loop-left.invariant.4 c.build.ensures.framed }

pub returns-in-Done : goal.returns-in-Done
returns-in-Done c =
    let t = builds_done c.args.block.now.structure.now c.args.block.now.strings.now c.loop-left.here c.loop-left.left c.build.new.work c.build.result c.build.ensures.built c.in-Done.is in
    record { judged = λ p. sym (ap (λ (v : Verdict). v then verdict 10 p c.loop-left.found) (t p)) ∙ c.loop-left.invariant.5 p; inside = c.loop-left.invariant.2; framed = framed_then c.args.work.now c.loop-left.work c.build.new.work (taken c.loop-left.left) (taken c.args.all) (omega (arith, c.loop-left.invariant.0)) c.loop-left.invariant.4 c.build.ensures.framed }

pub overflow_sub-left : goal.overflow_sub-left
overflow_sub-left c = let u = builds_full c.args.block.now.structure.now c.args.block.now.strings.now c.loop-left.here c.loop-left.left c.build.new.work c.build.result c.build.ensures.built c.in-Full.next c.in-Full.is in omega (arith, u.few)

pub lookup-requires : goal.lookup-requires
lookup-requires c = let u = builds_full c.args.block.now.structure.now c.args.block.now.strings.now c.loop-left.here c.loop-left.left c.build.new.work c.build.result c.build.ensures.built c.in-Full.next c.in-Full.is in (u.within, omega (arith, c.requires.1, c.loop-left.invariant.3, c.build.auto.work), u.ordered)

pub loop-left-smaller-in-Some : goal.loop-left-smaller-in-Some
loop-left-smaller-in-Some c =
    let u = builds_full c.args.block.now.structure.now c.args.block.now.strings.now c.loop-left.here c.loop-left.left c.build.new.work c.build.result c.build.ensures.built c.in-Full.next c.in-Full.is in
    let m = meets_here (key_below c.args.block.now.strings.now c.build.new.work chunk_room) c.args.block.now.structure.now c.args.block.now.strings.now c.in-Full.next (c.loop-left.left - chunk_room) c.in-Some.hit c.lookup.result c.in-Some.is c.lookup.ensures in
    omega (arith, u.few, m.few)

pub loop-left-preserved-in-Some : goal.loop-left-preserved-in-Some
loop-left-preserved-in-Some c =
    let u = builds_full c.args.block.now.structure.now c.args.block.now.strings.now c.loop-left.here c.loop-left.left c.build.new.work c.build.result c.build.ensures.built c.in-Full.next c.in-Full.is in
    let m = meets_here (key_below c.args.block.now.strings.now c.build.new.work chunk_room) c.args.block.now.structure.now c.args.block.now.strings.now c.in-Full.next (c.loop-left.left - chunk_room) c.in-Some.hit c.lookup.result c.in-Some.is c.lookup.ensures in (
      omega (arith, u.few, m.few, c.loop-left.invariant.0),
      u.within,
      m.inside,
      c.build.auto.work ∙ c.loop-left.invariant.3,
      framed_then c.args.work.now c.loop-left.work c.build.new.work (taken c.loop-left.left) (taken c.args.all) (omega (arith, c.loop-left.invariant.0)) c.loop-left.invariant.4 c.build.ensures.framed,
      λ p. sym (left_hit (key_below c.args.block.now.strings.now c.build.new.work chunk_room) (u.seen p) (props_at c.args.block.now.structure.now c.args.block.now.strings.now p c.in-Full.next) (c.loop-left.left - chunk_room) (verdict 10 p c.loop-left.found) (doubled_props [] (take c.loop-left.left (props_at c.args.block.now.structure.now c.args.block.now.strings.now p c.loop-left.here))) (u.holds p) (u.judged p) c.in-Some.hit.index (p + c.in-Some.hit.at) (m.fault p) (m.rest p)) ∙ c.loop-left.invariant.5 p,
    )

pub loop-left-smaller : goal.loop-left-smaller
loop-left-smaller c = let u = builds_full c.args.block.now.structure.now c.args.block.now.strings.now c.loop-left.here c.loop-left.left c.build.new.work c.build.result c.build.ensures.built c.in-Full.next c.in-Full.is in omega (arith, u.few)

pub loop-left-preserved : goal.loop-left-preserved
loop-left-preserved c =
    let u = builds_full c.args.block.now.structure.now c.args.block.now.strings.now c.loop-left.here c.loop-left.left c.build.new.work c.build.result c.build.ensures.built c.in-Full.next c.in-Full.is in
    let m = meets_none (key_below c.args.block.now.strings.now c.build.new.work chunk_room) c.args.block.now.structure.now c.args.block.now.strings.now c.in-Full.next (c.loop-left.left - chunk_room) c.lookup.result c.in_default.is c.lookup.ensures in (
      omega (arith, u.few, c.loop-left.invariant.0),
      u.within,
      c.loop-left.invariant.2,
      c.build.auto.work ∙ c.loop-left.invariant.3,
      framed_then c.args.work.now c.loop-left.work c.build.new.work (taken c.loop-left.left) (taken c.args.all) (omega (arith, c.loop-left.invariant.0)) c.loop-left.invariant.4 c.build.ensures.framed,
      λ p. sym (left_miss (key_below c.args.block.now.strings.now c.build.new.work chunk_room) (u.seen p) (props_at c.args.block.now.structure.now c.args.block.now.strings.now p c.in-Full.next) (c.loop-left.left - chunk_room) (verdict 10 p c.loop-left.found) (doubled_props [] (take c.loop-left.left (props_at c.args.block.now.structure.now c.args.block.now.strings.now p c.loop-left.here))) (u.holds p) (u.judged p) (m.fault p) (m.rest p)) ∙ c.loop-left.invariant.5 p,
    )

pub returns : goal.returns
returns c = record { judged = λ p. sym (left_zero c.loop-left.left _ (verdict 10 p c.loop-left.found) (omega arith)) ∙ c.loop-left.invariant.5 p; inside = c.loop-left.invariant.2; framed = c.loop-left.invariant.4 }
