use mathlib.Core.Path.{◌≡◌, refl, ◌∙◌, subst}
use Prim.Native.Nat.{ℕ}
use native.Mathlib.Omega.{arith}
use Rattle.rules.specs.Ceilings.{work_words}
use Rattle.rules.specs.Events.{string_at}
use Rattle.doubled.specs.Sorted.{chunk_room, taken, Inserted}
use Rattle.doubled.proofs.Doubles.{next_here, next_none}
use Rattle.doubled.proofs.Chunks.{filled_start, filled_done, filled_none, filled_twice, filled_more, framed_same, framed_more, finds_taken, finds_free, full_at}
use Rattle.doubled.proofs.props.build.Goals as goal

pub loop-n-init : goal.loop-n-init
loop-n-init c = (omega arith, omega arith, c.requires.0, refl, framed_same c.args.work.now (taken c.args.left), filled_start c.args.block.now.structure.now c.args.block.now.strings.now c.args.from c.args.left c.args.work.now)

pub returns-then-left-n : goal.returns-then-left-n
returns-then-left-n c = record { built = filled_done c.args.block.now.structure.now c.args.block.now.strings.now c.args.from c.args.left c.loop-n.n c.loop-n.here c.loop-n.work c.loop-n.invariant.5 c.if-left-n.true; framed = c.loop-n.invariant.4 }

pub returns-in_default : goal.returns-in_default
returns-in_default c = record { built = filled_none c.args.block.now.structure.now c.args.block.now.strings.now c.args.from c.args.left c.loop-n.n c.loop-n.here c.loop-n.work c.loop-n.invariant.5 (next_none c.args.block.now.structure.now c.args.block.now.strings.now c.loop-n.here c.loop-n.invariant.2 c.property_at.result c.property_at.ensures c.in_default.is); framed = c.loop-n.invariant.4 }

pub find-requires : goal.find-requires
unfolding work_words
find-requires c = (omega (arith, c.requires.1, c.loop-n.invariant.3), (c.loop-n.invariant.5.chunk 0).ordered)

pub returns-in_default-find : goal.returns-in_default-find
returns-in_default-find c =
    let k = next_here c.args.block.now.structure.now c.args.block.now.strings.now c.loop-n.here c.loop-n.invariant.2 c.property_at.result c.property_at.ensures c.in-Some.property c.in-Some.is in
    let t = finds_taken c.args.block.now.strings.now c.loop-n.work c.loop-n.n c.string_at-wanted.result.now (string_at c.args.block.now.strings.now c.in-Some.property.name) c.find.result _ c.string_at-wanted.ensures c.in_default-find.is c.find.ensures in
    record { built = record { inside = omega (arith, k.within, k.inside, k.ahead); judged = filled_twice c.args.block.now.structure.now c.args.block.now.strings.now c.args.from c.args.left c.loop-n.n c.loop-n.here c.loop-n.work c.loop-n.invariant.5 c.if-left-n.false c.in-Some.property.at c.in-Some.property.name c.in-Some.property.next k t }; framed = c.loop-n.invariant.4 }

pub overflow_add-property : goal.overflow_add-property
overflow_add-property c =
    let k = next_here c.args.block.now.structure.now c.args.block.now.strings.now c.loop-n.here c.loop-n.invariant.2 c.property_at.result c.property_at.ensures c.in-Some.property c.in-Some.is in
    omega (arith, k.inside, k.within)

pub insert-requires : goal.insert-requires
unfolding work_words
insert-requires c =
    let t = finds_free c.args.block.now.strings.now c.loop-n.work c.loop-n.n c.string_at-wanted.result.now (string_at c.args.block.now.strings.now c.in-Some.property.name) c.find.result c.in-Err.spot c.string_at-wanted.ensures c.in-Err.is c.find.ensures in
    (t.few, omega (arith, c.requires.1, c.loop-n.invariant.3))

pub loop-n-preserved : goal.loop-n-preserved
loop-n-preserved c =
    let k = next_here c.args.block.now.structure.now c.args.block.now.strings.now c.loop-n.here c.loop-n.invariant.2 c.property_at.result c.property_at.ensures c.in-Some.property c.in-Some.is in
    let t = finds_free c.args.block.now.strings.now c.loop-n.work c.loop-n.n c.string_at-wanted.result.now (string_at c.args.block.now.strings.now c.in-Some.property.name) c.find.result c.in-Err.spot c.string_at-wanted.ensures c.in-Err.is c.find.ensures in (
      omega arith,
      omega arith,
      k.within,
      c.insert.auto.work ∙ c.loop-n.invariant.3,
      framed_more c.args.work.now c.loop-n.work c.insert.new.work (taken c.args.left) c.loop-n.n c.in-Err.spot c.in-Some.property.name (omega (arith, c.loop-n-test.true, c.if-left-n.false)) c.loop-n.invariant.4 (subst (λ (o : ℕ). Inserted c.loop-n.work c.loop-n.n c.in-Err.spot o c.insert.new.work) (c.word.ensures ∙ k.offset) c.insert.ensures),
      filled_more c.args.block.now.structure.now c.args.block.now.strings.now c.args.from c.args.left c.loop-n.n c.loop-n.here c.loop-n.work c.loop-n.invariant.5 c.if-left-n.false c.in-Some.property.at c.in-Some.property.name c.in-Some.property.next k c.in-Err.spot c.insert.new.work t (subst (λ (o : ℕ). Inserted c.loop-n.work c.loop-n.n c.in-Err.spot o c.insert.new.work) (c.word.ensures ∙ k.offset) c.insert.ensures),
    )

pub returns : goal.returns
returns c =
    let e : c.loop-n.n ≡ chunk_room = omega arith in
    record { built = full_at c.args.block.now.structure.now c.args.block.now.strings.now c.args.from c.args.left c.loop-n.n c.loop-n.here c.loop-n.work e c.loop-n.invariant.1 c.loop-n.invariant.2 c.loop-n.invariant.5; framed = c.loop-n.invariant.4 }
