use mathlib.Core.Path.{◌≡◌, sym, ◌∙◌}
use Prim.Native.Nat.{◌+◌}
use native.Mathlib.Omega.{arith}
use Rattle.rules.specs.Ceilings.{work_words}
use Rattle.rules.specs.Events.{string_at}
use Rattle.doubled.specs.Passes.{props_at}
use Rattle.doubled.specs.Sorted.{chunk_room, key_below}
use Rattle.doubled.proofs.Doubles.{next_here, next_none, looked_start, looked_none, looked_done, looked_hit, looked_miss}
use Rattle.doubled.proofs.Chunks.{finds_some, finds_none}
use Rattle.doubled.specs.Props.{Unmet}
use Rattle.doubled.proofs.props.lookup.Goals as goal

pub loop-index-init : goal.loop-index-init
loop-index-init c = (c.requires.0, λ p. looked_start (key_below c.args.block.now.strings.now c.args.work.now chunk_room) (props_at c.args.block.now.structure.now c.args.block.now.strings.now p c.args.from) c.args.left)

pub returns-in_err-property : goal.returns-in_err-property
returns-in_err-property c =
    let n = next_none c.args.block.now.structure.now c.args.block.now.strings.now c.loop-index.here c.loop-index.invariant.0 c.property_at.result c.property_at.ensures c.in_err-property.was in
    let m : Unmet (key_below c.args.block.now.strings.now c.args.work.now chunk_room) c.args.block.now.structure.now c.args.block.now.strings.now c.args.from c.args.left =
    record { fault = λ p. (looked_none (key_below c.args.block.now.strings.now c.args.work.now chunk_room) (props_at c.args.block.now.structure.now c.args.block.now.strings.now p c.args.from) c.args.left c.loop-index.index (props_at c.args.block.now.structure.now c.args.block.now.strings.now p c.loop-index.here) (c.loop-index.invariant.1 p) (omega arith) (n p)).0; rest = λ p. (looked_none (key_below c.args.block.now.strings.now c.args.work.now chunk_room) (props_at c.args.block.now.structure.now c.args.block.now.strings.now p c.args.from) c.args.left c.loop-index.index (props_at c.args.block.now.structure.now c.args.block.now.strings.now p c.loop-index.here) (c.loop-index.invariant.1 p) (omega arith) (n p)).1 } in
    rw c.from_residual.ensures m

pub find-requires : goal.find-requires
unfolding work_words
find-requires c = (omega (arith, c.requires.1), c.requires.2)

pub returns-then-is_ok : goal.returns-then-is_ok
returns-then-is_ok c =
    let k = next_here c.args.block.now.structure.now c.args.block.now.strings.now c.loop-index.here c.loop-index.invariant.0 c.property_at.result c.property_at.ensures c.in_ok-property.property c.in_ok-property.was in
    let t = finds_some c.args.block.now.strings.now c.args.work.now chunk_room c.string_at-wanted.result.now (string_at c.args.block.now.strings.now c.in_ok-property.property.name) c.find.result c.string_at-wanted.ensures (sym c.is_ok.ensures.value ∙ c.if-is_ok.true) c.find.ensures in
    record {
      inside = omega (arith, k.within, k.inside, k.ahead);
      few = omega arith;
      fault = λ p. (looked_hit (key_below c.args.block.now.strings.now c.args.work.now chunk_room) (props_at c.args.block.now.structure.now c.args.block.now.strings.now p c.args.from) c.args.left c.loop-index.index (props_at c.args.block.now.structure.now c.args.block.now.strings.now p c.loop-index.here) (c.loop-index.invariant.1 p) c.loop-index-test.true (record { place = p + c.in_ok-property.property.at; name = string_at c.args.block.now.strings.now c.in_ok-property.property.name; value = k.value }) _ (k.list p) t).0;
      rest = λ p. (looked_hit (key_below c.args.block.now.strings.now c.args.work.now chunk_room) (props_at c.args.block.now.structure.now c.args.block.now.strings.now p c.args.from) c.args.left c.loop-index.index (props_at c.args.block.now.structure.now c.args.block.now.strings.now p c.loop-index.here) (c.loop-index.invariant.1 p) c.loop-index-test.true (record { place = p + c.in_ok-property.property.at; name = string_at c.args.block.now.strings.now c.in_ok-property.property.name; value = k.value }) _ (k.list p) t).1;
    }

pub loop-index-preserved : goal.loop-index-preserved
loop-index-preserved c =
    let k = next_here c.args.block.now.structure.now c.args.block.now.strings.now c.loop-index.here c.loop-index.invariant.0 c.property_at.result c.property_at.ensures c.in_ok-property.property c.in_ok-property.was in
    let t = finds_none c.args.block.now.strings.now c.args.work.now chunk_room c.string_at-wanted.result.now (string_at c.args.block.now.strings.now c.in_ok-property.property.name) c.find.result c.string_at-wanted.ensures (sym c.is_ok.ensures.value ∙ c.if-is_ok.false) c.find.ensures in
    (k.within, λ p. looked_miss (key_below c.args.block.now.strings.now c.args.work.now chunk_room) (props_at c.args.block.now.structure.now c.args.block.now.strings.now p c.args.from) c.args.left c.loop-index.index (props_at c.args.block.now.structure.now c.args.block.now.strings.now p c.loop-index.here) (c.loop-index.invariant.1 p) c.loop-index-test.true (record { place = p + c.in_ok-property.property.at; name = string_at c.args.block.now.strings.now c.in_ok-property.property.name; value = k.value }) _ (k.list p) t)

pub returns : goal.returns
returns c =
    let e : c.loop-index.index ≡ c.args.left = omega arith in
    record { fault = λ p. (looked_done (key_below c.args.block.now.strings.now c.args.work.now chunk_room) (props_at c.args.block.now.structure.now c.args.block.now.strings.now p c.args.from) c.args.left c.loop-index.index (props_at c.args.block.now.structure.now c.args.block.now.strings.now p c.loop-index.here) (c.loop-index.invariant.1 p) e).0; rest = λ p. (looked_done (key_below c.args.block.now.strings.now c.args.work.now chunk_room) (props_at c.args.block.now.structure.now c.args.block.now.strings.now p c.args.from) c.args.left c.loop-index.index (props_at c.args.block.now.structure.now c.args.block.now.strings.now p c.loop-index.here) (c.loop-index.invariant.1 p) e).1 }
