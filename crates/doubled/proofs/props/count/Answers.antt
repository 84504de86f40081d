use mathlib.Core.Path.{ap}
use mathlib.Core.List.{[]}
use native.Mathlib.Omega.{arith}
use lib.ListN.{length}
use Rattle.doubled.proofs.Doubles.{next_here, next_none}
use Rattle.doubled.proofs.props.count.Goals as goal

pub overflow_add-n : goal.overflow_add-n
overflow_add-n c =
    let k = next_here c.args.structure.now [] c.loop-property.at c.loop-property.invariant.0 c.property_at.result c.property_at.ensures c.in-Some.property c.in-Some.is in
    omega (arith, k.within, k.inside, k.ahead)

pub loop-property-smaller : goal.loop-property-smaller
loop-property-smaller c =
    let k = next_here c.args.structure.now [] c.loop-property.at c.loop-property.invariant.0 c.property_at.result c.property_at.ensures c.in-Some.property c.in-Some.is in
    omega (arith, k.within, k.inside, k.ahead)

pub loop-property-preserved : goal.loop-property-preserved
loop-property-preserved c =
    let k = next_here c.args.structure.now [] c.loop-property.at c.loop-property.invariant.0 c.property_at.result c.property_at.ensures c.in-Some.property c.in-Some.is in
    (k.within, omega (arith, k.inside, k.ahead), λ strings p. omega (arith, c.loop-property.invariant.2 strings p, ap length ((next_here c.args.structure.now strings c.loop-property.at c.loop-property.invariant.0 c.property_at.result c.property_at.ensures c.in-Some.property c.in-Some.is).list p)))

pub returns : goal.returns
returns c = λ strings p. omega (arith, c.loop-property.invariant.2 strings p, ap length (next_none c.args.structure.now strings c.loop-property.at c.loop-property.invariant.0 c.property_at.result c.property_at.ensures c.in_default.is p))
