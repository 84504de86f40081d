use native.Mathlib.Omega.{arith}
use Rattle.rules.specs.Laws.Lent.{block_lent}
use Rattle.listing.proofs.Sieved.{sifts_none, sifted}
use Rattle.listing.proofs.sift.sift.Goals as goal

pub loop-i-init : goal.loop-i-init
loop-i-init c =
    let p = c.requires in
    (omega arith, sifts_none (block_lent c.args.block.now) c.args.work.now c.args.count c.args.excl.now c.args.n p.0 p.1 p.2)

pub returns : goal.returns
returns c = sifted (block_lent c.args.block.now) c.args.work.now c.args.count c.args.excl.now c.args.n c.requires.0 c.loop-i.work c.loop-i.i c.loop-i.j c.loop-i.invariant.1 c.loop-i.invariant.0 c.loop-i-test.false
