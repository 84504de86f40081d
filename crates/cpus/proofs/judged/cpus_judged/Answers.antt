use mathlib.Core.Path.{sym, ◌∙◌}
use native.Mathlib.Omega.{arith}
use Rattle.rules.specs.Laws.Lent.{block_lent}
use Rattle.cpus.proofs.Searches.{cpus_stop, cpus_on, cpus_last}
use Rattle.cpus.proofs.judged.cpus_judged.Goals as goal

pub returns-then-bare : goal.returns-then-bare
returns-then-bare c =
    let t = c.args.tree.now in
    cpus_stop (block_lent t.block) t.work.now t.count c.loop-i.i c.loop-i-test.true c.loop-i.invariant _ c.cell.ensures (sym c.bare.ensures ∙ c.if-bare.true)

pub loop-i-preserved : goal.loop-i-preserved
loop-i-preserved c =
    let t = c.args.tree.now in
    cpus_on (block_lent t.block) t.work.now t.count c.loop-i.i c.loop-i-test.true c.loop-i.invariant (sym c.bare.ensures ∙ c.if-bare.false)

pub returns : goal.returns
returns c =
    let t = c.args.tree.now in
    cpus_last (block_lent t.block) t.work.now t.count c.loop-i.i (omega (arith, c.loop-i-test.false)) c.loop-i.invariant
