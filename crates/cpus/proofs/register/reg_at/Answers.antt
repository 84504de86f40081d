-- `reg_at` meets its contract.
use mathlib.Core.Path.{ap, ◌∙◌}
use Prim.Native.Nat.{ℕ}
use native.Mathlib.Omega.{arith}
use Rattle.rules.specs.Laws.Lent.{block_lent}
use Rattle.rules.specs.Laws.Tabled.{props_at}
use Rattle.cpus.specs.Registers.{meaning, reg_in}
use Rattle.cpus.proofs.Registers.{reg_past, reg_row}
use Rattle.cpus.proofs.register.reg_at.Goals as goal

pub returns-then-tree-i : goal.returns-then-tree-i
returns-then-tree-i c =
    let t = c.args.tree.now in
    reg_past (block_lent t.block) t.work.now t.count c.args.i c.if-tree-i.true

pub returns : goal.returns
returns c =
    let t = c.args.tree.now in
    reg_row (block_lent t.block) t.work.now t.count c.args.i (omega (arith, c.if-tree-i.false)) (meaning c.reg_of.result)
    (c.reg_of.ensures ∙ ap (λ (k : ℕ). reg_in (props_at (block_lent t.block) k)) c.begin_of.ensures)
