-- `cpu_child` meets its contract: one test after the other.
use mathlib.Core.Path.{◌≡◌, ap, sym, ◌∙◌}
use mathlib.Core.Bool.{true, false}
use Rattle.rules.specs.Tree.{frame}
use Rattle.rules.specs.Copy.{is_cpus, cpu_child}
use Rattle.rules.specs.Laws.Lent.{tree_lent}
use Rattle.cpus.proofs.children.cpu_child.Goals as goal

pub returns-then-is_cpus : goal.returns-then-is_cpus
unfolding cpu_child
returns-then-is_cpus c =
    let f = frame (tree_lent c.args.tree.now) in
    let one : is_cpus f (f.up c.args.i) ≡ true = ap (is_cpus f) (sym c.up.ensures) ∙ sym c.is_cpus.ensures ∙ c.if-is_cpus.true in
    simp (one, ← c.name.ensures) c.names_cpu.ensures

pub returns-else-is_cpus : goal.returns-else-is_cpus
unfolding cpu_child
returns-else-is_cpus c =
    let f = frame (tree_lent c.args.tree.now) in
    let one : is_cpus f (f.up c.args.i) ≡ false = ap (is_cpus f) (sym c.up.ensures) ∙ sym c.is_cpus.ensures ∙ c.if-is_cpus.false in
    simp (one, c.if-is_cpus.false)
