-- `is_cpus` meets its contract: one test after the other.
use mathlib.Core.Path.{◌≡◌, sym, ◌∙◌}
use mathlib.Core.Bool.{not, ◌&&◌}
use lib.Dec.{eqb}
use borrow.Author.Tests.{eq-eqb, ne_eqb}
use Rattle.rules.specs.Octets.{ascii}
use Rattle.rules.specs.Tree.{frame}
use Rattle.rules.specs.Copy.{is_cpus}
use Rattle.rules.specs.Laws.Lent.{tree_lent}
use Rattle.cpus.proofs.children.is_cpus.Goals as goal
use Rattle.cpus.proofs.children.is_cpus.Goals.{then-i-ne0, else-i-ne0}

pub returns-then-up-eq0 : goal.returns-then-up-eq0
unfolding is_cpus ascii
returns-then-up-eq0 c =
    let f = frame (tree_lent c.args.tree.now) in
    let one : c.if-i-ne0.value ≡ (not (eqb c.args.i 0) && eqb (f.up c.args.i) 0) = elim c.if-i-ne0.branch [
      | then-i-ne0 w ↦ w.value-is ∙ simp (ne_eqb _ _ w.if-i-ne0.true, ← w.up.ensures)
      | else-i-ne0 w ↦ w.value-is ∙ simp (eq-eqb _ _ w.if-i-ne0.false)
    ] in
    simp (sym one ∙ c.if-up-eq0.true, ← c.name.ensures) c.same.ensures

pub returns-else-up-eq0 : goal.returns-else-up-eq0
unfolding is_cpus ascii
returns-else-up-eq0 c =
    let f = frame (tree_lent c.args.tree.now) in
    let one : c.if-i-ne0.value ≡ (not (eqb c.args.i 0) && eqb (f.up c.args.i) 0) = elim c.if-i-ne0.branch [
      | then-i-ne0 w ↦ w.value-is ∙ simp (ne_eqb _ _ w.if-i-ne0.true, ← w.up.ensures)
      | else-i-ne0 w ↦ w.value-is ∙ simp (eq-eqb _ _ w.if-i-ne0.false)
    ] in
    simp (sym one ∙ c.if-up-eq0.false, c.if-up-eq0.false)
