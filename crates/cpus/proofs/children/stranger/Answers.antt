-- `stranger` meets its contract.
use mathlib.Core.Path.{refl, sym, ap, ◌∙◌}
use mathlib.Core.Bool.{not}
use mathlib.Core.Option.{Option, some, none}
use Prim.Native.Nat.{ℕ}
use Rattle.rules.specs.Tree.{node, frame}
use Rattle.rules.specs.Copy.{cpu_child, reg_of, is_id, stranger}
use Rattle.rules.specs.Laws.Lent.{tree_lent}
use Rattle.cpus.specs.Registers.{meaning}
use Rattle.cpus.proofs.Searches.{no_child, the_child}
use Rattle.cpus.proofs.children.stranger.Goals as goal

pub returns-then-not-cpu_child : goal.returns-then-not-cpu_child
unfolding stranger
returns-then-not-cpu_child c =
    let t = tree_lent c.args.tree.now in
    sym (no_child (cpu_child (frame t) c.args.i) (λ (o : Option ℕ). not (is_id c.args.ids.now o)) (reg_of (node t c.args.i)) (sym c.cpu_child.ensures ∙ c.if-not-cpu_child.true))

pub returns-in-Some : goal.returns-in-Some
unfolding stranger
returns-in-Some c =
    let t = tree_lent c.args.tree.now in
    the_child (cpu_child (frame t) c.args.i) (λ (o : Option ℕ). not (is_id c.args.ids.now o)) (reg_of (node t c.args.i)) (sym c.cpu_child.ensures ∙ c.if-not-cpu_child.false) (some c.in-Some.n) (sym (ap meaning c.in-Some.is) ∙ c.reg_at.ensures) _ (ap not c.is_id.ensures)

pub returns-in-None : goal.returns-in-None
unfolding stranger
returns-in-None c =
    let t = tree_lent c.args.tree.now in
    the_child (cpu_child (frame t) c.args.i) (λ (o : Option ℕ). not (is_id c.args.ids.now o)) (reg_of (node t c.args.i)) (sym c.cpu_child.ensures ∙ c.if-not-cpu_child.false) none (sym (ap meaning c.in-None.is) ∙ c.reg_at.ensures) _ refl
