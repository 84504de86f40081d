-- `at_fault` meets its contract: one test after the other.
use mathlib.Core.Path.{◌≡◌, sym, ◌∙◌}
use mathlib.Core.Bool.{not, ◌||◌}
use mathlib.Core.List.{[], ◌∷◌}
use lib.Dec.{leb}
use borrow.Author.Tests.{le-leb, lt-leb}
use Rattle.rules.specs.Ceilings.{entry_ceiling, path_ceiling}
use Rattle.rules.specs.Octets.{begins, ascii}
use Rattle.rules.specs.Derivation.{path_at_fault}
use Rattle.given.proofs.at_fault.Goals as goal
use Rattle.given.proofs.at_fault.Goals.{then-many, else-many, then-not-given, else-not-given}

pub returns-then-not-begins : goal.returns-then-not-begins
unfolding path_at_fault entry_ceiling path_ceiling ascii
returns-then-not-begins c =
    let g = c.args.given.now in
    let one : c.if-many.value ≡ (leb 64 c.args.index || not g.closed) = elim c.if-many.branch [
      | then-many w ↦ w.value-is ∙ simp (le-leb _ _ w.if-many.true)
      | else-many w ↦ w.value-is ∙ simp (lt-leb _ _ w.if-many.false)
    ] in
    let two : c.if-not-given.value ≡ (leb 64 c.args.index || not g.closed || not (begins (47 ∷ []) g.path.now)) = elim c.if-not-given.branch [
      | then-not-given w ↦ w.value-is ∙ simp (sym one ∙ w.if-not-given.true, w.if-not-given.true)
      | else-not-given w ↦ w.value-is ∙ simp (sym one ∙ w.if-not-given.false, w.begins.ensures)
    ] in
    simp (sym two ∙ c.if-not-begins.true, c.if-not-begins.true)

pub returns-else-not-begins : goal.returns-else-not-begins
unfolding path_at_fault entry_ceiling path_ceiling ascii
returns-else-not-begins c =
    let g = c.args.given.now in
    let one : c.if-many.value ≡ (leb 64 c.args.index || not g.closed) = elim c.if-many.branch [
      | then-many w ↦ w.value-is ∙ simp (le-leb _ _ w.if-many.true)
      | else-many w ↦ w.value-is ∙ simp (lt-leb _ _ w.if-many.false)
    ] in
    let two : c.if-not-given.value ≡ (leb 64 c.args.index || not g.closed || not (begins (47 ∷ []) g.path.now)) = elim c.if-not-given.branch [
      | then-not-given w ↦ w.value-is ∙ simp (sym one ∙ w.if-not-given.true, w.if-not-given.true)
      | else-not-given w ↦ w.value-is ∙ simp (sym one ∙ w.if-not-given.false, w.begins.ensures)
    ] in
    simp (sym two ∙ c.if-not-begins.false)
