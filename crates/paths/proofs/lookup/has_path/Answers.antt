use mathlib.Core.Path.{◌≡◌, sym, ap, ◌∙◌}
use mathlib.Core.List.{[]}
use Prim.Native.Nat.{ℕ, ◌+◌, ◌-◌}
use native.Mathlib.Omega.{arith}
use Rattle.std.specs.Prelude.{None, Some}
use Rattle.rules.specs.Octets.{Bytes, same}
use Rattle.rules.specs.Tree.{spell, node}
use Rattle.rules.specs.Laws.Lent.{tree_lent}
use Rattle.paths.proofs.Climbs.{spell_none, spell_root, spell_step}
use Rattle.paths.proofs.Endings.{Fronts, fronts_not, fronts_on, same_none}
use Rattle.paths.proofs.lookup.has_path.Goals.{else-loop-test, then-loop-test+then-at-eq0}
use Rattle.paths.proofs.lookup.has_path.Goals as goal

pub returns-in_default : goal.returns-in_default
returns-in_default c =
    let t = tree_lent c.args.tree.now in
    let on : ℕ = c.args.i - (c.loop.counter + 1) in
    let rest = c.loop.rest.now in
    let h : Fronts rest (node t c.loop.at).name None = rw c.name.ensures at c.in_default.ensures in
    sym (c.loop.invariant
    ∙ ap (λ (x : Bytes). same x rest) (spell_step t (c.args.i - c.loop.counter) on c.loop.at (omega arith) c.if-at-eq0.false)
    ∙ fronts_not rest (node t c.loop.at).name (spell t on (node t c.loop.at).parent) h)

pub loop-preserved : goal.loop-preserved
loop-preserved c =
    let t = tree_lent c.args.tree.now in
    let on : ℕ = c.args.i - (c.loop.counter + 1) in
    let rest = c.loop.rest.now in
    let h : Fronts rest (node t c.loop.at).name (Some c.in-Some.front) = rw c.name.ensures at c.in-Some.ensures in
    c.loop.invariant
    ∙ ap (λ (x : Bytes). same x rest) (spell_step t (c.args.i - c.loop.counter) on c.loop.at (omega arith) c.if-at-eq0.false)
    ∙ fronts_on rest (node t c.loop.at).name (spell t on (node t c.loop.at).parent) c.in-Some.front h
    ∙ ap (λ (m : ℕ). same (spell t on m) c.in-Some.front.now) (sym c.up-at.ensures)

pub returns : goal.returns
returns c =
    let t = tree_lent c.args.tree.now in
    let k : ℕ = c.args.i - c.loop.counter in
    let none : spell t k c.loop.at ≡ [] = elim c.loop-test.branch [
      | else-loop-test w ↦ spell_none t k c.loop.at (omega arith)
      | then-loop-test+then-at-eq0 w ↦ spell_root t k c.loop.at w.if-at-eq0.true
    ] in
    c.is_empty.ensures ∙ sym (c.loop.invariant ∙ ap (λ (x : Bytes). same x c.loop.rest.now) none ∙ same_none c.loop.rest.now)
