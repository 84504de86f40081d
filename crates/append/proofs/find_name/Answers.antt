use mathlib.Core.Path.{sym, ◌∙◌}
use native.Mathlib.Omega.{arith}
use lib.ListN.{drop, length-drop}
use lib.Seq.{drop-drop}
use Rattle.rules.proofs.Laws.Octets.{take_rest}
use Rattle.rules.proofs.Laws.Writer.{name_here, name_past, name_nowhere, offset_le}
use Rattle.append.proofs.find_name.Goals as goal

pub returns-then-closed_here : goal.returns-then-closed_here
returns-then-closed_here c =
    let s = c.args.strings.now in
    let name = c.args.name.now in
    let at = c.loop-at.at in
    let e = sym (rw (take_rest at s) at c.closed_here.ensures) ∙ c.if-closed_here.true in
    omega (arith, c.loop-at.invariant.1, name_here name (drop at s) (omega (arith, length-drop at s)) e)

pub returns-then-strings-at : goal.returns-then-strings-at
returns-then-strings-at c =
    let s = c.args.strings.now in
    let name = c.args.name.now in
    let at = c.loop-at.at in
    let e = sym (rw (take_rest at s) at c.closed_here.ensures) ∙ c.if-closed_here.false in
    let l = length-drop at s in
    omega (arith, c.loop-at.invariant.1, name_nowhere name (drop at s) e (omega (arith, c.if-strings-at.true, c.nul-n.ensures)))

pub loop-at-preserved : goal.loop-at-preserved
loop-at-preserved c =
    let s = c.args.strings.now in
    let name = c.args.name.now in
    let at = c.loop-at.at in
    let e = sym (rw (take_rest at s) at c.closed_here.ensures) ∙ c.if-closed_here.false in
    let l = length-drop at s in
    let past = name_past name (drop at s) e (omega (arith, c.if-strings-at.false, c.nul-n.ensures)) in
    (omega arith, omega (arith, c.loop-at.invariant.1, rw (← c.nul-n.ensures, drop-drop) at past))

pub returns : goal.returns
returns c =
    let s = c.args.strings.now in
    let name = c.args.name.now in
    let at = c.loop-at.at in
    omega (arith, c.loop-at.invariant.1, offset_le name (drop at s), length-drop at s)
