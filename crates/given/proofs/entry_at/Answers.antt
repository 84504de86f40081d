-- `entry_at` meets its contract.
use Prim.Native.Nat.{◌-◌, ◌≤◌, ◌<◌}
use native.Mathlib.Omega.{arith}
use lib.ListN.{length}
use borrow.Author.Tests.{lt-ltb, le-ltb}
use Rattle.rules.proofs.Laws.Given.{given_inside}
use Rattle.given.specs.Entries.{path_of, entry_at}
use Rattle.given.proofs.entry_at.Goals as goal

pub returns-then-list-at : goal.returns-then-list-at
unfolding entry_at
returns-then-list-at c = simp (le-ltb _ _ c.if-list-at.true)

pub overflow_add-end : goal.overflow_add-end
overflow_add-end c = omega (arith, c.nul-len.ensures, given_inside c.args.list.now c.args.at c.if-list-at.false)

pub returns-then-closed : goal.returns-then-closed
unfolding entry_at path_of
returns-then-closed c =
    let h : c.nul-len.result < length c.args.list.now - c.args.at = omega arith in
    simp (lt-ltb _ _ c.if-closed.true, lt-ltb _ _ c.if-list-at.false, ← c.nul-len.ensures, lt-ltb _ _ h)

pub returns-else-closed : goal.returns-else-closed
unfolding entry_at path_of
returns-else-closed c =
    let h : length c.args.list.now - c.args.at ≤ c.nul-len.result = omega arith in
    simp (le-ltb _ _ c.if-closed.false, lt-ltb _ _ c.if-list-at.false, ← c.nul-len.ensures, le-ltb _ _ h)
