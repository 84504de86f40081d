-- `each` meets its contract. The invariant: the first i nodes have had their turn.
use mathlib.Core.Path.{◌≡◌}
use mathlib.Core.List.{List}
use Prim.Native.Nat.{ℕ, ◌≤◌}
use lib.ListN.{length}
use Rattle.rules.specs.Laws.Kept.{Kept}
use Rattle.rules.specs.Laws.Tabled.{tree_in}
use Rattle.picks.specs.Marks.{Noted}
use Rattle.picks.specs.Turns.{Coded}
use Rattle.rules.specs.Laws.Lent.{block_lent}
use Rattle.rules.specs.Space.{list_in}
use Rattle.picks.proofs.each.Given as goal

abbrev pub invariant-loop-i : goal.invariant-loop-i
invariant-loop-i l =
    (l.i ≤ l.count) × (length l.work ≡ length l.initial.work)
    × ((ws : List ℕ) (n : ℕ) → Kept (block_lent l.block) ws l.count → Noted l.count ws l.initial.work (list_in ws n)
    → Coded (tree_in (block_lent l.block) ws l.count) l.count l.excl l.ids (list_in ws n) ws l.work l.i)
