-- `starts` meets its contract. The invariant: the start nodes of number i or more stand in order.
use mathlib.Core.Path.{◌≡◌}
use Prim.Native.Nat.{◌+◌, ◌≤◌}
use lib.ListN.{length}
use Rattle.rules.specs.Laws.Lent.{block_lent}
use Rattle.order.specs.Starts.{Asked, Placed}
use Rattle.order.proofs.starts.Given as goal

abbrev pub invariant-loop-i : goal.invariant-loop-i
invariant-loop-i l =
    record {
      few : l.n + l.i ≤ l.count;
      same : length l.work ≡ length l.initial.work;
      placed : Asked (block_lent l.block) l.initial.work l.count l.conf → Placed (block_lent l.block) l.initial.work l.count l.conf l.i l.n l.work;
    }
