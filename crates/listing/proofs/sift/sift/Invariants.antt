-- `sift` meets its contract. The invariant: the nodes up to here are sifted.
use Prim.Native.Nat.{◌≤◌}
use Rattle.rules.specs.Laws.Lent.{block_lent}
use Rattle.listing.specs.Sift.{Sifts}
use Rattle.listing.proofs.sift.sift.Given as goal

abbrev pub invariant-loop-i : goal.invariant-loop-i
invariant-loop-i l = (l.i ≤ l.n) × Sifts (block_lent l.block) l.initial.work l.count l.excl l.n l.work l.i l.j
