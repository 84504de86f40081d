-- `closed` meets its contract. The invariant: the reservations from here on are closed exactly if all are.
use Prim.Native.Nat.{◌<◌}
use Rattle.rules.proofs.Laws.Blob.{Searched}
use Rattle.header.proofs.closed.Given as goal

abbrev pub invariant-loop-at : goal.invariant-loop-at
invariant-loop-at l = (l.at < 4294967296) × Searched l.blob l.from l.limit l.at
