-- `decimal` meets its contract. The invariant: the digits from here on, behind the number so far, say what all of them say.
use mathlib.Core.Path.{◌≡◌}
use Prim.Native.Nat.{◌^◌, ◌<◌}
use lib.ListN.{drop}
use Rattle.rules.specs.Program.{decimal_said}
use Rattle.rules.proofs.Laws.Program.{decimal_from}
use Rattle.request.proofs.decimal.Given as goal

abbrev pub invariant-loop-b : goal.invariant-loop-b
invariant-loop-b l = (l.n < 2 ^ 64) × (decimal_said l.digits ≡ decimal_from l.n (drop l.b-index l.digits))
