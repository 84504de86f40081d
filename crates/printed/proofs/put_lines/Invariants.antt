-- `put_lines` meets its contract. The invariant: the bytes of the list before the place are laid in, each as a line has it.
use mathlib.Core.Path.{◌≡◌}
use Prim.Native.Nat.{◌-◌, ◌≤◌}
use Rattle.rules.proofs.Laws.Octets.{laid}
use Rattle.printed.specs.Text.{in_lines}
use Rattle.printed.proofs.put_lines.Given as goal

abbrev pub invariant-loop-p : goal.invariant-loop-p
invariant-loop-p l = (l.p - l.at ≤ l.end - l.at) × (l.out ≡ laid l.initial.out l.at (in_lines l.list) (l.p - l.at))
