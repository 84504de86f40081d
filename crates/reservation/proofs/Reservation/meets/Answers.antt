-- `meets` meets its contract: the sum in the rule is a difference in the code, which cannot wrap.
use mathlib.Core.Path.{sym, ◌∙◌}
use Prim.Native.Nat.{◌+◌, ◌-◌}
use native.Mathlib.Omega.{arith}
use Rattle.rules.proofs.Laws.Tests.{ltb_cong}
use Rattle.rules.proofs.Laws.Reservations.{meets_up, meets_down}
use Rattle.reservation.specs.Made.{entry_of}
use Rattle.reservation.proofs.Reservation.meets.Goals as goal

pub returns-then-self-later : goal.returns-then-self-later
returns-then-self-later c =
    ltb_cong (c.args.later.address - c.args.self.address) c.args.self.size c.args.later.address (c.args.self.address + c.args.self.size) (λ h. omega arith) (λ h. omega arith)
    ∙ sym (meets_up (entry_of c.args.self) (entry_of c.args.later) c.if-self-later.true)

pub returns : goal.returns
returns c =
    ltb_cong (c.args.self.address - c.args.later.address) c.args.later.size c.args.self.address (c.args.later.address + c.args.later.size) (λ h. omega arith) (λ h. omega arith)
    ∙ sym (meets_down (entry_of c.args.self) (entry_of c.args.later) c.if-self-later.false)
