-- `clear_marks` meets its contract.
use mathlib.Core.Path.{◌≡◌, ap, ◌∙◌}
use Prim.Native.Nat.{ℕ}
use Rattle.rules.specs.Octets.{lay, zeros}
use Rattle.rules.specs.Space.{marks_at}
use Rattle.rules.proofs.Laws.Constants.{marks_at_lem}
use Rattle.listing.proofs.Gained.{cleared}
use Rattle.listing.proofs.given.clear_marks.Goals as goal

pub returns : goal.returns
returns c =
    let a = c.args in
    let e : c.clear_from.new.d ≡ lay a.work.now marks_at (zeros a.count) = c.clear_from.ensures ∙ ap (λ (k : ℕ). lay a.work.now k (zeros a.count)) marks_at_lem in
    rw e (cleared a.count a.work.now c.requires.0 c.requires.1)
