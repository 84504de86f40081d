-- `named_at` meets its contract.
use mathlib.Core.Path.{◌≡◌, sym, ap, ◌∙◌}
use mathlib.Core.Logic.{inl, inr}
use Prim.Native.Nat.{ℕ, ◌-◌}
use native.Mathlib.Omega.{arith}
use lib.Dec.{eqb}
use lib.ListN.{length, take}
use Rattle.rules.specs.Octets.{same}
use Rattle.rules.proofs.Laws.Octets.{begins_short}
use Rattle.octets.proofs.Slices.{begins_taken}
use Rattle.doubled.proofs.Twins.{not_begun, taken_name}
use Rattle.doubled.proofs.named_at.Goals as goal

pub returns-in_default : goal.returns-in_default
returns-in_default c = sym (not_begun c.args.name.now c.args.tail.now (begins_short c.args.name.now c.args.tail.now
    (elim c.in_default.ensures.lookup.0 [ inl h ↦ absurd (omega arith) | inr h ↦ h ])))

pub returns-then-same_short : goal.returns-then-same_short
returns-then-same_short c =
    let n : length c.args.name.now - 0 ≡ length c.args.name.now = omega arith in
    let e : c.in-Some.here.now ≡ take (length c.args.name.now) c.args.tail.now = c.in-Some.ensures.lookup.0.2 ∙ ap (λ (n : ℕ). take n c.args.tail.now) n in
    ap (λ (n : ℕ). eqb n 0) c.byte.ensures
    ∙ taken_name c.args.name.now c.args.tail.now (sym (ap (same c.args.name.now) e) ∙ sym c.if-same_short.ensures)

pub returns-else-same_short : goal.returns-else-same_short
returns-else-same_short c =
    let n : length c.args.name.now - 0 ≡ length c.args.name.now = omega arith in
    let e : c.in-Some.here.now ≡ take (length c.args.name.now) c.args.tail.now = c.in-Some.ensures.lookup.0.2 ∙ ap (λ (n : ℕ). take n c.args.tail.now) n in
    c.if-same_short.false
    ∙ sym (not_begun c.args.name.now c.args.tail.now (sym (begins_taken c.args.name.now c.args.tail.now) ∙ sym (ap (same c.args.name.now) e) ∙ sym c.if-same_short.ensures))
