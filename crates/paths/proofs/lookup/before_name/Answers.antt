-- `before_name` meets its contract.
use mathlib.Core.Path.{◌≡◌, ap, ◌∙◌}
use lib.ListN.{length}
use native.Mathlib.Omega.{arith}
use Rattle.std.specs.Prelude.{Bool}
use Rattle.std.specs.Bool.{then_some}
use Rattle.paths.proofs.Endings.{slashed, unslashed}
use Rattle.paths.proofs.lookup.before_name.Goals.{then-slash-eq47, else-slash-eq47}
use Rattle.paths.proofs.lookup.before_name.Goals as goal

pub returns : goal.returns
returns c =
    let p = c.args.p.now in
    let n = c.args.name.now in
    let f = c.split_at.result.0.now in
    let l = c.split_at.result.1.now in
    let h : length l ≡ length n = omega (arith, c.split_at.ensures.back_len, c.in_ok-checked_sub.ensures) in
    let e = c.split_at.ensures.by_index.0 in
    let x = c.in_ok-slash in
    let k = x.ensures.cases.0 in
    let some : (b : Bool) → c.if-slash-eq47.then_some ≡ b → c.then_some.result ≡ then_some b x.front = λ b q. c.then_some.ensures ∙ ap (λ (t : Bool). then_some t x.front) q in
    elim c.if-slash-eq47.branch [
      | then-slash-eq47 w ↦ slashed p n f l e h x.front x.slash.now k w.if-slash-eq47.true w.eq.result w.eq.ensures c.then_some.result (some _ w.then_some-is)
      | else-slash-eq47 w ↦ unslashed p n f l e h x.front x.slash.now k w.if-slash-eq47.false c.then_some.result (some _ w.then_some-is)
    ]
