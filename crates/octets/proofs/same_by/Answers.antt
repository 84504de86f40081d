-- `same_by` meets its contract.
use mathlib.Core.Path.{◌≡◌, refl, sym, ap, ◌∙◌}
use mathlib.Core.Bool.{Bool, true, false, not}
use Prim.Native.Nat.{◌-◌}
use native.Mathlib.Omega.{arith}
use lib.Dec.{eqb}
use lib.ListN.{length, take, drop}
use lib.Pointwise.{pointwise}
use borrow.Author.Tests.{le-leb}
use Rattle.rules.specs.Octets.{same}
use Rattle.rules.proofs.Laws.Tests.{never, not_passed}
use Rattle.octets.proofs.Slices.{same_front, same_back, same_length, both_ends}
use Rattle.octets.proofs.same_by.Goals.{then-ne-via-then-ne, then-ne-via-else-ne+then-ne-2}
use Rattle.octets.proofs.same_by.Goals as goal

pub returns-then-a-b : goal.returns-then-a-b
returns-then-a-b g c = sym (not_passed (same c.args.a.now c.args.b.now) (λ e. omega (arith, same_length g.row.N c.args.a.now c.args.b.now e, c.if-a-b.true)))

pub returns-then-ne : goal.returns-then-ne
returns-then-ne g c =
    let a = c.args.a.now in
    let b = c.args.b.now in
    let x = c.in-Some-Some.ensures.cases in
    let y = c.in-Some-Some.ensures'.cases in
    let z = c.in-Some-Some-2.ensures.cases.1 in
    let v = c.in-Some-Some-2.ensures'.cases.1 in
    let apart : (r t : Bool) → (same a b ≡ true → t ≡ true) → r ≡ not t → r ≡ true → false ≡ same a b = λ r t h n k. sym (not_passed (same a b) (λ e. never r k (n ∙ ap not (h e)))) in
    elim c.then-ne.branch [
      | then-ne-via-then-ne w ↦ apart c.ne.result _ (λ e. rw (x.same, y.same) (same_front g.row.N a b e)) c.ne.ensures w.if-ne.true
      | then-ne-via-else-ne+then-ne-2 w ↦ apart w.ne-else-ne.result _ (λ e. rw (z.same, v.same) (same_back g.row.N a b e)) w.ne-else-ne.ensures w.if-ne-2.true
    ]

pub returns-then-a : goal.returns-then-a
returns-then-a g c =
    let a = c.args.a.now in
    let b = c.args.b.now in
    let x = c.in-Some-Some.ensures.cases in
    let y = c.in-Some-Some.ensures'.cases in
    let z = c.in-Some-Some-2.ensures.cases.1 in
    let v = c.in-Some-Some-2.ensures'.cases.1 in
    let p : pointwise eqb (take g.row.N a) (take g.row.N b) ≡ true = rw (x.same, y.same) at (equal _ c.if-ne.ensures) in
    let q : pointwise eqb (drop (length a - g.row.N) a) (drop (length b - g.row.N) b) ≡ true = rw (z.same, v.same) at (equal _ c.if-ne-2.ensures) in
    le-leb _ _ c.if-a.true ∙ sym (both_ends g.row.N a b (omega (arith, c.if-a-b.false)) x.enough (omega (arith, c.if-a.true)) p q)
  where
    equal : (t : Bool) → false ≡ not t → t ≡ true
    equal true e = refl
    equal false e = e
