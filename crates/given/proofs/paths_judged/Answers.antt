use mathlib.Core.Path.{◌≡◌, sym, ap, ◌∙◌}
use Rattle.std.proofs.Common.{arith, inl}
use Prim.Native.Nat.{ℕ}
use lib.ListN.{length}
use Rattle.rules.specs.Derivation.{given, path_at_fault, paths_judged}
use Rattle.given.specs.Entries.{given_path, paths_left}
use Rattle.given.proofs.Turns.{at_done, at_fault, at_good, given_short}
use Rattle.given.proofs.paths_judged.Goals as goal

pub loop-index-init : goal.loop-index-init
loop-index-init c =
    let w = c.into_iter-index-iterator.result in
    let n : w.count ≡ 0 = ap (λ e. e.count) c.into_iter-index-iterator.ensures.into_iter_gives ∙ c.enumerate-index-items.ensures.count in
    let e : paths_left w.iter ≡ given c.args.list.now =
    ap (λ e. paths_left e.iter) c.into_iter-index-iterator.ensures.into_iter_gives ∙ ap paths_left c.enumerate-index-items.ensures.source ∙ c.of.ensures in
    ((tt, tt, inl (omega (arith, n, ap length e, given_short c.args.list.now))), tt, rw (n, e))

pub returns-then-at_fault : goal.returns-then-at_fault
returns-then-at_fault c =
    at_fault (paths_judged 0 (given c.args.list.now)) c.loop-index.index-iterator.count (paths_left c.loop-index.index-iterator.iter) c.loop-index.invariant.2 (given_path c.in-Some.given) (paths_left c.next.new.self.iter) c.in-Some.ensures.steps.0
    (ap (λ (i : ℕ). path_at_fault i (given_path c.in-Some.given)) (sym c.in-Some.ensures.steps.1) ∙ sym c.at_fault.ensures ∙ c.if-at_fault.true)

pub loop-index-preserved : goal.loop-index-preserved
loop-index-preserved c = (
  c.in-Some.ensures.goes.keeps,
  tt,
  at_good (paths_judged 0 (given c.args.list.now)) c.loop-index.index-iterator.count (paths_left c.loop-index.index-iterator.iter) c.loop-index.invariant.2 (given_path c.in-Some.given) (paths_left c.next.new.self.iter) c.in-Some.ensures.steps.0
      (ap (λ (i : ℕ). path_at_fault i (given_path c.in-Some.given)) (sym c.in-Some.ensures.steps.1) ∙ sym c.at_fault.ensures ∙ c.if-at_fault.false)
      ∙ ap (λ (i : ℕ). paths_judged i (paths_left c.next.new.self.iter)) (sym c.in-Some.ensures.steps.2),
)

pub returns : goal.returns
returns c = at_done (paths_judged 0 (given c.args.list.now)) c.loop-index.index-iterator.count (paths_left c.loop-index.index-iterator.iter) c.loop-index.invariant.2 c.in-None.ensures.steps.0.0
