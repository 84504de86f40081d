-- `lists_judged` meets its contract: one list after the other.
use Rattle.std.proofs.lemmas.Result.{err_from_is_err_and}
use borrow.Author.Tests.{lt-ltb, le-ltb}
use Rattle.rules.specs.Ceilings.{entry_ceiling}
use Rattle.rules.specs.Derivation.{lists_judged}
use Rattle.given.proofs.lists_judged.Goals as goal

pub returns-in_err-paths_judged : goal.returns-in_err-paths_judged
unfolding lists_judged
returns-in_err-paths_judged c =
    let p = err_from_is_err_and c.from_residual.result c.from_residual.ensures.1 in
    rw (p.1, p.2) (simp (← c.in_err-paths_judged.ensures))

pub returns-in_err-paths_judged-2 : goal.returns-in_err-paths_judged-2
unfolding lists_judged
returns-in_err-paths_judged-2 c =
    let p = err_from_is_err_and c.from_residual-in_err-paths_judged-2.result c.from_residual-in_err-paths_judged-2.ensures.1 in
    rw (p.1, p.2) (simp (← c.in_ok-paths_judged.ensures, ← c.in_err-paths_judged-2.ensures))

pub returns-then-request-gt-ENTRY_CEILING : goal.returns-then-request-gt-ENTRY_CEILING
unfolding lists_judged entry_ceiling
returns-then-request-gt-ENTRY_CEILING c = simp (← c.in_ok-paths_judged.ensures, ← c.in_ok-paths_judged-2.ensures, lt-ltb _ _ c.if-request-gt-ENTRY_CEILING.true)

pub returns : goal.returns
unfolding lists_judged entry_ceiling
returns c = simp (← c.in_ok-paths_judged.ensures, ← c.in_ok-paths_judged-2.ensures, le-ltb _ _ c.if-request-gt-ENTRY_CEILING.false)
