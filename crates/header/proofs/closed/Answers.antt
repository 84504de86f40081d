use mathlib.Core.Path.{sym, ap, ◌∙◌}
use mathlib.Core.Bool.{not}
use Prim.Native.Nat.{◌+◌}
use native.Mathlib.Omega.{arith}
use Rattle.rules.proofs.Laws.Blob.{search_starts, search_on, entries_none, entries_here}
use Rattle.header.proofs.closed.Goals as goal

pub loop-at-init : goal.loop-at-init
loop-at-init c = (omega arith, search_starts c.args.blob.now c.args.from c.args.limit)

pub returns-then-zero_pair : goal.returns-then-zero_pair
returns-then-zero_pair c =
    let i = c.loop-at.invariant.1 in
    sym (ap not (sym i.same ∙ entries_here i.fuel c.args.blob.now c.loop-at.at c.args.limit i.left (omega arith) (sym c.zero_pair.ensures ∙ c.if-zero_pair.true)))

pub loop-at-preserved : goal.loop-at-preserved
loop-at-preserved c = (omega arith, search_on c.args.blob.now c.args.from c.args.limit c.loop-at.at c.loop-at.invariant.1 (omega arith) (sym c.zero_pair.ensures ∙ c.if-zero_pair.false))

pub returns : goal.returns
returns c =
    let i = c.loop-at.invariant.1 in
    sym (ap not (sym i.same ∙ entries_none i.fuel c.args.blob.now c.loop-at.at c.args.limit (omega arith)))

-- the last place has no pair
pub returns-else-zero_pair : goal.returns-else-zero_pair
returns-else-zero_pair c =
    let i = search_on c.args.blob.now c.args.from c.args.limit c.loop-at.at c.loop-at.invariant.1 (omega arith) (sym c.zero_pair.ensures ∙ c.if-zero_pair.false) in
    sym (ap not (sym i.same ∙ entries_none i.fuel c.args.blob.now (c.loop-at.at + 16) c.args.limit (omega arith)))
