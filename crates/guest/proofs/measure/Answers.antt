use native.Mathlib.Omega.{arith}
use Rattle.rules.proofs.Laws.Tokens.{item_ahead}
use Rattle.guest.proofs.Counted.{measures_start, measures_low, measures_room, measures_stop, measures_on}
use Rattle.guest.proofs.Closed.{sized_sieved}
use borrow.Enum.Refused.{opened}
use Rattle.guest.proofs.measure.Goals as goal

pub loop-kind-init : goal.loop-kind-init
loop-kind-init c = measures_start c.args.block.now.structure.now c.args.block.now.strings.now c.args.work.now c.requires.2

pub returns : goal.returns
returns c =
    let z = measures_stop c.args.block.now.structure.now c.args.block.now.strings.now c.args.work.now c.loop-kind.work c.loop-kind.at c.loop-kind.walk c.loop-kind.sum c.loop-kind.invariant c.requires.0 c.requires.1 c.token_at.result c.token_at.ensures (opened c.in_default.in_default-own.keys2) in
    let y = measures_low c.args.block.now.structure.now c.args.block.now.strings.now c.args.work.now c.loop-kind.work c.loop-kind.at c.loop-kind.walk c.loop-kind.sum c.loop-kind.invariant c.requires.0 c.requires.1 c.token_at.result c.token_at.ensures in
    record { sized = z; kept = c.loop-kind.invariant.kept; small = (y.structure, y.strings); sieved = λ place ready. sized_sieved place c.args.block.now.structure.now c.args.block.now.strings.now c.args.work.now c.loop-kind.work _ c.loop-kind.invariant.kept z ready }

pub overflow_sub-next : goal.overflow_sub-next
overflow_sub-next c = omega (arith, item_ahead c.args.block.now.structure.now c.loop-kind.at c.token_at.result c.in-Item.kind c.in-Item.next c.token_at.ensures c.in-Item.is)

pub turn-sum-requires : goal.turn-sum-requires
turn-sum-requires c = record { structure_len_bound = (c.requires.0, c.requires.1, measures_room c.args.block.now.structure.now c.args.block.now.strings.now c.args.work.now c.loop-kind.work c.loop-kind.at c.loop-kind.walk c.loop-kind.sum c.loop-kind.invariant c.requires.0 c.requires.1 c.token_at.result c.token_at.ensures c.in-Item.kind c.in-Item.next c.in-Item.is, measures_low c.args.block.now.structure.now c.args.block.now.strings.now c.args.work.now c.loop-kind.work c.loop-kind.at c.loop-kind.walk c.loop-kind.sum c.loop-kind.invariant c.requires.0 c.requires.1 c.token_at.result c.token_at.ensures); collected = c.loop-kind.invariant.tabled }

pub loop-kind-smaller : goal.loop-kind-smaller
loop-kind-smaller c = omega (arith, item_ahead c.args.block.now.structure.now c.loop-kind.at c.token_at.result c.in-Item.kind c.in-Item.next c.token_at.ensures c.in-Item.is)

pub loop-kind-preserved : goal.loop-kind-preserved
loop-kind-preserved c = measures_on c.args.block.now.structure.now c.args.block.now.strings.now c.args.work.now c.loop-kind.work c.loop-kind.at c.loop-kind.walk c.loop-kind.sum c.loop-kind.invariant c.requires.0 c.requires.1 c.token_at.result c.token_at.ensures c.in-Item.kind c.in-Item.next c.in-Item.is _ c.turn-sum.result c.turn-sum.ensures.0 c.turn-sum.ensures.1 c.onward-walk.result c.onward-walk.ensures
