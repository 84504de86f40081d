use mathlib.Core.Path.{refl, sym, ◌∙◌}
use native.Mathlib.Omega.{arith}
use Rattle.rules.proofs.Laws.Tokens.{item_ahead}
use Rattle.rules.specs.Blob.{block_of}
use Rattle.passes.proofs.Phandles.{rows_start, rows_stop, rows_fault, rows_go, turn_number}
use Rattle.passes.proofs.shared.shared.Goals as goal

pub loop-kind-init : goal.loop-kind-init
loop-kind-init c = (omega arith, omega arith, refl, rows_start c.args.block.now.structure.now c.args.block.now.strings.now c.args.work.now)

pub row_turn-requires : goal.row_turn-requires
row_turn-requires c = omega (arith, item_ahead c.args.block.now.structure.now c.loop-kind.at c.token_at.result c.in-Item.kind c.in-Item.next c.token_at.ensures c.in-Item.is)

pub returns-in_default-row_turn : goal.returns-in_default-row_turn
returns-in_default-row_turn c = record { judged = λ p. sym (rows_fault (block_of p c.args.block.now.structure.now c.args.block.now.strings.now) c.loop-kind.search c.loop-kind.work c.loop-kind.at c.loop-kind.invariant.0 c.token_at.result c.token_at.ensures c.in-Item.kind c.in-Item.next c.in-Item.is c.row_turn.result c.row_turn.new.work c.row_turn.ensures c.in_default-row_turn.is) ∙ c.loop-kind.invariant.3 p; inside = omega (arith, item_ahead c.args.block.now.structure.now c.loop-kind.at c.token_at.result c.in-Item.kind c.in-Item.next c.token_at.ensures c.in-Item.is) }

pub loop-kind-smaller : goal.loop-kind-smaller
loop-kind-smaller c = omega (arith, item_ahead c.args.block.now.structure.now c.loop-kind.at c.token_at.result c.in-Item.kind c.in-Item.next c.token_at.ensures c.in-Item.is)

pub loop-kind-preserved : goal.loop-kind-preserved
loop-kind-preserved c = (
  (item_ahead c.args.block.now.structure.now c.loop-kind.at c.token_at.result c.in-Item.kind c.in-Item.next c.token_at.ensures c.in-Item.is).1,
  omega (arith, item_ahead c.args.block.now.structure.now c.loop-kind.at c.token_at.result c.in-Item.kind c.in-Item.next c.token_at.ensures c.in-Item.is, turn_number c.args.block.now.structure.now c.args.block.now.strings.now c.in-Item.kind c.loop-kind.search c.loop-kind.work c.row_turn.result c.row_turn.new.work c.in-Some.behind c.row_turn.ensures c.in-Some.is),
  c.row_turn.auto.work ∙ c.loop-kind.invariant.2,
  λ p. rows_go (block_of p c.args.block.now.structure.now c.args.block.now.strings.now) c.loop-kind.search c.loop-kind.work c.loop-kind.at c.loop-kind.invariant.0 c.token_at.result c.token_at.ensures c.in-Item.kind c.in-Item.next c.in-Item.is c.row_turn.result c.row_turn.new.work c.row_turn.ensures c.in-Some.behind c.in-Some.is ∙ c.loop-kind.invariant.3 p,
)

pub returns : goal.returns
returns c = record { judged = λ p. sym (rows_stop (block_of p c.args.block.now.structure.now c.args.block.now.strings.now) c.loop-kind.search c.loop-kind.work c.loop-kind.at c.loop-kind.invariant.0 c.token_at.result c.token_at.ensures c.in_default.not-Item) ∙ c.loop-kind.invariant.3 p; inside = tt }
