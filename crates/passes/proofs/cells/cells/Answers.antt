use mathlib.Core.Path.{sym, ◌∙◌}
use native.Mathlib.Omega.{arith}
use Rattle.rules.proofs.Laws.Tokens.{item_ahead}
use Rattle.passes.proofs.Watched.{words_start, words_stop, words_fault, words_go}
use Rattle.rules.specs.Blob.{block_of}
use Rattle.passes.proofs.cells.cells.Goals as goal

pub loop-kind-init : goal.loop-kind-init
loop-kind-init c = (omega arith, words_start c.args.block.now.structure.now c.args.block.now.strings.now)

pub returns : goal.returns
returns c = record { judged = λ p. sym (words_stop (block_of p c.args.block.now.structure.now c.args.block.now.strings.now) c.loop-kind.seen c.loop-kind.at c.loop-kind.invariant.0 c.token_at.result c.token_at.ensures c.in_default.not-Item) ∙ c.loop-kind.invariant.1 p; inside = tt }

pub returns-in_default-after_token : goal.returns-in_default-after_token
returns-in_default-after_token c = record { judged = λ p. sym (words_fault (block_of p c.args.block.now.structure.now c.args.block.now.strings.now) c.loop-kind.seen c.loop-kind.at c.loop-kind.invariant.0 c.token_at.result c.token_at.ensures c.in-Item.kind c.in-Item.next c.in-Item.is c.after_token.result c.after_token.ensures c.in_default-after_token.is) ∙ c.loop-kind.invariant.1 p; inside = omega (arith, item_ahead c.args.block.now.structure.now c.loop-kind.at c.token_at.result c.in-Item.kind c.in-Item.next c.token_at.ensures c.in-Item.is) }

pub loop-kind-smaller : goal.loop-kind-smaller
loop-kind-smaller c = omega (arith, item_ahead c.args.block.now.structure.now c.loop-kind.at c.token_at.result c.in-Item.kind c.in-Item.next c.token_at.ensures c.in-Item.is)

pub loop-kind-preserved : goal.loop-kind-preserved
loop-kind-preserved c = (
  (item_ahead c.args.block.now.structure.now c.loop-kind.at c.token_at.result c.in-Item.kind c.in-Item.next c.token_at.ensures c.in-Item.is).1,
  λ p. words_go (block_of p c.args.block.now.structure.now c.args.block.now.strings.now) c.loop-kind.seen c.loop-kind.at c.loop-kind.invariant.0 c.token_at.result c.token_at.ensures c.in-Item.kind c.in-Item.next c.in-Item.is c.after_token.result c.after_token.ensures c.in-Some.after c.in-Some.is ∙ c.loop-kind.invariant.1 p,
)
