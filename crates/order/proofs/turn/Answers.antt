-- `turn` meets its contract.
use mathlib.Core.Path.{sym, ◌∙◌}
use native.Mathlib.Omega.{arith}
use Rattle.rules.specs.Laws.Lent.{block_lent}
use Rattle.rules.proofs.Laws.Kept.{node_word}
use Rattle.order.proofs.Turns.{turn_skip, formed_kept, ordered_kept, turn-take}
use Rattle.order.proofs.turn.Goals as goal

pub returns-then-not-within_any : goal.returns-then-not-within_any
returns-then-not-within_any c = record {
  few = omega arith;
  placed = λ ws a p.
      turn_skip (block_lent c.args.block.now) ws c.args.count c.args.conf.now a c.args.i c.args.n c.args.work.now c.requires.0 c.requires.1 p
      (sym c.if-not-within_any.true ∙ c.within_any.ensures);
}

pub overflow_cast-i : goal.overflow_cast-i
overflow_cast-i c = omega (arith, node_word, c.requires)

pub returns : goal.returns
returns c = record {
  few = omega arith;
  placed = λ ws a p.
      let b = block_lent c.args.block.now in
      let o = ordered_kept b ws c.args.count c.args.conf.now a c.args.i c.args.n c.args.work.now c.requires.0 c.requires.1 p in
      let w = formed_kept b ws c.args.count c.args.conf.now a c.args.i c.args.n c.args.work.now c.requires.0 c.requires.1 p in
      turn-take b ws c.args.count c.args.conf.now a c.args.i c.args.n c.args.work.now c.requires.0 c.requires.1 p
      c.rank-at.result c.insert.new.work c.rank-at.ensures.few (c.rank-at.ensures.met w o c.requires.0) c.insert.ensures
      (sym c.if-not-within_any.false ∙ c.within_any.ensures);
}
