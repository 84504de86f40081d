use Prim.Native.Nat.{◌+◌, ◌-◌}
use native.Mathlib.Omega.{arith}
use native.Mathlib.Nat.{sub-zero}
use Rattle.rules.specs.Laws.Lent.{tree_lent}
use Rattle.paths.proofs.Climbs.{spell_none, spell_root}
use Rattle.paths.proofs.Spellings.{laid_start, laid_room, laid_on, laid_end}
use Rattle.paths.proofs.spelling.spell.Goals as goal

pub loop-init : goal.loop-init
loop-init c = rw sub-zero (laid_start (tree_lent c.args.tree.now) c.args.i c.path_len-end.result c.args.at c.put_behind.new.out c.if-i-eq0.false c.path_len-end.ensures)

pub returns-then-node-eq0 : goal.returns-then-node-eq0
returns-then-node-eq0 c =
    let t = tree_lent c.args.tree.now in
    laid_end t c.args.i (c.args.i - c.loop.counter) c.loop.node c.loop.end c.args.at c.put_behind.new.out c.loop.out c.loop.invariant
    (spell_root t (c.args.i - c.loop.counter) c.loop.node c.if-node-eq0.true) c.args.out.now c.path_len-end.result c.path_len-end.ensures c.put_behind.ensures

pub overflow_sub-end : goal.overflow_sub-end
overflow_sub-end c =
    omega (
      arith,
      laid_room (tree_lent c.args.tree.now) c.args.i (c.args.i - c.loop.counter) c.loop.node c.loop.end c.args.at c.put_behind.new.out c.loop.out c.loop.invariant
          (c.args.i - (c.loop.counter + 1)) (omega arith) c.if-node-eq0.false c.name-last.result.now c.name-last.ensures,
    )

pub overflow_sub-end-in-loop : goal.overflow_sub-end-in-loop
overflow_sub-end-in-loop c =
    omega (
      arith,
      laid_room (tree_lent c.args.tree.now) c.args.i (c.args.i - c.loop.counter) c.loop.node c.loop.end c.args.at c.put_behind.new.out c.loop.out c.loop.invariant
          (c.args.i - (c.loop.counter + 1)) (omega arith) c.if-node-eq0.false c.name-last.result.now c.name-last.ensures,
    )

pub loop-preserved : goal.loop-preserved
loop-preserved c =
    laid_on (tree_lent c.args.tree.now) c.args.i (c.args.i - c.loop.counter) c.loop.node c.loop.end c.args.at c.put_behind.new.out c.loop.out c.loop.invariant
    (c.args.i - (c.loop.counter + 1)) (omega arith) c.if-node-eq0.false c.name-last.result.now c.name-last.ensures c.up-node.result c.up-node.ensures
    c.put_behind-in-loop.new.out c.put_behind-in-loop-2.new.out c.put_behind-in-loop.ensures c.put_behind-in-loop-2.ensures

pub returns : goal.returns
returns c =
    let t = tree_lent c.args.tree.now in
    laid_end t c.args.i (c.args.i - c.loop.counter) c.loop.node c.loop.end c.args.at c.put_behind.new.out c.loop.out c.loop.invariant
    (spell_none t (c.args.i - c.loop.counter) c.loop.node (omega arith)) c.args.out.now c.path_len-end.result c.path_len-end.ensures c.put_behind.ensures
