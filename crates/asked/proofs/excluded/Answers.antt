use mathlib.Core.Path.{◌≡◌, sym, ap, ◌∙◌}
use native.Mathlib.Omega.{arith}
use Rattle.rules.specs.Tree.{frame}
use Rattle.rules.specs.Derivation.{given}
use Rattle.rules.specs.Laws.Lent.{block_lent, tree_lent}
use Rattle.rules.proofs.Laws.Kept.{node_word}
use Rattle.references.specs.Table.{found}
use Rattle.given.specs.Entries.{given_path, paths_left}
use Rattle.given.proofs.Turns.{given_short}
use Rattle.asked.proofs.Turns.{at_small, left_first, left_done, left-some, left-none}
use Rattle.asked.proofs.excluded.Goals as goal

pub loop-given-init : goal.loop-given-init
loop-given-init c =
    let e : paths_left c.into_iter-given-iterator.result ≡ given c.args.list.now = ap paths_left c.into_iter-given-iterator.ensures.into_iter_gives ∙ c.of-given-items.ensures in
    rw e (left_first (frame (tree_lent c.args.tree.now)) c.args.list.now c.args.out.now (given_short c.args.list.now))

pub overflow_cast-i : goal.overflow_cast-i
overflow_cast-i c =
    let t = c.args.tree.now in
    record {
      fits = omega (arith, node_word, at_small (block_lent t.block) t.work.now t.count c.in-Some.given.path.now c.in-Some-node_at.i (sym c.node_at.ensures ∙ ap found c.in-Some-node_at.is), c.requires);
    }

pub loop-given-preserved-in-Some-node_at : goal.loop-given-preserved-in-Some-node_at
loop-given-preserved-in-Some-node_at c =
    left-some (frame (tree_lent c.args.tree.now)) c.args.list.now c.args.out.now c.loop-given.out (paths_left c.loop-given.given-iterator) c.loop-given.n c.loop-given.invariant
    (given_path c.in-Some.given) (paths_left c.next.new.self) c.in-Some.ensures.steps c.in-Some-node_at.i (sym c.node_at.ensures ∙ ap found c.in-Some-node_at.is) _ c.put_word_of.ensures

pub loop-given-preserved : goal.loop-given-preserved
loop-given-preserved c =
    left-none (frame (tree_lent c.args.tree.now)) c.args.list.now c.args.out.now c.loop-given.out (paths_left c.loop-given.given-iterator) c.loop-given.n c.loop-given.invariant
    (given_path c.in-Some.given) (paths_left c.next.new.self) c.in-Some.ensures.steps (sym c.node_at.ensures ∙ ap found c.in_default.is)

pub returns : goal.returns
returns c =
    let r = left_done (frame (tree_lent c.args.tree.now)) c.args.list.now c.args.out.now c.loop-given.out (paths_left c.loop-given.given-iterator) c.loop-given.n c.loop-given.invariant c.in-None.ensures.steps.0 in
    record { value = r.0; out_after = r.1 }
