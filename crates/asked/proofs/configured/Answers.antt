use mathlib.Core.Path.{◌≡◌, sym, ap, ◌∙◌}
use native.Mathlib.Omega.{arith}
use Rattle.rules.specs.Tree.{frame}
use Rattle.rules.specs.Derivation.{given}
use Rattle.rules.specs.Laws.Lent.{block_lent, tree_lent}
use Rattle.rules.proofs.Laws.Kept.{node_word}
use Rattle.references.specs.Table.{found}
use Rattle.given.specs.Entries.{given_path, paths_left}
use Rattle.asked.proofs.Turns.{at_small, rest_first, rest-done, rest-none, rest-again, rest-new}
use Rattle.asked.proofs.configured.Goals as goal

pub loop-given-init : goal.loop-given-init
loop-given-init c =
    let e : paths_left c.into_iter-given-iterator.result ≡ given c.args.list.now = ap paths_left c.into_iter-given-iterator.ensures.into_iter_gives ∙ c.of-given-items.ensures in
    rw e (rest_first (frame (tree_lent c.args.tree.now)) c.args.list.now c.args.out.now c.requires.list_in_bounds)

pub returns-in_default : goal.returns-in_default
returns-in_default c =
    let r = rest-none (frame (tree_lent c.args.tree.now)) c.args.list.now c.args.out.now c.loop-given.out (paths_left c.loop-given.given-iterator) c.loop-given.n c.loop-given.invariant
    (given_path c.in-Some.given) (paths_left c.next.new.self) c.in-Some.ensures.steps (sym c.node_at.ensures ∙ ap found c.in_default.is) in
    record { result_value = r.0; out_after = r.1 }

pub returns-then-one_of : goal.returns-then-one_of
returns-then-one_of c =
    let r = rest-again (frame (tree_lent c.args.tree.now)) c.args.list.now c.args.out.now c.loop-given.out (paths_left c.loop-given.given-iterator) c.loop-given.n c.loop-given.invariant
    (given_path c.in-Some.given) (paths_left c.next.new.self) c.in-Some.ensures.steps c.in-Some-node_at.i (sym c.node_at.ensures ∙ ap found c.in-Some-node_at.is) (sym c.one_of.ensures ∙ c.if-one_of.true) in
    record { result_value = r.0; out_after = r.1 }

pub overflow_cast-i : goal.overflow_cast-i
overflow_cast-i c =
    let t = c.args.tree.now in
    record {
      fits = omega (arith, node_word, at_small (block_lent t.block) t.work.now t.count c.in-Some.given.path.now c.in-Some-node_at.i (sym c.node_at.ensures ∙ ap found c.in-Some-node_at.is), c.requires.count_le_node_ceiling);
    }

pub loop-given-preserved : goal.loop-given-preserved
loop-given-preserved c =
    rest-new (frame (tree_lent c.args.tree.now)) c.args.list.now c.args.out.now c.loop-given.out (paths_left c.loop-given.given-iterator) c.loop-given.n c.loop-given.invariant
    (given_path c.in-Some.given) (paths_left c.next.new.self) c.in-Some.ensures.steps c.in-Some-node_at.i (sym c.node_at.ensures ∙ ap found c.in-Some-node_at.is) (sym c.one_of.ensures ∙ c.if-one_of.false) _ c.put_word_of.ensures

pub returns : goal.returns
returns c =
    let r = rest-done (frame (tree_lent c.args.tree.now)) c.args.list.now c.args.out.now c.loop-given.out (paths_left c.loop-given.given-iterator) c.loop-given.n c.loop-given.invariant c.in-None.ensures.steps.0 in
    record { result_value = r.0; out_after = r.1 }
