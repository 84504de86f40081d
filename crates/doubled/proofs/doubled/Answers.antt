use mathlib.Core.Path.{refl, ◌∙◌}
use native.Mathlib.Omega.{arith}
use Rattle.rules.proofs.Laws.Tokens.{item_ahead}
use Rattle.doubled.specs.Passes.{nodes_in}
use Rattle.doubled.proofs.Twins.{come_start, come_stop, come-begin, come-fault, come_past, table_clear, node_back, kept_back}
use Rattle.doubled.proofs.doubled.Goals as goal

pub loop-kind-init : goal.loop-kind-init
loop-kind-init c = (omega arith, omega arith, refl, λ z. (refl, come_start c.args.block.now.structure.now c.args.block.now.strings.now c.args.block.now.place c.args.work.now))

pub node-requires : goal.node-requires
node-requires c =
    let h = item_ahead c.args.block.now.structure.now c.loop-kind.at c.token_at.result c.in-Item.kind c.in-Item.next c.token_at.ensures c.in-Item.is in
    (omega (arith, h.0, h.1), h.1)

pub returns-in-Some : goal.returns-in-Some
returns-in-Some c = record { judged = λ z. come-fault c.args.block.now.structure.now c.args.block.now.strings.now c.args.block.now.place c.args.work.now c.loop-kind.at c.loop-kind.count c.loop-kind.invariant.0 c.token_at.result c.token_at.ensures (c.loop-kind.invariant.3 z).1 c.in-Item.kind c.in-Item.next c.in-Item.is z c.in-Begin.len c.in-Begin.is c.node.result _ c.in-Some.is (node_back c.args.block.now.structure.now c.args.block.now.strings.now c.args.block.now.place c.args.work.now c.loop-kind.work c.loop-kind.count c.loop-kind.at c.in-Begin.len c.in-Item.next c.node.result (c.loop-kind.invariant.3 z).0 (table_clear c.args.work.now (nodes_in c.args.block.now.structure.now c.args.block.now.strings.now c.args.block.now.place) z).room (λ h. c.node.ensures.judged h c.args.block.now.place)); inside = c.in-Some.ensures.inside; kept = λ z. kept_back c.args.work.now c.loop-kind.work c.node.new.work (c.loop-kind.invariant.3 z).0 (table_clear c.args.work.now (nodes_in c.args.block.now.structure.now c.args.block.now.strings.now c.args.block.now.place) z) c.node.ensures.kept }

pub overflow_add-count : goal.overflow_add-count
overflow_add-count c = omega (arith, item_ahead c.args.block.now.structure.now c.loop-kind.at c.token_at.result c.in-Item.kind c.in-Item.next c.token_at.ensures c.in-Item.is)

pub loop-kind-smaller-in_default-node : goal.loop-kind-smaller-in_default-node
loop-kind-smaller-in_default-node c = omega (arith, item_ahead c.args.block.now.structure.now c.loop-kind.at c.token_at.result c.in-Item.kind c.in-Item.next c.token_at.ensures c.in-Item.is)

pub loop-kind-preserved-in_default-node : goal.loop-kind-preserved-in_default-node
loop-kind-preserved-in_default-node c =
    let h = item_ahead c.args.block.now.structure.now c.loop-kind.at c.token_at.result c.in-Item.kind c.in-Item.next c.token_at.ensures c.in-Item.is in
    (h.1, omega (arith, h.0), c.node.auto.work ∙ c.loop-kind.invariant.2, λ z. (kept_back c.args.work.now c.loop-kind.work c.node.new.work (c.loop-kind.invariant.3 z).0 (table_clear c.args.work.now (nodes_in c.args.block.now.structure.now c.args.block.now.strings.now c.args.block.now.place) z) c.node.ensures.kept, come-begin c.args.block.now.structure.now c.args.block.now.strings.now c.args.block.now.place c.args.work.now c.loop-kind.at c.loop-kind.count c.loop-kind.invariant.0 c.token_at.result c.token_at.ensures (c.loop-kind.invariant.3 z).1 c.in-Item.kind c.in-Item.next c.in-Item.is z c.in-Begin.len c.in-Begin.is c.node.result c.in_default-node.is (node_back c.args.block.now.structure.now c.args.block.now.strings.now c.args.block.now.place c.args.work.now c.loop-kind.work c.loop-kind.count c.loop-kind.at c.in-Begin.len c.in-Item.next c.node.result (c.loop-kind.invariant.3 z).0 (table_clear c.args.work.now (nodes_in c.args.block.now.structure.now c.args.block.now.strings.now c.args.block.now.place) z).room (λ h. c.node.ensures.judged h c.args.block.now.place))))

pub loop-kind-smaller : goal.loop-kind-smaller
loop-kind-smaller c = omega (arith, item_ahead c.args.block.now.structure.now c.loop-kind.at c.token_at.result c.in-Item.kind c.in-Item.next c.token_at.ensures c.in-Item.is)

pub loop-kind-preserved : goal.loop-kind-preserved
loop-kind-preserved c =
    let h = item_ahead c.args.block.now.structure.now c.loop-kind.at c.token_at.result c.in-Item.kind c.in-Item.next c.token_at.ensures c.in-Item.is in
    (h.1, omega (arith, h.0), c.loop-kind.invariant.2, λ z. ((c.loop-kind.invariant.3 z).0, come_past c.args.block.now.structure.now c.args.block.now.strings.now c.args.block.now.place c.args.work.now c.loop-kind.at c.loop-kind.count c.loop-kind.invariant.0 c.token_at.result c.token_at.ensures (c.loop-kind.invariant.3 z).1 c.in-Item.kind c.in-Item.next c.in-Item.is c.in_default-kind.not-Begin))

pub returns : goal.returns
returns c = record { judged = λ z. come_stop c.args.block.now.structure.now c.args.block.now.strings.now c.args.block.now.place c.args.work.now c.loop-kind.at c.loop-kind.count c.loop-kind.invariant.0 c.token_at.result c.token_at.ensures (c.loop-kind.invariant.3 z).1 c.in_default.not-Item; inside = tt; kept = λ z. (c.loop-kind.invariant.3 z).0 }
