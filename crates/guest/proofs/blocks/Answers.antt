use mathlib.Core.Path.{refl, sym, ◌∙◌}
use native.Mathlib.Omega.{arith}
use Rattle.rules.specs.Blob.{block_of}
use Rattle.rules.proofs.Laws.Tokens.{item_ahead}
use Rattle.guest.specs.Walked.{marked, copies}
use Rattle.guest.proofs.Filled.{lay_none, copied_spoken, fills_start, fills_stop, fills-fits, fills-on}
use borrow.Enum.Refused.{opened}
use Rattle.guest.proofs.blocks.Goals as goal
use Rattle.guest.proofs.blocks.Goals.{then-copies, else-copies}

pub loop-kind-init : goal.loop-kind-init
loop-kind-init c = record { same_reference = refl; same_place = refl; fills = fills_start c.args.block.now.structure.now c.args.block.now.strings.now c.args.work.now c.args.n c.args.guest.now c.requires.1 c.requires.2 }

pub returns : goal.returns
returns c = fills_stop c.args.block.now.structure.now c.args.block.now.strings.now c.args.work.now c.args.n c.args.guest.now c.requires.1 c.requires.2 c.loop-kind.laid.bytes.now c.loop-kind.at c.loop-kind.walk c.loop-kind.laid.size c.loop-kind.invariant.fills c.token_at.result c.token_at.ensures _ (c.guest-1.given.1.1 (sym c.loop-kind.invariant.same_reference)) (opened c.in_default.in_default-own.keys2)

pub lay-requires : goal.lay-requires
lay-requires c =
    let said = copied_spoken (marked c.args.work.now) c.loop-kind.walk.next c.loop-kind.walk.skipped c.in-Item.kind (sym c.copies.ensures ∙ c.if-copies.true) in
    rw (c.loop-kind.invariant.same_place, said)
    (omega (arith, c.loop-kind.invariant.fills.inside, c.requires.0), c.loop-kind.invariant.fills.begun, fills-fits c.args.block.now.structure.now c.args.block.now.strings.now c.args.work.now c.args.n c.args.guest.now c.requires.1 c.requires.2 c.loop-kind.laid.bytes.now c.loop-kind.at c.loop-kind.walk c.loop-kind.laid.size c.loop-kind.invariant.fills c.token_at.result c.token_at.ensures c.in-Item.kind c.in-Item.next c.in-Item.is)

pub loop-kind-smaller : goal.loop-kind-smaller
loop-kind-smaller c = omega (arith, c.loop-kind.invariant.fills.inside, item_ahead c.args.block.now.structure.now c.loop-kind.at c.token_at.result c.in-Item.kind c.in-Item.next c.token_at.ensures c.in-Item.is)

pub loop-kind-preserved : goal.loop-kind-preserved
loop-kind-preserved c =
    let i = c.loop-kind.invariant in
    elim c.if-copies.branch [
      | then-copies w ↦
          let said = copied_spoken (marked c.args.work.now) c.loop-kind.walk.next c.loop-kind.walk.skipped c.in-Item.kind (sym c.copies.ensures ∙ w.if-copies.true) in
          rw w.laid-is (record {
            same_reference = w.lay.ensures.same_reference ∙ i.same_reference;
            same_place = w.lay.ensures.laid.0 ∙ i.same_place;
            fills = fills-on c.args.block.now.structure.now c.args.block.now.strings.now c.args.work.now c.args.n c.args.guest.now c.requires.1 c.requires.2 c.loop-kind.laid.bytes.now c.loop-kind.at c.loop-kind.walk c.loop-kind.laid.size c.loop-kind.invariant.fills c.token_at.result c.token_at.ensures c.in-Item.kind c.in-Item.next c.in-Item.is w.lay.new.self.bytes.now w.lay.new.self.size (rw (i.same_place, said) at w.lay.ensures.laid.1) c.onward-walk.result c.onward-walk.ensures;
          })
      | else-copies w ↦
          let b = block_of 0 c.args.block.now.structure.now c.args.block.now.strings.now in
          let none = lay_none (copies (marked c.args.work.now) c.loop-kind.walk.next c.loop-kind.walk.skipped c.in-Item.kind) b c.loop-kind.at c.in-Item.kind c.args.n c.loop-kind.laid.bytes.now c.loop-kind.laid.size i.fills.begun (fills-fits c.args.block.now.structure.now c.args.block.now.strings.now c.args.work.now c.args.n c.args.guest.now c.requires.1 c.requires.2 c.loop-kind.laid.bytes.now c.loop-kind.at c.loop-kind.walk c.loop-kind.laid.size c.loop-kind.invariant.fills c.token_at.result c.token_at.ensures c.in-Item.kind c.in-Item.next c.in-Item.is) (sym c.copies.ensures ∙ w.if-copies.false) in
          rw w.laid-is (record {
            same_reference = i.same_reference;
            same_place = i.same_place;
            fills = fills-on c.args.block.now.structure.now c.args.block.now.strings.now c.args.work.now c.args.n c.args.guest.now c.requires.1 c.requires.2 c.loop-kind.laid.bytes.now c.loop-kind.at c.loop-kind.walk c.loop-kind.laid.size c.loop-kind.invariant.fills c.token_at.result c.token_at.ensures c.in-Item.kind c.in-Item.next c.in-Item.is c.loop-kind.laid.bytes.now c.loop-kind.laid.size none c.onward-walk.result c.onward-walk.ensures;
          })
    ]
