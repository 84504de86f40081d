use mathlib.Core.Path.{◌≡◌, sym, ap, ◌∙◌}
use mathlib.Core.List.{List}
use native.Mathlib.Omega.{arith}
use lib.ListN.{take}
use Rattle.rules.specs.Octets.{Bytes}
use Rattle.rules.specs.Blob.{block_of}
use Rattle.rules.proofs.Laws.Tokens.{item_ahead}
use Rattle.guest.specs.Walked.{marked}
use Rattle.guest.specs.Measured.{is_in, less_one}
use Rattle.guest.proofs.Sifts.{names_all}
use Rattle.guest.proofs.Noted.{search_done, less_some, less_none}
use Rattle.guest.proofs.Turns.{walk_behind, earlier_stop, earlier_hit, earlier_on}
use borrow.Enum.Refused.{opened}
use Rattle.guest.proofs.names.earlier.Goals as goal
use Rattle.guest.proofs.names.earlier.Goals.{then-is_some, else-is_some}

pub loop-left-init : goal.loop-left-init
loop-left-init c = (omega arith, (omega arith, omega arith), ap (λ (l : List Bytes). is_in c.args.name.now (take c.args.props l)) (sym (names_all c.args.block.now.structure.now c.args.block.now.strings.now c.args.work.now)))

pub returns-in_default : goal.returns-in_default
returns-in_default c = sym (earlier_stop (marked c.args.work.now) (block_of 0 c.args.block.now.structure.now c.args.block.now.strings.now) c.loop-left.at c.loop-left.walk c.loop-left.invariant.0 c.token_at.result c.token_at.ensures c.args.name.now c.loop-left.left (opened c.in_default.in_default-own.keys2)) ∙ c.loop-left.invariant.2

pub returns-then-is_named : goal.returns-then-is_named
returns-then-is_named c = sym (earlier_hit (marked c.args.work.now) (block_of 0 c.args.block.now.structure.now c.args.block.now.strings.now) c.loop-left.at c.loop-left.walk c.loop-left.invariant.0 c.token_at.result c.token_at.ensures c.args.name.now c.loop-left.left c.in-Item.kind c.in-Item.next c.in-Item.is c.property_of-property.result c.property_of-property.ensures (omega arith) (sym c.is_named.ensures ∙ c.if-is_named.true)) ∙ c.loop-left.invariant.2

pub loop-left-smaller : goal.loop-left-smaller
loop-left-smaller c = omega (arith, c.loop-left.invariant, item_ahead c.args.block.now.structure.now c.loop-left.at c.token_at.result c.in-Item.kind c.in-Item.next c.token_at.ensures c.in-Item.is)

pub loop-left-preserved : goal.loop-left-preserved
loop-left-preserved c =
    let a = item_ahead c.args.block.now.structure.now c.loop-left.at c.token_at.result c.in-Item.kind c.in-Item.next c.token_at.ensures c.in-Item.is in
    let less : c.if-is_some.left ≡ less_one c.property_of-property.result c.loop-left.left =
    elim c.if-is_some.branch [
      | then-is_some w ↦ less_some c.property_of-property.result c.loop-left.left c.if-is_some.left (sym c.is_some.ensures ∙ w.if-is_some.true) w.left-is
      | else-is_some w ↦ less_none c.property_of-property.result c.loop-left.left c.if-is_some.left (sym c.is_some.ensures ∙ w.if-is_some.false) w.left-is
    ] in (
      a.1,
      walk_behind (marked c.args.work.now) c.loop-left.walk c.onward-walk.result c.in-Item.kind c.loop-left.at c.in-Item.next c.onward-walk.ensures c.loop-left.invariant.1 a.0,
      earlier_on (marked c.args.work.now) (block_of 0 c.args.block.now.structure.now c.args.block.now.strings.now) c.loop-left.at c.loop-left.walk c.loop-left.invariant.0 c.token_at.result c.token_at.ensures c.args.name.now c.loop-left.left c.in-Item.kind c.in-Item.next c.in-Item.is c.property_of-property.result c.property_of-property.ensures (omega arith) (sym c.is_named.ensures ∙ c.if-is_named.false) c.onward-walk.result c.onward-walk.ensures c.if-is_some.left less ∙ c.loop-left.invariant.2,
    )

pub returns : goal.returns
returns c = sym (search_done c.args.name.now c.loop-left.left _ (omega arith)) ∙ c.loop-left.invariant.2
