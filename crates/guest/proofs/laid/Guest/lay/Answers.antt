-- `lay` meets its contract: a case for each kind.
use mathlib.Core.Path.{refl, ap}
use native.Mathlib.Omega.{arith}
use Rattle.rules.specs.Ceilings.{blob_ceiling}
use Rattle.rules.specs.Blob.{block_of}
use Rattle.guest.specs.Laid.{spoken}
use Rattle.guest.proofs.Filled.{lay_none, lay_begin, lay_end, prop_fits, lay_prop}
use Rattle.guest.proofs.laid.Guest.lay.Goals as goal

pub overflow_add-at : goal.overflow_add-at
unfolding blob_ceiling
overflow_add-at c = omega (arith, c.requires.0)

pub property-requires : goal.property-requires
property-requires c =
    let g = c.args.self.now in
    (c.requires.1, prop_fits (spoken c.args.kind) (block_of 0 c.args.block.now.structure.now c.args.block.now.strings.now) c.args.at c.args.kind g.strings_at g.bytes.now g.size c.requires.1 c.requires.2 _ _ _ c.in-Prop.is (ap spoken c.in-Prop.is) c.string_at-spelled.result.now c.part-bytes.result.now c.string_at-spelled.ensures c.part-bytes.ensures)

pub returns-in-Begin-clause-laid : goal.returns-in-Begin-clause-laid
returns-in-Begin-clause-laid c =
    let g = c.args.self.now in
    (refl, lay_begin (spoken c.args.kind) (block_of 0 c.args.block.now.structure.now c.args.block.now.strings.now) c.args.at c.args.kind g.strings_at g.bytes.now g.size c.requires.1 c.requires.2 _ c.in-Begin.is (ap spoken c.in-Begin.is) c.part-name.result.now c.begin.new.data c.part-name.ensures c.begin.ensures c.next_multiple_of.result c.next_multiple_of.ensures.value)

pub returns-in-EndNode-clause-laid : goal.returns-in-EndNode-clause-laid
returns-in-EndNode-clause-laid c =
    let g = c.args.self.now in
    (refl, lay_end (spoken c.args.kind) (block_of 0 c.args.block.now.structure.now c.args.block.now.strings.now) c.args.at c.args.kind g.strings_at g.bytes.now g.size c.requires.1 c.requires.2 c.in-EndNode.is (ap spoken c.in-EndNode.is) c.end.new.data c.end.ensures)

pub returns-in-Prop-clause-laid : goal.returns-in-Prop-clause-laid
returns-in-Prop-clause-laid c =
    let g = c.args.self.now in
    (c.property.ensures.laid.0, lay_prop (spoken c.args.kind) (block_of 0 c.args.block.now.structure.now c.args.block.now.strings.now) c.args.at c.args.kind g.strings_at g.bytes.now g.size c.requires.1 c.requires.2 _ _ _ c.in-Prop.is (ap spoken c.in-Prop.is) c.string_at-spelled.result.now c.part-bytes.result.now c.string_at-spelled.ensures c.part-bytes.ensures c.property.new.self.bytes.now c.property.new.self.size c.property.ensures.laid.1)

pub returns-in-Nop-clause-laid : goal.returns-in-Nop-clause-laid
returns-in-Nop-clause-laid c =
    let g = c.args.self.now in
    (refl, lay_none (spoken c.args.kind) (block_of 0 c.args.block.now.structure.now c.args.block.now.strings.now) c.args.at c.args.kind g.strings_at g.bytes.now g.size c.requires.1 c.requires.2 (ap spoken c.in-Nop.is))
