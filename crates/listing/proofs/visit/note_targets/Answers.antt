use native.Mathlib.Omega.{arith}
use Rattle.references.specs.Rows.{meaning}
use Rattle.listing.proofs.Visits.{scan_stop, scan-target, scan-next}
use Rattle.rules.specs.Laws.Lent.{block_lent}
use Rattle.listing.proofs.visit.note_targets.Goals as goal

pub returns : goal.returns
returns c =
    let a = c.args in
    scan_stop (block_lent a.block.now) a.work.now a.count a.ends.now.list a.ends.now.stack (meaning a.cells) a.value.now
    c.loop-reference.work c.loop-reference.ends.list c.loop-reference.ends.stack c.loop-reference.i c.loop-reference.invariant c.next_reference.result c.next_reference.ensures c.in_default.is

pub note-requires : goal.note-requires
note-requires c =
    let a = c.args in
    let h = scan-target (block_lent a.block.now) a.work.now a.count a.ends.now.list a.ends.now.stack (meaning a.cells) a.value.now
    c.loop-reference.work c.loop-reference.ends.list c.loop-reference.ends.stack c.loop-reference.i c.loop-reference.invariant c.next_reference.result c.next_reference.ensures _ c.in-Some.is in
    let p = c.loop-reference.invariant.piled in
    (omega (arith, h, p.marked.few), (omega (arith, p.marked.few, p.marked.short), omega (arith, p.marked.few, p.marked.short, p.least)))

pub loop-reference-preserved : goal.loop-reference-preserved
loop-reference-preserved c =
    let a = c.args in
    let h = scan-target (block_lent a.block.now) a.work.now a.count a.ends.now.list a.ends.now.stack (meaning a.cells) a.value.now
    c.loop-reference.work c.loop-reference.ends.list c.loop-reference.ends.stack c.loop-reference.i c.loop-reference.invariant c.next_reference.result c.next_reference.ensures _ c.in-Some.is in
    scan-next (block_lent a.block.now) a.work.now a.count a.ends.now.list a.ends.now.stack (meaning a.cells) a.value.now
    c.loop-reference.work c.loop-reference.ends.list c.loop-reference.ends.stack c.loop-reference.i c.loop-reference.invariant c.next_reference.result c.next_reference.ensures _ c.in-Some.is
    c.note.new.work c.note.new.self.list c.note.new.self.stack (c.note.ensures a.count h c.loop-reference.invariant.piled)
