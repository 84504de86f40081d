-- `ways` meets its contract.
use Rattle.rules.proofs.Laws.Constants.{node_ceiling_lem, marks_at_lem, names_at_lem}
use Rattle.picks.proofs.Places.{cleared_as}
use Rattle.picks.proofs.Marking.{cleared_keeps, cleared_small, cleared_none_marked, cleared_noted}
use Rattle.picks.proofs.marks.ways.Goals as goal

pub note-requires : goal.note-requires
note-requires c =
    let a = c.args in
    let p = c.requires in
    let vs = c.clear_from.new.d in
    let us = c.clear_from-2.new.d in
    let e = cleared_as marks_at_lem node_ceiling_lem a.work.now vs c.clear_from.ensures in
    let f = cleared_as names_at_lem node_ceiling_lem vs us c.clear_from-2.ensures in
    record { keeps = cleared_keeps a.count a.work.now p.keeps a.n p.n_le_node_ceiling vs us e f; n_le_node_ceiling = p.n_le_node_ceiling; by_index = cleared_small a.count a.work.now p.keeps a.n p.n_le_node_ceiling vs us e f p.by_index; unmarked = cleared_none_marked a.count a.work.now p.keeps a.n p.n_le_node_ceiling vs us e f }

pub returns : goal.returns
returns c =
    let a = c.args in
    let p = c.requires in
    let vs = c.clear_from.new.d in
    let us = c.clear_from-2.new.d in
    let e = cleared_as marks_at_lem node_ceiling_lem a.work.now vs c.clear_from.ensures in
    let f = cleared_as names_at_lem node_ceiling_lem vs us c.clear_from-2.ensures in
    cleared_noted a.count a.work.now p.keeps a.n p.n_le_node_ceiling vs us e f _ c.note.ensures
