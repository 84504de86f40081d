-- `written` meets its contract: listed and marked, measured, and written where both fit.
use Rattle.std.proofs.lemmas.Result.{err_from_is_err_and}
use Rattle.rules.specs.Copy.{Asked as AskedFor}
use Rattle.rules.specs.Laws.Lent.{block_lent}
use Rattle.derive.specs.Wanted.{wanted_lent}
use Rattle.derive.proofs.Writing.{ready, ready_first, writes-none, guest-room, writes-both}
use Rattle.derive.proofs.written.written.Goals as goal

pub returns-in_err-granted : goal.returns-in_err-granted
returns-in_err-granted c =
    let a = c.args in
    let p = c.requires in
    let b = block_lent a.block.now in
    let q : AskedFor = wanted_lent a.wanted.now in
    let first = ready_first b a.count q a.work.now p.asked p.whole _ c.marked-n.result c.marked-n.ensures in
    let e = err_from_is_err_and c.from_residual.result c.from_residual.ensures.1 in
    rw (e.1, e.2) (writes-none b a.count q a.work.now p.asked p.whole _ c.marked-n.result c.marked-n.ensures _ c.measure-size.ensures.kept
    c.measure-size.result (c.measure-size.ensures.sieved b.place first) c.list_len-listed.result c.total-copied.result
    c.list_len-listed.ensures c.total-copied.ensures a.list.now a.guest.now c.granted.result c.granted.ensures c.in_err-granted.field-0.0 c.in_err-granted.was)

pub write-requires : goal.write-requires
write-requires c =
    let a = c.args in
    let p = c.requires in
    let b = block_lent a.block.now in
    let q : AskedFor = wanted_lent a.wanted.now in
    let first = ready_first b a.count q a.work.now p.asked p.whole _ c.marked-n.result c.marked-n.ensures in (
      p.asked.kept.small,
      c.measure-size.ensures.sized,
      guest-room b a.count q a.work.now p.asked p.whole _ c.marked-n.result c.marked-n.ensures _ c.measure-size.ensures.kept
          c.measure-size.result (c.measure-size.ensures.sieved b.place first) c.list_len-listed.result c.total-copied.result
          c.list_len-listed.ensures c.total-copied.ensures a.list.now a.guest.now c.granted.result c.granted.ensures c.in_ok-granted.was,
    )

pub returns : goal.returns
returns c =
    let a = c.args in
    let p = c.requires in
    let b = block_lent a.block.now in
    let q : AskedFor = wanted_lent a.wanted.now in
    let first = ready_first b a.count q a.work.now p.asked p.whole _ c.marked-n.result c.marked-n.ensures in
    let still = ready b a.count q a.work.now p.asked p.whole _ c.marked-n.result c.marked-n.ensures _ c.measure-size.ensures.kept.size c.measure-size.ensures.kept.before in
    writes-both b a.count q a.work.now p.asked p.whole _ c.marked-n.result c.marked-n.ensures _ c.measure-size.ensures.kept
    c.measure-size.result (c.measure-size.ensures.sieved b.place first) c.list_len-listed.result c.total-copied.result
    c.list_len-listed.ensures c.total-copied.ensures a.list.now a.guest.now c.granted.result c.granted.ensures c.in_ok-granted.was
    _ _ c.list_out.ensures (c.write.ensures b.place still)
