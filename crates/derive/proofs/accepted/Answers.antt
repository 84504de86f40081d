-- `accepted` meets its contract: judged, and, where it passes, listed, copied and written.
use Rattle.std.proofs.lemmas.Result.{err_from_is_err_and}
use mathlib.Core.Path.{refl, sym, ap}
use lib.Seq.{length-take-le}
use Rattle.rules.specs.Blob.{block_of}
use Rattle.rules.proofs.Laws.Host.{block_is, wide}
use Rattle.given.specs.Answers.{request_lent}
use Rattle.derive.specs.Answers.{checked}
use Rattle.derive.proofs.Joining.{whole, accepts_not, conf-fits, start-asked, excl-fits, accepts}
use Rattle.derive.proofs.accepted.Goals as goal

pub judged-requires : goal.judged-requires
judged-requires c = record { count_le_node_ceiling = c.requires.kept.few; entry_ceiling_in_bounds = wide }

pub excluded-m-requires : goal.excluded-m-requires
excluded-m-requires c = c.requires.kept.few

pub returns-in_err-n : goal.returns-in_err-n
returns-in_err-n c =
    let a = c.args in
    let q = request_lent a.request.now in
    let is = block_is a.host.now c.word.result c.block.result.now c.block-2.result.now c.word.ensures c.block.ensures c.block-2.ensures in
    let e = err_from_is_err_and c.from_residual.result c.from_residual.ensures.1 in
    rw (e.1, e.2) (accepts_not a.host.now a.work.now a.count c.requires (block_of c.word.result c.block.result.now c.block-2.result.now) is q
    _ _ c.judged.result c.judged.ensures c.in_err-n.field-0.0 (ap checked c.in_err-n.was) _ refl a.list.now a.guest.now)

pub slice_bounds-conf-end : goal.slice_bounds-conf-end
slice_bounds-conf-end c =
    let a = c.args in
    let q = request_lent a.request.now in
    let is = block_is a.host.now c.word.result c.block.result.now c.block-2.result.now c.word.ensures c.block.ensures c.block-2.ensures in
    conf-fits a.host.now a.work.now a.count c.requires (block_of c.word.result c.block.result.now c.block-2.result.now) is q
    _ _ c.judged.result c.judged.ensures c.in_ok-n.n (ap checked c.in_ok-n.was) wide

pub slice_bounds-wanted-end : goal.slice_bounds-wanted-end
slice_bounds-wanted-end c =
    let a = c.args in
    let q = request_lent a.request.now in
    let is = block_is a.host.now c.word.result c.block.result.now c.block-2.result.now c.word.ensures c.block.ensures c.block-2.ensures in
    sym (length-take-le c.in_ok-n.n c.judged.new.conf (conf-fits a.host.now a.work.now a.count c.requires (block_of c.word.result c.block.result.now c.block-2.result.now) is q
    _ _ c.judged.result c.judged.ensures c.in_ok-n.n (ap checked c.in_ok-n.was) wide))

pub slice_bounds-excl-end : goal.slice_bounds-excl-end
slice_bounds-excl-end c =
    let a = c.args in
    let q = request_lent a.request.now in
    let is = block_is a.host.now c.word.result c.block.result.now c.block-2.result.now c.word.ensures c.block.ensures c.block-2.ensures in
    excl-fits a.host.now a.work.now a.count c.requires (block_of c.word.result c.block.result.now c.block-2.result.now) is q
    _ _ c.judged.result c.judged.ensures c.in_ok-n.n (ap checked c.in_ok-n.was) wide
    _ _ c.excluded-m.result wide c.excluded-m.ensures.value c.excluded-m.ensures.out_after

pub slice_bounds-wanted-end-2 : goal.slice_bounds-wanted-end-2
slice_bounds-wanted-end-2 c =
    let a = c.args in
    let q = request_lent a.request.now in
    let is = block_is a.host.now c.word.result c.block.result.now c.block-2.result.now c.word.ensures c.block.ensures c.block-2.ensures in
    sym (length-take-le c.excluded-m.result c.excluded-m.new.out (excl-fits a.host.now a.work.now a.count c.requires (block_of c.word.result c.block.result.now c.block-2.result.now) is q
    _ _ c.judged.result c.judged.ensures c.in_ok-n.n (ap checked c.in_ok-n.was) wide
    _ _ c.excluded-m.result wide c.excluded-m.ensures.value c.excluded-m.ensures.out_after))

pub written-requires : goal.written-requires
written-requires c =
    let a = c.args in
    let q = request_lent a.request.now in
    let is = block_is a.host.now c.word.result c.block.result.now c.block-2.result.now c.word.ensures c.block.ensures c.block-2.ensures in
    record {
      asked = start-asked a.host.now a.work.now a.count c.requires (block_of c.word.result c.block.result.now c.block-2.result.now) is q
          _ _ c.judged.result c.judged.ensures c.in_ok-n.n (ap checked c.in_ok-n.was) wide;
      whole = whole a.host.now a.work.now a.count c.requires (block_of c.word.result c.block.result.now c.block-2.result.now) is q;
    }

pub returns : goal.returns
returns c =
    let a = c.args in
    let q = request_lent a.request.now in
    let is = block_is a.host.now c.word.result c.block.result.now c.block-2.result.now c.word.ensures c.block.ensures c.block-2.ensures in
    accepts a.host.now a.work.now a.count c.requires (block_of c.word.result c.block.result.now c.block-2.result.now) is q
    _ _ c.judged.result c.judged.ensures c.in_ok-n.n (ap checked c.in_ok-n.was) wide
    _ _ c.excluded-m.result wide c.excluded-m.ensures.value c.excluded-m.ensures.out_after
    _ a.list.now _ a.guest.now _ c.written.result c.written.ensures
