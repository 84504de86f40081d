-- `derive` meets its contract: read, then judged, listed, copied and written, and the work space cleared.
use Rattle.std.proofs.lemmas.Result.{err_from_is_err_and}
use mathlib.Core.Path.{sym, ap, ◌∙◌, subst}
use mathlib.Core.List.{List}
use Prim.Native.Nat.{ℕ}
use lib.ListN.{length, drop}
use Rattle.rules.specs.Ceilings.{work_words}
use Rattle.rules.specs.Derivation.{Request}
use Rattle.rules.specs.Laws.Host.{HostRead}
use Rattle.rules.proofs.Laws.Host.{host_read, cleared, space_cleared}
use Rattle.reader.specs.Answers.{meaning}
use Rattle.derive.proofs.Joining.{refused_answer, refused_list, refused_guest, refused_space, derived_is, derived_list, derived_guest}
use Rattle.derive.proofs.derive.Goals as goal

pub accepted-derived-requires : goal.accepted-derived-requires
accepted-derived-requires c =
    let a = c.args in
    subst (λ (ws : List ℕ). HostRead a.host.now ws c.in_ok-count.count) (sym c.read.ensures.work_after)
    (host_read a.host.now a.work.now c.in_ok-count.count (sym (ap meaning c.in_ok-count.was) ∙ c.read.ensures.result_value))

pub returns-in_err-count : goal.returns-in_err-count
returns-in_err-count c =
    let a = c.args in
    let q : Request = record { configured = a.configured.now; excluded = a.excluded.now; ids = a.ids.now } in
    let e = sym (ap meaning c.in_err-count.was) ∙ c.read.ensures.result_value in
    let r = c.in_err-count.field-0.0 in
    let f = err_from_is_err_and c.from_residual.result c.from_residual.ensures.1 in
    record {
      result_value = rw f.1 (f.2 ∙ refused_answer a.host.now q a.work.now r e (length a.list.now) (length a.guest.now));
      list_after = refused_list a.host.now q a.work.now r e a.list.now (length a.guest.now);
      guest_after = refused_guest a.host.now q a.work.now r e a.guest.now (length a.list.now);
      work_after = c.read.ensures.work_after ∙ refused_space a.host.now q a.work.now r e;
    }

pub returns : goal.returns
returns c =
    let a = c.args in
    let q : Request = record { configured = a.configured.now; excluded = a.excluded.now; ids = a.ids.now } in
    let d = c.accepted-derived in
    let n = c.in_ok-count.count in
    let e = sym (ap meaning c.in_ok-count.was) ∙ c.read.ensures.result_value in
    record {
      result_value = d.ensures.answer ∙ sym (derived_is a.host.now q a.work.now n e (length a.list.now) (length a.guest.now));
      list_after = derived_list a.host.now q a.work.now n e a.list.now a.guest.now _ d.ensures.listed;
      guest_after = derived_guest a.host.now q a.work.now n e a.list.now a.guest.now _ d.ensures.copied;
      work_after = space_cleared a.host.now a.work.now n e d.new.work _ (d.ensures.size ∙ ap length c.read.ensures.work_after) (d.ensures.rest ∙ ap (drop work_words) c.read.ensures.work_after) (cleared d.new.work _ c.clear.ensures);
    }
