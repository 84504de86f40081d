-- `FdtWriter::property_phandle` meets its contract.
use mathlib.Core.Path.{◌∙◌}
use native.Mathlib.Omega.{arith}
use lib.ListN.{length}
use Rattle.rules.specs.Octets.{ascii}
use Rattle.rules.proofs.Laws.Writer.{words32_one}
use Rattle.writer.specs.Meaning.{state_of}
use Rattle.writer.proofs.Passed.{was_ok, was_err}
use Rattle.writer.proofs.Phandles.{at_noted, phandle_refused, phandle_done}
use Rattle.writer.proofs.FdtWriter.property_phandle.Goals as goal

pub overflow_add-self : goal.overflow_add-self
overflow_add-self c =
    let q = at_noted (state_of c.args.self) (length c.args.«data».now) c.args.strings.now c.args.phandles.now c.args.val _ _ c.into.ensures _ (was_ok c.args.self _ _ c.or_refused.ensures _ c.in_ok-offset.was) c.phandle.ensures in
    omega (arith, q.entry, c.well_formed.1.1.1.0.0)

pub with_property-requires : goal.with_property-requires
with_property-requires c =
    let q = at_noted (state_of c.args.self) (length c.args.«data».now) c.args.strings.now c.args.phandles.now c.args.val _ _ c.into.ensures _ (was_ok c.args.self _ _ c.or_refused.ensures _ c.in_ok-offset.was) c.phandle.ensures in
    record { size_bound = q.place.data_small; strings_len_bound = q.place.strings_small }

pub returns-in_err-offset : goal.returns-in_err-offset
unfolding ascii
returns-in_err-offset c =
    let t = was_err c.args.self _ _ c.or_refused.ensures _ c.in_err-offset.was _ c.from_residual.ensures.1 in
    let p = phandle_refused (state_of c.args.self) c.args.«data».now c.args.strings.now c.args.phandles.now c.args.val _ c.into.ensures _ c.phandle.ensures t.0 t.1 in
    record { answer = t.2 ∙ p.0; bytes = p.1.0; names = p.1.1.0; noted = p.1.1.1 }

pub returns : goal.returns
unfolding ascii
returns c =
    let t = was_ok c.args.self _ _ c.or_refused.ensures _ c.in_ok-offset.was in
    let p = phandle_done (state_of c.args.self) c.args.«data».now c.args.strings.now c.args.phandles.now c.args.val _ c.into.ensures _ c.phandle.ensures _ t _ _ _ _ (rw (words32_one c.args.val) at c.property_words.ensures) c.with_property.ensures.names c.put_word_of.ensures c.with_property.ensures.state in
    record { answer = p.0; bytes = p.1.0; names = p.1.1.0; noted = p.1.1.1 }
