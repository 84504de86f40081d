-- `FdtWriter::property_string` meets its contract.
use mathlib.Core.Path.{◌∙◌}
use lib.ListN.{length}
use Rattle.rules.specs.Octets.{has_nul, closed}
use Rattle.rules.proofs.Laws.Writer.{length_closed}
use Rattle.writer.specs.Meaning.{state_of}
use Rattle.writer.proofs.Passed.{was_ok, was_err}
use Rattle.writer.proofs.Properties.{at_place, size_of, property_refused, property_done}
use Rattle.writer.proofs.FdtWriter.property_string.Goals as goal

pub with_property-requires : goal.with_property-requires
with_property-requires c =
    let p = at_place (state_of c.args.self) (length c.args.«data».now) c.args.strings.now c.has_nul-own.result c.args.name.now c.string_size-size.result _ _ c.into.ensures _ (was_ok c.args.self _ _ c.or_refused.ensures _ c.in_ok-offset.was) c.property.ensures in
    record { size_bound = p.data_small; strings_len_bound = p.strings_small }

pub returns-in_err-offset : goal.returns-in_err-offset
returns-in_err-offset c =
    let t = was_err c.args.self _ _ c.or_refused.ensures _ c.in_err-offset.was _ c.from_residual.ensures.1 in
    let p = property_refused (state_of c.args.self) c.args.«data».now c.args.strings.now (has_nul c.args.val.now) c.args.name.now (closed c.args.val.now) c.string_size-size.result (size_of _ _ (closed c.args.val.now) c.string_size-size.ensures (length_closed c.args.val.now)) _ c.into.ensures _ (rw c.has_nul-own.ensures at c.property.ensures) t.0 t.1 in
    record { answer = t.2 ∙ p.0; bytes = p.1.0; names = p.1.1 }

pub returns : goal.returns
returns c =
    let t = was_ok c.args.self _ _ c.or_refused.ensures _ c.in_ok-offset.was in
    let p = property_done (state_of c.args.self) c.args.«data».now c.args.strings.now (has_nul c.args.val.now) c.args.name.now (closed c.args.val.now) c.string_size-size.result (size_of _ _ (closed c.args.val.now) c.string_size-size.ensures (length_closed c.args.val.now)) _ c.into.ensures _ (rw c.has_nul-own.ensures at c.property.ensures) _ t _ _ _ c.property_string.ensures c.with_property.ensures.names c.with_property.ensures.state in
    record { answer = p.0; bytes = p.1.0; names = p.1.1 }
