-- `FdtWriter::property_bytes` meets its contract.
use mathlib.Core.Path.{◌∙◌}
use lib.ListN.{length}
use Rattle.writer.specs.Meaning.{state_of}
use Rattle.writer.proofs.Passed.{was_ok, was_err}
use Rattle.writer.proofs.Properties.{at_place, property_refused, property_done}
use Rattle.writer.proofs.FdtWriter.property_bytes.Goals as goal

pub with_property-requires : goal.with_property-requires
with_property-requires c =
    let p = at_place (state_of c.args.self) (length c.args.«data».now) c.args.strings.now c.args.own c.args.name.now c.property_size-size.result _ _ c.into.ensures _ (was_ok c.args.self _ _ c.or_refused.ensures _ c.in_ok-offset.was) c.property.ensures in
    record { size_bound = p.data_small; strings_len_bound = p.strings_small }

pub returns-in_err-offset : goal.returns-in_err-offset
returns-in_err-offset c =
    let t = was_err c.args.self _ _ c.or_refused.ensures _ c.in_err-offset.was _ c.from_residual.ensures.1 in
    let p = property_refused (state_of c.args.self) c.args.«data».now c.args.strings.now c.args.own c.args.name.now c.args.val.now c.property_size-size.result c.property_size-size.ensures _ c.into.ensures _ c.property.ensures t.0 t.1 in
    record { answer = t.2 ∙ p.0; bytes = p.1.0; names = p.1.1 }

pub returns : goal.returns
returns c =
    let t = was_ok c.args.self _ _ c.or_refused.ensures _ c.in_ok-offset.was in
    let p = property_done (state_of c.args.self) c.args.«data».now c.args.strings.now c.args.own c.args.name.now c.args.val.now c.property_size-size.result c.property_size-size.ensures _ c.into.ensures _ c.property.ensures _ t _ _ _ c.property-2.ensures c.with_property.ensures.names c.with_property.ensures.state in
    record { answer = p.0; bytes = p.1.0; names = p.1.1 }
