-- `run` meets its contract: the program's own refusal, and else the derivation.
use Rattle.rules.specs.Ceilings.{program_ceiling}
use Rattle.program.proofs.Judged.{passed, input_short, refused_whole}
use Rattle.program.proofs.run.Goals as goal

pub returns-in-Err : goal.returns-in-Err
unfolding program_ceiling
returns-in-Err c =
    let t = refused_whole c.args.host.now c.args.input.now c.tested.result c.tested.ensures c.in-Err.refusal c.in-Err.is c.args.guest.now c.args.text.now c.refused.result c.refused.new.text c.refused.ensures.value c.refused.ensures.text_after c.refused.ensures.text_short in
    record { value = t.0; text_after = t.1; guest_after = t.2; guest_len_bound = t.3 }

pub derived-requires : goal.derived-requires
derived-requires c =
    let p = passed c.args.host.now c.args.input.now c.tested.result c.tested.ensures tt c.in-Ok.is in
    (p.0, p.1, input_short c.args.input.now p.0)
