-- `tested` meets its contract: the input's refusal, the host's, or neither.
use Rattle.rules.specs.Ceilings.{program_ceiling}
use Rattle.program.proofs.Judged.{host_long, host_passes}
use Rattle.program.proofs.tested.Goals as goal

pub returns-then-host-gt-PROGRAM_CEILING : goal.returns-then-host-gt-PROGRAM_CEILING
unfolding program_ceiling
returns-then-host-gt-PROGRAM_CEILING c = simp (← c.in_ok-input_judged.ensures) (host_long c.args.host.now c.if-host-gt-PROGRAM_CEILING.true)

pub returns : goal.returns
unfolding program_ceiling
returns c = simp (← c.in_ok-input_judged.ensures) (host_passes c.args.host.now c.if-host-gt-PROGRAM_CEILING.false)
