-- `number_in` meets its contract.
use mathlib.Core.Path.{ap, ◌∙◌}
use Rattle.std.specs.Prelude.{Some}
use Rattle.cpus.proofs.Registers.{in_four, in_eight}
use Rattle.cpus.proofs.register.number_in.Goals as goal

pub returns-in-4 : goal.returns-in-4
returns-in-4 c = ap Some (c.from.ensures ∙ c.word.ensures) ∙ in_four c.args.value.now c.in-4.is

pub returns-in-8 : goal.returns-in-8
returns-in-8 c = ap Some c.long.ensures ∙ in_eight c.args.value.now c.in-8.is
