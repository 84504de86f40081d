-- `write` meets its contract.
use mathlib.Core.Path.{refl}
use Rattle.guest.proofs.Closed.{guest_laid}
use Rattle.guest.proofs.write.Goals as goal

pub returns : goal.returns
returns c = λ place ready. guest_laid place c.args.block.now.structure.now c.args.block.now.strings.now c.args.work.now c.args.size c.args.guest.now c.blocks-2.new.guest c.close.new.guest c.requires.1 ready _ refl c.blocks-2.ensures c.close.ensures
