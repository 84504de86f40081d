-- `picks` meets its contract.
use Rattle.picks.proofs.picks.Goals as goal

pub returns : goal.returns
returns c = c.each.ensures c.args.work.now c.args.n c.requires.kept c.ways.ensures
