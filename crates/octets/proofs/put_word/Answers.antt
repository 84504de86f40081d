use Rattle.std.proofs.Common.{ap, ◌∙◌}
use Rattle.rules.specs.Octets.{be32, lay}
use Rattle.octets.proofs.put_word.Goals as goal

pub returns : goal.returns
unfolding be32
returns c = c.put.ensures ∙ ap (lay c.args.d.now c.args.at) c.to_be_bytes.ensures
