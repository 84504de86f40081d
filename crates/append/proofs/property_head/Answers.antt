-- `property_head` meets its contract: three words, each the low bits of its number.
use mathlib.Core.Path.{◌∙◌}
use mathlib.Core.List.{append-nil}
use Rattle.rules.specs.Octets.{words32}
use Rattle.rules.proofs.Laws.Writer.{be32_low}
use Rattle.append.proofs.property_head.Goals as goal

pub returns : goal.returns
unfolding words32
returns c = c.words.ensures ∙ rw (append-nil, c.low.ensures, c.low-2.ensures, be32_low c.args.len, be32_low c.args.nameoff)
