-- `node_name_reads` meets its contract.
use Rattle.std.proofs.Common.{sym, ap, ◌∙◌}
use Rattle.std.proofs.Math.Bool.{not}
use Rattle.rules.specs.Names.{node_name_reads}
use Rattle.names.proofs.Chars.{and_then, and_else}
use Rattle.names.proofs.node_name_reads.Goals as goal

pub returns-then-not-is_empty : goal.returns-then-not-is_empty
unfolding node_name_reads
returns-then-not-is_empty c = and_then (sym (ap not c.is_empty.ensures) ∙ ap not c.if-not-is_empty.true) c.node_name_valid.ensures

pub returns-else-not-is_empty : goal.returns-else-not-is_empty
unfolding node_name_reads
returns-else-not-is_empty c = and_else _ (ap not c.is_empty.ensures) (ap not c.if-not-is_empty.false)
