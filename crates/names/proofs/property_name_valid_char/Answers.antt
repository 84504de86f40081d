-- `property_name_valid_char` meets its contract.
use Rattle.std.proofs.Common.{sym, ◌∙◌}
use Rattle.rules.specs.Names.{property_char}
use Rattle.names.proofs.Chars.{any_one_of, or_then, or_else}
use Rattle.names.proofs.property_name_valid_char.Goals as goal

pub returns-then-node_name_valid_char : goal.returns-then-node_name_valid_char
unfolding property_char
returns-then-node_name_valid_char c =
    let t = c.if-node_name_valid_char.true in
    or_then _ (sym c.node_name_valid_char.ensures ∙ t) t

pub returns-else-node_name_valid_char : goal.returns-else-node_name_valid_char
unfolding property_char
returns-else-node_name_valid_char c =
    or_else (sym c.node_name_valid_char.ensures ∙ c.if-node_name_valid_char.false) (c.contains.ensures.value ∙ any_one_of c.args.c _)
