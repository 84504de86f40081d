-- `node_name_valid_char` meets its contract.
use Rattle.std.proofs.Common.{sym, ◌∙◌}
use Rattle.rules.specs.Names.{node_char}
use Rattle.names.proofs.Chars.{any_one_of, or_then, or_else}
use Rattle.names.proofs.node_name_valid_char.Goals as goal

pub returns-then-is_ascii_alphanumeric : goal.returns-then-is_ascii_alphanumeric
unfolding node_char
returns-then-is_ascii_alphanumeric c =
    let t = c.if-is_ascii_alphanumeric.true in
    or_then _ (sym c.is_ascii_alphanumeric.ensures.value ∙ t) t

pub returns-else-is_ascii_alphanumeric : goal.returns-else-is_ascii_alphanumeric
unfolding node_char
returns-else-is_ascii_alphanumeric c =
    or_else (sym c.is_ascii_alphanumeric.ensures.value ∙ c.if-is_ascii_alphanumeric.false) (c.contains.ensures.value ∙ any_one_of c.args.c _)
