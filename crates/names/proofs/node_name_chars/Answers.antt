-- `node_name_chars` meets its contract.
use Rattle.std.proofs.Common.{◌∙◌, rules, tests}
use Rattle.std.proofs.lemmas.Iterator.{YieldsList-from_slice}
use Rattle.std.proofs.lemmas.Iterator.Search.{all_from_yields_List}
use Rattle.rules.specs.Names.{node_char}
use Rattle.names.proofs.Chars.{all_every}
use Rattle.names.proofs.node_name_chars.Goals as goal

pub returns : goal.returns
returns c =
    all_from_yields_List node_char _ _ _ c.all.ensures.ran (YieldsList-from_slice c.args.s.now cc) (λ x b q k. search (rules, tests))
    ∙ all_every node_char c.args.s.now
