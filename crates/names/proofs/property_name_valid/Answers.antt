-- `property_name_valid` meets its contract.
use Rattle.std.proofs.Common.{◌≡◌, length, sym, ◌∙◌, rules, tests}
use Rattle.std.proofs.lemmas.Iterator.{YieldsList-from_slice}
use Rattle.std.proofs.lemmas.Iterator.Search.{all_from_yields_List}
use Rattle.rules.specs.Ceilings.{property_name_ceiling}
use Rattle.rules.specs.Names.{within, property_char, property_name_valid}
use Rattle.names.proofs.Chars.{all_every, in_range, and_then, and_else}
use Rattle.names.proofs.property_name_valid.Goals as goal

pub returns-then-contains : goal.returns-then-contains
unfolding property_name_valid property_name_ceiling
returns-then-contains c =
    let e : c.contains.result ≡ within 1 31 (length c.args.name.now) = rw (c.new.ensures.start, c.new.ensures.end, c.new.ensures.exhausted) at c.contains.ensures.value ∙ in_range 1 31 (length c.args.name.now) in
    and_then (sym e ∙ c.if-contains.true)
    (all_from_yields_List property_char _ _ c.all.result c.all.ensures.ran (YieldsList-from_slice c.args.name.now cc) (λ x b q k. search (rules, tests)) ∙ all_every property_char c.args.name.now)

pub returns-else-contains : goal.returns-else-contains
unfolding property_name_valid property_name_ceiling
returns-else-contains c =
    let e : c.contains.result ≡ within 1 31 (length c.args.name.now) = rw (c.new.ensures.start, c.new.ensures.end, c.new.ensures.exhausted) at c.contains.ensures.value ∙ in_range 1 31 (length c.args.name.now) in
    and_else _ e c.if-contains.false
