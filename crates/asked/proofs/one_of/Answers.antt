-- `one_of` meets its contract: the search of the first n words.
use mathlib.Core.Path.{ap, ◌∙◌}
use Prim.Native.Nat.{ℕ}
use lib.Dec.{eqb}
use Rattle.std.proofs.Common.{rules, tests}
use Rattle.std.proofs.lemmas.Iterator.{YieldsList-from_slice}
use Rattle.std.proofs.lemmas.Iterator.Search.{any_from_yields_List}
use Rattle.rules.specs.Lists.{one_of}
use Rattle.asked.proofs.Ones.{any_one}
use Rattle.asked.proofs.one_of.Goals as goal

pub returns : goal.returns
returns c =
    any_from_yields_List (λ (node : ℕ). eqb node c.args.i) _ _ c.any.result c.any.ensures.ran (YieldsList-from_slice _ c.iter.ensures.rest) (λ x b q k. search (rules, tests))
    ∙ any_one c.args.i c.first_words-first.result.now ∙ ap (one_of c.args.i) c.first_words-first.ensures
