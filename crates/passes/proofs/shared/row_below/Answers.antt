-- `row_below` meets its contract: the search over the rows in turn.
use mathlib.Core.Path.{refl, ◌∙◌}
use native.Mathlib.Omega.{arith}
use Rattle.std.proofs.Common.{rules, tests}
use Rattle.std.proofs.lemmas.Iterator.{YieldsList-from_range}
use Rattle.std.proofs.lemmas.Iterator.Search.{any_from_yields_List}
use Rattle.passes.specs.Rows.{row_has}
use Rattle.passes.proofs.Phandles.{below_any}
use Rattle.passes.proofs.shared.row_below.Goals as goal

pub returns : goal.returns
returns c =
    any_from_yields_List (λ j. row_has c.args.work.now j c.args.v) _ _ _ c.any.ensures.ran (YieldsList-from_range 0 c.args.i c.args.i refl (omega arith)) (λ x b q k. search (rules, tests))
    ∙ below_any c.args.work.now c.args.v c.args.i
