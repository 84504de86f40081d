-- `cells_name` meets its contract: the table is the rows, and any other name goes by its ending.
use mathlib.Core.Path.{◌≡◌, refl, sym, ap, ◌∙◌}
use Rattle.std.proofs.Common.{rules}
use mathlib.Core.Option as math
use Rattle.std.specs.Prelude.{Option, Bool, true, false, if◌then◌else◌}
use Rattle.std.specs.Bool.{then_some}
use Rattle.std.specs.Option.{option_map}
use Rattle.std.proofs.lemmas.Iterator.{YieldsList-from_slice}
use Rattle.std.proofs.lemmas.Iterator.Search.{find_from_yields_List}
use Rattle.std.specs.Slice.Iter.{iter_rest}
use borrow.Author.Tests.{tests}
use denote.Ref.{Bor}
use Rattle.rules.specs.Octets.{ascii}
use Rattle.rules.specs.References.{cell_rows, is_gpio}
use Rattle.references.specs.Rows.{meaning}
use Rattle.references.specs.declared.rows.Cells.TheVariants.{Gpio}
use Rattle.references.specs.declared.rows.Row.{Row}
use Rattle.references.proofs.Names.{asks, row_asks, none_asks}
use Rattle.references.proofs.rows.cells_name.Goals as goal

abbrev now : Option (Bor Row) → Option Row
now r = option_map (λ (y : Bor Row). y.now) r

pub returns-in-Some : goal.returns-in-Some
unfolding ascii cell_rows
returns-in-Some c =
    let f = find_from_yields_List (asks c.args.name.now) _ _ c.find.result c.find.ensures.ran (YieldsList-from_slice (iter_rest c.iter.result) refl) (λ x b q k. search (rules, tests)) in
    row_asks c.args.name.now cell_rows (iter_rest c.iter.result) (rw c.iter.ensures.rest refl) c.in-Some.row.now (sym f ∙ ap now c.in-Some.is)

pub returns : goal.returns
unfolding ascii cell_rows
returns c =
    let f = find_from_yields_List (asks c.args.name.now) _ _ c.find.result c.find.ensures.ran (YieldsList-from_slice (iter_rest c.iter.result) refl) (λ x b q k. search (rules, tests)) in
    by c.is_gpio.result c.is_gpio.ensures c.then_some.ensures ∙ none_asks c.args.name.now cell_rows (iter_rest c.iter.result) (rw c.iter.ensures.rest refl) (sym f ∙ ap now c.in_default.is)
  where
    by : (b : Bool) → b ≡ is_gpio c.args.name.now → c.then_some.result ≡ then_some b Gpio → meaning c.then_some.result ≡ (if is_gpio c.args.name.now then math.some "#gpio-cells" else math.none)
    by true e f = rw (f, ← e)
    by false e f = rw (f, ← e)
