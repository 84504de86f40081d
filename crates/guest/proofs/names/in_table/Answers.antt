-- `in_table` meets its contract: the words of the table are those that are taken out of the work space, and each is met from one
-- of its ends.
use mathlib.Core.Path.{sym, ap, ◌∙◌}
use mathlib.Core.Bool.{◌||◌}
use Prim.Native.Nat.{ℕ}
use native.Mathlib.Omega.{arith}
use Rattle.std.proofs.Common.{rules, tests}
use Rattle.std.proofs.lemmas.Iterator.{YieldsList-from_slice, YieldsList-from_zip}
use Rattle.std.proofs.lemmas.Iterator.Adapters.{YieldsList-from_rev_slice}
use Rattle.std.proofs.lemmas.Iterator.Consumers.{YieldsList-at}
use Rattle.std.proofs.lemmas.Iterator.Search.{any_from_yields_List}
use Rattle.std.specs.Slice.Iter.{iter_rest}
use Rattle.rules.specs.Octets.{same}
use Rattle.rules.specs.Events.{string_at}
use Rattle.rules.proofs.Laws.Constants.{work_words_lem, stack_at_lem}
use Rattle.guest.specs.Measured.{in_table}
use Rattle.guest.proofs.Noted.{table_hit, table_ends, space}
use Rattle.guest.proofs.names.in_table.Goals as goal

pub overflow_add-table : goal.overflow_add-table
overflow_add-table c = omega (arith, space, stack_at_lem, work_words_lem, c.requires)

pub slice_bounds-table-end : goal.slice_bounds-table-end
slice_bounds-table-end c = omega (arith, space, stack_at_lem, work_words_lem, c.requires)

pub returns : goal.returns
returns c =
    table_hit c.args.strings.now c.args.work.now _ c.args.names c.in-Ok.word _ (omega arith) stack_at_lem (omega (arith, space, c.requires)) (sym c.contains.ensures.value ∙ c.if-contains.true)
    ∙ ap (λ (o : ℕ). in_table c.args.strings.now c.args.work.now c.args.names (string_at c.args.strings.now o)) c.in-Ok.ensures.1

pub offset_bounds-table-half : goal.offset_bounds-table-half
offset_bounds-table-half c = omega (arith, space, stack_at_lem, work_words_lem, c.requires)

pub returns-2 : goal.returns-2
returns-2 c =
    let called = any_from_yields_List (λ (p : ℕ × ℕ). same (string_at c.args.strings.now c.args.offset) (string_at c.args.strings.now p.0) || same (string_at c.args.strings.now c.args.offset) (string_at c.args.strings.now p.1)) c.any.new.self _ c.any.result c.any.ensures.ran (YieldsList-from_zip {s = c.zip.result} (YieldsList-at c.zip.ensures.first (YieldsList-from_slice _ c.iter-2.ensures.rest)) (YieldsList-at c.zip.ensures.second (YieldsList-from_rev_slice _ (ap iter_rest c.rev-newest.ensures.source ∙ c.iter.ensures.rest)))) (λ x b q k. search (rules, tests)) in
    called ∙ table_ends c.args.strings.now c.args.work.now _ c.args.names (string_at c.args.strings.now c.args.offset) _ _ _ _ (omega arith) stack_at_lem (omega (arith, space, c.requires)) (omega arith) (omega arith) (omega arith)
