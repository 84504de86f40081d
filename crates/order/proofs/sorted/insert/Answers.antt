-- `insert` meets its contract: those from its place on are copied one further, and it is put in front of them.
use mathlib.Core.Path.{◌∙◌, ap}
use mathlib.Core.List.{List}
use Prim.Native.Nat.{ℕ, ◌+◌}
use native.Mathlib.Omega.{arith}
use lib.ListN.{set}
use Rattle.rules.specs.Laws.Constants.{STACK_AT}
use Rattle.rules.proofs.Laws.Constants.{stack_at_lem}
use Rattle.order.proofs.Regions.{copied, room}
use Rattle.order.proofs.sorted.insert.Goals as goal

pub overflow_add-place : goal.overflow_add-place
overflow_add-place c = omega (arith, room, stack_at_lem, c.requires)

pub overflow_add-n : goal.overflow_add-n
overflow_add-n c = omega (arith, room, stack_at_lem, c.requires)

pub overflow_add-place-2 : goal.overflow_add-place-2
overflow_add-place-2 c = omega (arith, room, stack_at_lem, c.requires)

pub copy_within-requires-clause-in_bounds : goal.copy_within-requires-clause-in_bounds
copy_within-requires-clause-in_bounds c = omega (arith, room, stack_at_lem, c.requires)

pub copy_within-requires-clause-dest_in_bounds : goal.copy_within-requires-clause-dest_in_bounds
copy_within-requires-clause-dest_in_bounds c = omega (arith, room, stack_at_lem, c.requires)

pub offset_bounds-work-place : goal.offset_bounds-work-place
offset_bounds-work-place c = omega (arith, room, stack_at_lem, c.requires)

pub bounds-work-place : goal.bounds-work-place
bounds-work-place c = omega (arith, room, stack_at_lem, c.requires, c.copy_within.ensures.len)

pub returns : goal.returns
returns c =
    ap (λ (vs : List ℕ). set vs (STACK_AT + c.args.at) c.args.x) c.copy_within.ensures.after
    ∙ copied c.args.work.now c.args.n c.args.at c.args.x (STACK_AT + c.args.at) (omega (arith, stack_at_lem)) c.requires.0 (omega (arith, room, c.requires)) (STACK_AT + c.args.n) (omega (arith, stack_at_lem))
