-- `rank` meets its contract: the nodes before x stand in front of the others, and those are counted.
use mathlib.Core.Path.{◌≡◌}
use Prim.Native.Nat.{◌+◌, ◌-◌, ◌≤◌}
use native.Mathlib.Omega.{arith}
use lib.ListN.{length}
use Rattle.std.proofs.Common.{rules, tests}
use Rattle.std.proofs.lemmas.List.Sorted.{IsPartitionPoint-from_clause}
use Rattle.rules.specs.Space.{stack_at}
use Rattle.rules.specs.Laws.Constants.{STACK_AT}
use Rattle.rules.specs.Laws.Lent.{block_lent, tree_lent}
use Rattle.rules.proofs.Laws.Constants.{stack_at_lem}
use Rattle.rules.proofs.Laws.Tabled.{tree_length}
use Rattle.order.proofs.Regions.{room, is_earlier, many, parted, between}
use Rattle.order.proofs.sorted.rank.Goals as goal

pub overflow_add-nodes : goal.overflow_add-nodes
overflow_add-nodes c = omega (arith, room, stack_at_lem, c.requires)

pub slice_bounds-nodes-end : goal.slice_bounds-nodes-end
slice_bounds-nodes-end c = omega (arith, room, stack_at_lem, c.requires)

pub returns-clause-met : goal.returns-clause-met
returns-clause-met c = λ w o h.
    let t = tree_lent c.args.tree.now in
    let ws = c.args.tree.now.work.now in
    let n = c.args.n in
    let count = c.args.tree.now.count in
    let q : STACK_AT + n - STACK_AT ≡ n = omega arith in
    let l : stack_at + n ≤ length ws = omega (arith, room, c.requires) in
    let size = tree_length (block_lent c.args.tree.now.block) ws count 0 in
    let few : c.partition_point.result ≤ n = omega (arith, c.partition_point.ensures.bound, many ws n STACK_AT (STACK_AT + n - STACK_AT) stack_at_lem q l) in
    let ranked = IsPartitionPoint-from_clause (is_earlier t count c.args.x) _ c.partition_point.result c.partition_point.ensures.partitioned (parted ws n STACK_AT (STACK_AT + n - STACK_AT) stack_at_lem q l t count c.args.x size o) (λ a r f k. search (rules, tests)) in
    between ws n STACK_AT (STACK_AT + n - STACK_AT) stack_at_lem q l t count c.args.x size o c.partition_point.result few ranked
