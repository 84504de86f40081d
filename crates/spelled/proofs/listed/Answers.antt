-- `listed` meets its contract.
use Prim.Native.Nat.{◌+◌, ◌-◌}
use mathlib.Core.Path.{◌≡◌}
use native.Mathlib.Omega.{arith}
use Rattle.std.proofs.Common.{rules}
use Rattle.rules.specs.Laws.Constants.{LIST_AT}
use Rattle.rules.proofs.Laws.Constants.{list_at_lem}
use Rattle.rules.proofs.Laws.Kept.{node_word}
use Rattle.spelled.proofs.Spelt.{listed_inside}
use Rattle.spelled.proofs.listed.Goals as goal

pub overflow_add-result : goal.overflow_add-result
overflow_add-result c = let w = node_word in search rules

pub slice_bounds-result-end : goal.slice_bounds-result-end
slice_bounds-result-end c = listed_inside c.args.n _ c.requires.n_le_node_ceiling c.requires.work_words_in_bounds

pub returns : goal.returns
returns c = let e : LIST_AT + c.args.n - LIST_AT ≡ c.args.n = omega arith in rw (e, list_at_lem)
