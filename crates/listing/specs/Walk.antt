-- The work list, done.
use Rattle.std.specs.Prelude.{◌≡◌, List, ◌++◌, reverse, ℕ, ◌+◌, ◌-◌}
use Rattle.rules.specs.Blob.{Block}
use Rattle.rules.specs.References.{edition1, targets}
use Rattle.rules.specs.Listing.{work}
use Rattle.rules.specs.Laws.Tabled.{tree_in}
use Rattle.rules.specs.Space.{list_in, stack_in}
use Rattle.listing.specs.State.{Apart, Marked}

-- What the work list comes to, from n nodes listed and s on the stack. Each turn takes a node, and no node twice.
abbrev pub work_from : Block → (table words : List ℕ) (count n s : ℕ) → List ℕ
work_from b ts ws count n s = list_in ws n ++ work (targets edition1 (tree_in b ts count)) (count + s - n) (reverse (stack_in ws s)) (list_in ws n)

pub record Walked (b : Block) (ws : List ℕ) (count n s : ℕ) (vs : List ℕ) (m : ℕ) : Type 0 where
  pub apart : Apart ws vs
  pub marked : Marked vs count m
  pub list : list_in vs m ≡ work_from b ws ws count n s
