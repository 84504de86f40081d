-- `list_each` meets its contract. The invariant: what each of the configured nodes is to bring is there, but for what those from
-- here on bring.
use lib.ListN.{drop}
use Rattle.rules.specs.Laws.Lent.{block_lent}
use Rattle.listing.specs.Given.{with_below, Gathers}
use Rattle.listing.proofs.given.list_each.Given as goal

abbrev pub invariant-loop-p : goal.invariant-loop-p
invariant-loop-p l = Gathers l.count l.initial.work l.listed (with_below (block_lent l.block) l.initial.work l.count l.starts) l.conf l.work l.n (drop l.p-index l.conf)
