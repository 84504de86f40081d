-- `list_below` meets its contract. The invariant: what the start nodes below p are to bring is there, but for what those from here
-- on bring.
use Rattle.rules.specs.Laws.Lent.{block_lent}
use Rattle.listing.specs.State.{Gains}
use Rattle.listing.specs.Given.{below_in}
use Rattle.listing.proofs.Gained.{below_from}
use Rattle.listing.proofs.given.list_below.Given as goal

abbrev pub invariant-loop-k : goal.invariant-loop-k
invariant-loop-k l = Gains l.count l.initial.work l.listed (below_in (block_lent l.block) l.initial.work l.count l.starts l.p) l.work l.n (below_from (block_lent l.block) l.initial.work l.count l.starts l.p l.k)
