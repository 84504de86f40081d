-- `find` meets its contract: what the search answers, by the order of the names.
use Rattle.std.proofs.Common.{rules}
use Rattle.std.proofs.lemmas.Fn.{always_returns_same}
use Rattle.doubled.proofs.Chunks.{stands, finds_by}
use Rattle.doubled.proofs.sorted.find.Goals as goal

pub returns : goal.returns
returns c =
    finds_by c.args.strings.now c.args.work.now c.args.n c.args.name.now c.requires.0 c.requires.1 c.binary_search_by.result c.binary_search_by.ensures.bound
    (c.binary_search_by.ensures.position (stands c.args.strings.now c.args.name.now) (always_returns_same _ _ _ (λ a r q k. search rules)))
