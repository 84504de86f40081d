-- `is_phandle_name` meets its contract: the two names.
use Rattle.rules.specs.Octets.{ascii}
use Rattle.rules.specs.Tree.{among, phandle_names}
use Rattle.passes.proofs.Watched.{equal_same}
use Rattle.passes.proofs.words.is_phandle_name.Goals as goal

pub returns : goal.returns
unfolding among phandle_names ascii
returns c = simp equal_same at c.contains.ensures.value
