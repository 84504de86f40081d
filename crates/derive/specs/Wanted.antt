-- What a request comes to in the tree, as the definitions have it.
use Rattle.rules.specs.Copy.{Asked}
use Rattle.derive.specs.declared.marked.Wanted.{Wanted}

abbrev pub wanted_lent : Wanted → Asked
wanted_lent w = record { conf = w.conf.now; excl = w.excl.now; ids = w.ids.now }
