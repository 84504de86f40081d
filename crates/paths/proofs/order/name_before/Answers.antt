-- `name_before` meets its contract.
use mathlib.Core.Path.{◌≡◌, refl, ◌∙◌}
use mathlib.Core.List.{◌++◌}
use Rattle.std.specs.Ordering.{nat_cmp}
use Rattle.std.proofs.lemmas.Iterator.{YieldsList-from_slice}
use Rattle.std.proofs.lemmas.Iterator.Consumers.{YieldsList-from_chain}
use Rattle.std.proofs.lemmas.Iterator.Search.{cmp_from_yields_List}
use Rattle.paths.specs.Order.{slash}
use Rattle.paths.proofs.Names.{less_before}
use Rattle.paths.proofs.order.name_before.Goals as goal

pub returns : goal.returns
returns c =
    let a = c.args in
    c.is_lt.ensures
    ∙ less_before (a.n.now ++ slash a.more) (a.o.now ++ slash a.other) c.cmp.result
    (cmp_from_yields_List (λ x y. y ≡ x) _ nat_cmp _ c.cmp.ensures.ran
    (YieldsList-from_chain (YieldsList-from_slice a.n.now cc) (YieldsList-from_slice (slash a.more) cc) (cc) (cc))
    (λ it e. YieldsList-from_chain (YieldsList-from_slice a.o.now cc) (YieldsList-from_slice (slash a.other) cc) (cc) (cc))
    (λ x y. refl))
