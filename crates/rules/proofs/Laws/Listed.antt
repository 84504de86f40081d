-- Demand 2 of the list: a path is listed exactly if 01's rule says so, and once.
use Rattle.std.specs.Prelude.{◌≡◌}
use Rattle.rules.specs.Outcome.{passes, ◌then◌}
use Rattle.rules.specs.Tree.{Tree, frame}
use Rattle.rules.specs.Reader.{tree_read}
use Rattle.rules.specs.Derivation.{Request, asked, lists_judged, configured_judged, cpus_judged, ids_from, request_judged, listed_paths}
use Rattle.rules.specs.Demands.{ListedExactly, ListedOnce}
use Rattle.rules.proofs.Laws.Verdicts.{then_passes}
use Rattle.rules.proofs.Laws.Formed.{read_formed, conf_distinct, conf_small}
use Rattle.rules.proofs.Laws.Listing.{paths_iff, paths_once}

pub lists_granted : (t : Tree) (q : Request) → request_judged t q ≡ passes → lists_judged q ≡ passes
unfolding request_judged
lists_granted t q h = (then_passes (lists_judged q) (configured_judged (frame t) q then cpus_judged t q.ids then ids_from t 0 q.ids) tt h).0

pub configured_granted : (t : Tree) (q : Request) → request_judged t q ≡ passes → configured_judged (frame t) q ≡ passes
unfolding request_judged
configured_granted t q h =
    let a = then_passes (lists_judged q) (configured_judged (frame t) q then cpus_judged t q.ids then ids_from t 0 q.ids) tt h in
    (then_passes (configured_judged (frame t) q) (cpus_judged t q.ids then ids_from t 0 q.ids) tt a.1).0

pub listed_exactly : ListedExactly
unfolding listed_paths
listed_exactly r host q g =
    let t : Tree = tree_read host in
    paths_iff r t (asked (frame t) q).conf (asked (frame t) q).excl (read_formed host g.read)
    (conf_distinct (frame t) q (configured_granted t q g.request)) (conf_small (frame t) q)

pub listed_once : ListedOnce
unfolding listed_paths
listed_once r host q g =
    let t : Tree = tree_read host in
    paths_once r t (asked (frame t) q).conf (asked (frame t) q).excl (read_formed host g.read)
    (conf_distinct (frame t) q (configured_granted t q g.request)) (conf_small (frame t) q)
