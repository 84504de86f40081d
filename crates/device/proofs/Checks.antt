-- The lists, and nothing judged behind them.
use mathlib.Core.Path.{sym, ap}
use Rattle.rules.specs.Octets.{Bytes}
use Rattle.rules.specs.Outcome.{Verdict, passes, ◌then◌}
use Rattle.rules.specs.Tree.{Tree, frame}
use Rattle.rules.specs.Derivation.{lists_judged, configured_judged}
use Rattle.rules.specs.Device.{wanted}
use Rattle.rules.proofs.Laws.Verdicts.{then_end}
use Rattle.asked.specs.Judged.{Judges}
use Rattle.device.specs.Answered.{wanted_judged}

pub wanted_so : (t : Tree) (configured excluded : Bytes) → Judges (frame t) (wanted configured excluded) (wanted_judged t configured excluded) passes
unfolding wanted_judged
wanted_so t configured excluded = record {
  so = ap (λ (v : Verdict). lists_judged (wanted configured excluded) then v) (sym (then_end (configured_judged (frame t) (wanted configured excluded))));
}
