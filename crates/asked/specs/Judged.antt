-- Path lists that are judged, 41 and then 42, whatever is judged behind them: the answer, and the nodes laid into an array.
use Rattle.std.specs.Prelude.{◌≡◌, ℕ, length}
use mathlib.Core.List.{List}
use Rattle.rules.specs.Octets.{lay}
use Rattle.rules.specs.Outcome.{Outcome, Verdict, passes, gives, ◌then◌}
use Rattle.rules.specs.Tree.{Frame}
use Rattle.rules.specs.Derivation.{Request, lists_judged, configured_judged, asked}

-- how many nodes are configured, or the refusal of `verdict`; and, where it passes, the nodes
pub record Checks (f : Frame) (q : Request) (verdict : Verdict) (old new : List ℕ) (said : Outcome ℕ) : Type 0 where
  pub answer : said ≡ (verdict then gives (length (asked f q).conf))
  pub nodes : verdict ≡ passes → new ≡ lay old 0 (asked f q).conf
  pub size : length new ≡ length old

-- a verdict that judges the lists, and then the rest
pub record Judges (f : Frame) (q : Request) (verdict rest : Verdict) : Type 0 where
  pub so : verdict ≡ (lists_judged q then configured_judged f q then rest)
