-- The laws of path lists that are judged: part by part, and, where they pass, what stands in front of the arrays of nodes.
use Rattle.std.specs.Prelude.{◌≡◌, refl, ℕ, ◌≤◌, length, take}
use Rattle.std.proofs.Common.{sym, ◌∙◌}
use Rattle.std.proofs.Math.Path.{ap}
use mathlib.Core.List.{List, []}
use Rattle.rules.specs.Ceilings.{entry_ceiling}
use Rattle.rules.specs.Octets.{lay}
use Rattle.rules.specs.Outcome.{Outcome, Verdict, passes, gives, refuses, ◌then◌}
use Rattle.rules.specs.Tree.{Frame}
use Rattle.rules.specs.Derivation.{Request, given, nodes_named, lists_judged, configured_from, configured_judged, asked}
use Rattle.rules.proofs.Laws.Verdicts.{gives_refuses, then_passes, then_refuses, then_gives}
use Rattle.rules.proofs.Laws.Octets.{length_lay}
use Rattle.rules.proofs.Laws.Given.{lists_few}
use Rattle.rules.proofs.Laws.Host.{named_front}
use Rattle.asked.specs.Nodes.{configured_nodes, configured_outcome}
use Rattle.asked.specs.Judged.{Checks, Judges}
use Rattle.asked.proofs.Nodes.{configured_whole}

module _ {f : Frame} {q : Request} {verdict rest : Verdict} (j : Judges f q verdict rest) where
  pub granted : verdict ≡ passes → (lists_judged q ≡ passes) × (configured_judged f q ≡ passes)
  granted p =
      let a = then_passes (lists_judged q) (configured_judged f q then rest) tt (sym j.so ∙ p) in
      (a.0, (then_passes (configured_judged f q) rest tt a.1).0)

  -- ---- judged part by part

  module _ (old : List ℕ) (said : Outcome ℕ) where
    pub checks_lists : (at : ℕ) → said ≡ refuses 41 at → refuses 41 at ≡ lists_judged q → Checks f q verdict old old said
    checks_lists at a e = record {
      answer = a ∙ rw (j.so, ← e);
      nodes = λ p. gives_refuses tt 41 at (e ∙ (granted p).0);
      size = refl;
    }

    module _ (passed : passes ≡ lists_judged q) (new : List ℕ) (laid : new ≡ lay old 0 (configured_nodes f q.configured)) where
      length-new : length new ≡ length old
      length-new = ap length laid ∙ length_lay old 0 (configured_nodes f q.configured)

      pub checks-named : (at : ℕ) → said ≡ refuses 42 at → refuses 42 at ≡ configured_outcome f q.configured → Checks f q verdict old new said
      unfolding configured_judged configured_outcome
      checks-named at a e =
          let g : configured_from f [] (given q.configured) ≡ refuses 42 at = then_refuses (configured_from f [] (given q.configured)) _ 42 at e in
          record {
            answer = a ∙ rw (j.so, ← passed, g);
            nodes = λ p. gives_refuses tt 42 at (sym g ∙ (granted p).1);
            size = length-new;
          }

      pub checks-whole : (n : ℕ) → gives n ≡ configured_outcome f q.configured → said ≡ (rest then gives n) → Checks f q verdict old new said
      unfolding configured_judged configured_outcome asked
      checks-whole n e a =
          let g = then_gives (configured_from f [] (given q.configured)) n _ e in
          let w = configured_whole f q.configured g.0 in
          record {
            answer = a ∙ rw (j.so, ← passed, g.0, g.1, w);
            nodes = λ p. laid ∙ ap (lay old 0) w;
            size = length-new;
          }

  -- ---- what was judged

  module _ (old new : List ℕ) (said : Outcome ℕ) (c : Checks f q verdict old new said) where
    pub refused_so : (number place : ℕ) → said ≡ refuses number place → verdict ≡ refuses number place
    refused_so number place e = then_refuses verdict _ number place (sym e ∙ c.answer)

    module _ (n : ℕ) (e : said ≡ gives n) where
      passed-so : (verdict ≡ passes) × (n ≡ length (asked f q).conf)
      passed-so = then_gives verdict n _ (sym e ∙ c.answer)

      pub passed : verdict ≡ passes
      passed = passed-so.0

      few : (length (given q.configured) ≤ entry_ceiling) × (length (given q.excluded) ≤ entry_ceiling)
      few = lists_few q (granted passed).0

      -- the nodes configured stand in front of their array, and so do the nodes excluded
      module _ (room : entry_ceiling ≤ length old) where
        pub conf-is : take n new ≡ (asked f q).conf
        unfolding asked
        conf-is = named_front f (given q.configured) few.0 old new n room passed-so.1 (c.nodes passed)

      module _ (zeroed excl : List ℕ) (m : ℕ) (wide : entry_ceiling ≤ length zeroed) (many : m ≡ length (nodes_named f (given q.excluded)))
          (laid : excl ≡ lay zeroed 0 (nodes_named f (given q.excluded))) where
        pub excl-is : take m excl ≡ (asked f q).excl
        unfolding asked
        excl-is = named_front f (given q.excluded) few.1 zeroed excl m wide many laid
