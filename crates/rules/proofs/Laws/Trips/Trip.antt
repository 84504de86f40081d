-- "Reading gives back what was written if the tree has one empty-named root and passes 6 to 12", and only then; and header,
-- reservations, boot CPU and events read back whatever the tree.
use Rattle.std.specs.Prelude.{◌≡◌, Bool, true, List, [], ◌∷◌}
use Rattle.std.proofs.Common.{sym, ◌∙◌}
use Prim.Native.Nat.{ℕ}
use Rattle.std.proofs.Math.ListN.{length}
use Rattle.std.proofs.lemmas.Bool.{not-false}
use Rattle.rules.specs.Octets.{Bytes}
use Rattle.rules.specs.Outcome.{gives}
use Rattle.rules.specs.Names.{property_name_valid, property_name_reads}
use Rattle.rules.specs.Reservations.{Entry}
use Rattle.rules.specs.Writer.{begin_judged, begin_node, property_judged, property, phandle_name, phandle_judged, phandle, start_judged, start}
use Rattle.rules.specs.Written.{Call, boot_cpu, begin, end, bytes, null, string, string_list, number32, number64, array32, array64, phandle_call, Desk, property_call, call, run, started, written, said, boot_said}
use Rattle.rules.specs.Listing.{◌∈◌}
use Rattle.rules.specs.Demands.{WriteThenRead}
use Rattle.rules.proofs.Laws.Verdicts.{then_passes}
use Rattle.rules.proofs.Laws.Shape.{valid_nul, property_nul}
use Rattle.rules.proofs.Laws.ReadBack.{Clean}
use Rattle.rules.proofs.Laws.BlobBack.{carries, fit_accepted, accepted_fit}
use Rattle.rules.proofs.Laws.Trips.Tests.{none_fails, begin_tests, begin_tests_lem, hold_tests, hold_tests_lem, phandle_tests, phandle_tests_lem}
use Rattle.rules.proofs.Laws.Trips.Calls.{accepted}
use Rattle.rules.proofs.Laws.Trips.Finish.{ends_well, written_blob}

-- ---- the names of calls that were accepted have no NUL

valid_reads : (name : Bytes) → property_name_valid name ≡ true → property_name_reads name ≡ true
unfolding property_name_reads
valid_reads name h = h

module _ (d e : Desk) where
  begin_clean : (name : Bytes) → call d (begin name) ≡ gives e → 0 ∈ name → ⊥
  unfolding call begin_node
  begin_clean name h =
      let n : ℕ = length d.«data» in
      let t = then_passes (begin_judged d.state n name) _ e h in
      let p = none_fails (begin_tests d.state n name) (sym (begin_tests_lem d.state n name) ∙ t.0) in
      valid_nul name (not-false _ p.1.1.1.0)

  hold_clean : (own : Bool) (name value : Bytes) → property_call d own name value ≡ gives e → 0 ∈ name → ⊥
  unfolding property_call property
  hold_clean own name value h =
      let n : ℕ = length d.«data» in
      let t = then_passes (property_judged d.state n d.strings own name value) _ e h in
      let p = none_fails (hold_tests d.state n d.strings own name value) (sym (hold_tests_lem d.state n d.strings own name value) ∙ t.0) in
      property_nul name (valid_reads name (not-false _ p.1.1.1.1.1.0))

  phandle_clean : (value : ℕ) → call d (phandle_call value) ≡ gives e → 0 ∈ phandle_name → ⊥
  unfolding call phandle
  phandle_clean value h =
      let n : ℕ = length d.«data» in
      let t = then_passes (phandle_judged d.state n d.strings d.phandles value) _ e h in
      let p = none_fails (phandle_tests d.state n d.strings d.phandles value)
      (sym (phandle_tests_lem d.state n d.strings d.phandles value) ∙ t.0) in
      property_nul phandle_name (valid_reads phandle_name (not-false _ p.1.1.1.1.1.1.0))

clean_more : (d e : Desk) (c : Call) (cs : List Call) → call d c ≡ gives e → Clean (said cs) → Clean (said (c ∷ cs))
unfolding said call
clean_more d e (boot_cpu m) cs g h = h
clean_more d e (begin name) cs g h = (begin_clean d e name g, h)
clean_more d e (end depth) cs g h = h
clean_more d e (bytes name value) cs g h = (hold_clean d e _ name _ g, h)
clean_more d e (null name) cs g h = (hold_clean d e _ name _ g, h)
clean_more d e (string name value) cs g h = (hold_clean d e _ name _ g, h)
clean_more d e (string_list name value) cs g h = (hold_clean d e _ name _ g, h)
clean_more d e (number32 name value) cs g h = (hold_clean d e _ name _ g, h)
clean_more d e (number64 name value) cs g h = (hold_clean d e _ name _ g, h)
clean_more d e (array32 name values) cs g h = (hold_clean d e _ name _ g, h)
clean_more d e (array64 name values) cs g h = (hold_clean d e _ name _ g, h)
clean_more d e (phandle_call value) cs g h = (phandle_clean d e value g, h)

run_clean : (cs : List Call) (d e : Desk) → run cs d ≡ gives e → Clean (said cs)
unfolding run said
run_clean [] d e g = tt
run_clean (c ∷ cs) d e g =
    let a = accepted (run cs) (call d c) e g in
    clean_more d a.0 c cs a.1 (run_clean cs a.0 e a.2)

pub written_clean : (rs : List Entry) (lent strings : Bytes) (phandles : List ℕ) (cs : List Call) (blob : Bytes)
    → written rs lent strings phandles cs ≡ gives blob → Clean (said cs)
unfolding written start
written_clean rs lent strings phandles cs blob h =
    let t = then_passes (start_judged (length lent) rs (length rs)) _ blob h in
    let a = ends_well (run cs (started rs lent strings phandles)) blob t.1 in
    run_clean cs (started rs lent strings phandles) a.0 a.1

-- WRITE, THEN READ
pub write_then_read : WriteThenRead
write_then_read rs lent strings phandles cs blob h boot =
    let t = written_blob rs lent strings phandles cs blob h in
    let c = written_clean rs lent strings phandles cs blob h in
    let f = rw t.0 at t.1 in
    rw t.0 (
      carries rs (boot_said 0 cs) (said cs) t.2 boot c f,
      (
        λ a. accepted_fit rs (boot_said 0 cs) (said cs) t.2 boot c f a,
        λ a. fit_accepted rs (boot_said 0 cs) (said cs) t.2 boot c f a,
      ),
    )
