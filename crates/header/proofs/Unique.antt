-- Any two answers that the promise of `judge` allows are equal.
use Rattle.std.specs.Prelude.{Result, Ok, Err, if◌then◌else◌}
use mathlib.Core.Path.{◌≡◌, refl, sym, ap, ◌∙◌}
use lib.Dec.{eqb}
use Rattle.rules.specs.Octets.{Bytes}
use Rattle.rules.specs.Outcome.{Verdict, gives, refuses}
use Rattle.rules.proofs.Laws.Verdicts.{gives_refuses}
use Rattle.header.specs.declared.Parts.{Parts}
use Rattle.header.specs.declared.Refusal.{Refusal}
use Rattle.header.specs.declared.Refusal.TheVariants.{Short, Magic, Total, Version, Layout}
use Rattle.header.specs.Header.{refused, Heads}

refusal_of : Verdict → Refusal
refusal_of (gives u) = Layout
refusal_of (refuses number place) =
    if eqb number 1 then Short
    else if eqb number 2 then Magic
    else if eqb number 3 then Total
    else if eqb number 4 then Version
    else Layout

refusal_of_lem : (r : Refusal) → refusal_of (refused r) ≡ r
unfolding refusal_of
refusal_of_lem Short = refl
refusal_of_lem Magic = refl
refusal_of_lem Total = refl
refusal_of_lem Version = refl
refusal_of_lem Layout = refl

-- a header that passes is not refused
never_both : {X : Type 0} (v : Verdict) (r : Refusal) → v ≡ gives tt → v ≡ refused r → X
never_both v Short p q = gives_refuses tt 1 0 (sym q ∙ p)
never_both v Magic p q = gives_refuses tt 2 0 (sym q ∙ p)
never_both v Total p q = gives_refuses tt 3 0 (sym q ∙ p)
never_both v Version p q = gives_refuses tt 4 0 (sym q ∙ p)
never_both v Layout p q = gives_refuses tt 5 0 (sym q ∙ p)

pub one_head : (b : Bytes) (a c : Result Parts Refusal) → Heads b a → Heads b c → a ≡ c
one_head b (Ok p) (Ok q) f g = λ i. Ok (record {
  structure = (f.structure ∙ sym g.structure) i;
  structure_size = (f.structure_size ∙ sym g.structure_size) i;
  strings = (f.strings ∙ sym g.strings) i;
  strings_size = (f.strings_size ∙ sym g.strings_size) i;
})
one_head b (Ok p) (Err r) f g = never_both _ r f.judged g
one_head b (Err r) (Ok q) f g = never_both _ r g.judged f
one_head b (Err r) (Err s) f g = ap Err (sym (refusal_of_lem r) ∙ ap refusal_of (sym f ∙ g) ∙ refusal_of_lem s)
