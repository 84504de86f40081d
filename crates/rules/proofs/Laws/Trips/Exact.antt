-- The reader's walk accepts exactly what the grammar derives within 01's limits, and events are of one forest only.
use Rattle.std.specs.Prelude.{◌≡◌, refl, ◌↔◌, List, [], ◌∷◌}
use Rattle.std.proofs.Common.{sym, ap, subst}
use Rattle.rules.specs.Octets.{Bytes}
use Rattle.rules.specs.Outcome.{passes}
use Rattle.rules.specs.Blob.{Block}
use Rattle.rules.specs.Events.{Property, Event, opens, has, closes, shape_judged}
use Rattle.rules.specs.Written.{has_said}
use Rattle.rules.specs.Grammar.{Forest, empty, node, Structure, Limits, tell_props, tell}
use Rattle.rules.proofs.Laws.Trips.Derived.{grammar_passes}
use Rattle.rules.proofs.Laws.Trips.Parsed.{reads_grammar}

-- ---- the walk and the grammar

-- THE WALK ACCEPTS EXACTLY WHAT THE GRAMMAR DERIVES WITHIN 01'S LIMITS
pub accepts_exactly : (b : Block) → (shape_judged b ≡ passes) ↔ ((f : Forest) × Structure b.strings b.structure f × Limits f)
accepts_exactly b = (
  λ h. let x = reads_grammar b h in (x.0, x.1, x.2),
  λ x. grammar_passes b x.0 x.1 x.2,
)

-- ---- one tree

-- events that open nothing, and events that are no property
abbrev pub Shut : List Event → Type 0
Shut [] = Unit {0}
Shut (opens place name ∷ es) = ⊥
Shut (has p ∷ es) = ⊥
Shut (closes place ∷ es) = Unit {0}

abbrev NoProp : List Event → Type 0
NoProp [] = Unit {0}
NoProp (opens place name ∷ es) = Unit {0}
NoProp (has p ∷ es) = ⊥
NoProp (closes place ∷ es) = Unit {0}

tell_no_prop : (f : Forest) (es : List Event) → NoProp (tell f (closes 0 ∷ es))
unfolding tell
tell_no_prop empty es = tt
tell_no_prop (node name props below beside) es = tt

same_prop : (p q : Bytes × Bytes) (es fs : List Event) → has_said p.0 p.1 ∷ es ≡ has_said q.0 q.1 ∷ fs → (p ≡ q) × (es ≡ fs)
same_prop p q es fs e =
    let r : ◌≡◌ {A = Property} (record { place = 0; name = p.0; value = p.1 }) (record { place = 0; name = q.0; value = q.1 }) = cc in
    let n : p.0 ≡ q.0 = ap (λ (x : Property). x.name) r in
    let v : p.1 ≡ q.1 = ap (λ (x : Property). x.value) r in
    (λ i. (n i, v i), cc)

one_props : (ps qs : List (Bytes × Bytes)) (es fs : List Event) → NoProp es → NoProp fs → tell_props ps es ≡ tell_props qs fs → (ps ≡ qs) × (es ≡ fs)
unfolding tell_props
one_props [] [] es fs h k e = (refl, e)
one_props [] (q ∷ qs) es fs h k e = absurd (subst NoProp e h)
one_props (p ∷ ps) [] es fs h k e = absurd (subst NoProp (sym e) k)
one_props (p ∷ ps) (q ∷ qs) es fs h k e =
    let x = same_prop p q (tell_props ps es) (tell_props qs fs) e in
    let y = one_props ps qs es fs h k x.1 in
    (λ i. x.0 i ∷ y.0 i, y.1)

same_open : (a c : Bytes) (es fs : List Event) → ◌≡◌ {A = List Event} (opens 0 a ∷ es) (opens 0 c ∷ fs) → (a ≡ c) × (es ≡ fs)
same_open a c es fs e = (cc, cc)

same_close : (es fs : List Event) → ◌≡◌ {A = List Event} (closes 0 ∷ es) (closes 0 ∷ fs) → es ≡ fs
same_close es fs e = cc

pub one_forest : (f g : Forest) (es fs : List Event) → Shut es → Shut fs → tell f es ≡ tell g fs → (f ≡ g) × (es ≡ fs)
unfolding tell
one_forest empty empty es fs h k e = (refl, e)
one_forest empty (node name props below beside) es fs h k e = absurd (subst Shut e h)
one_forest (node name props below beside) empty es fs h k e = absurd (subst Shut (sym e) k)
one_forest (node name props below beside) (node name' props' below' beside') es fs h k e =
    let o = same_open name name' _ _ e in
    let p = one_props props props' _ _ (tell_no_prop below (tell beside es)) (tell_no_prop below' (tell beside' fs)) o.1 in
    let b = one_forest below below' (closes 0 ∷ tell beside es) (closes 0 ∷ tell beside' fs) tt tt p.1 in
    let c = one_forest beside beside' es fs h k (same_close (tell beside es) (tell beside' fs) b.1) in
    (λ i. node (o.0 i) (p.0 i) (b.0 i) (c.0 i), c.1)
