-- A turn of the walk from what the definition's step is: one law for each turn.
use mathlib.Core.Path.{◌≡◌, refl, sym, ap, ◌∙◌}
use mathlib.Core.Bool.{Bool, true, false}
use Prim.Native.Nat.{ℕ, ◌<◌}
use Rattle.rules.specs.Ceilings.{open_ceiling, node_ceiling}
use Rattle.rules.specs.Outcome.{Verdict, Outcome, gives, refuses, ◌then◌}
use Rattle.rules.specs.Events.{Step, stop, done, go, opened, ending, after}
use Rattle.rules.specs.Events as events
use Rattle.rules.specs.Tree.{rest}
use Rattle.rules.specs.declared.Token.{Token}
use Rattle.rules.specs.declared.Token.TheVariants.{Item, End, Cut}
use Rattle.shape.specs.declared.Refusal.{Refusal}
use Rattle.shape.specs.declared.Refusal.TheVariants.{Shape, Name, Deep, Many}
use Rattle.std.specs.Prelude.{Ok, Err, ◌⊎◌, if◌then◌else◌, not}
use Rattle.std.proofs.Common.{inl, inr, arith, eqb, eq-eqb, ne_eqb}
use Rattle.rules.proofs.Laws.Tests.{by_test, by_le}
use Rattle.rules.proofs.Laws.Events.{opening_root, opening_inner, closing_none, closing_some, holding_none, holding_some, ending_none, ending_some}
use Rattle.shape.specs.declared.Walk.{Walk}
use Rattle.shape.specs.declared.Turn.{Turn}
use Rattle.shape.specs.declared.Turn.TheVariants.{Opens, Closes, Stays}
use Rattle.shape.specs.Answers.{refused}
use Rattle.shape.specs.Shape.{Stands, Does, Ends}

module _ {w : Walk} {place : ℕ} {step : events.Walk → Step} where
  pub stops : {good : Turn} (f : Refusal) (number : ℕ) → ◌≡◌ {A = Verdict} (refuses number place) (refused f) → ((v : events.Walk) → Stands w v → step v ≡ stop number) → Does w place good step (Err f)
  stops f number e h = record { same = λ v s next. ap (after next place) (h v s) ∙ e; only = tt; room = tt }

  pub opens : w.depth < open_ceiling → w.count < node_ceiling → ((v : events.Walk) → Stands w v → step v ≡ opened v) → Does w place Opens step (Ok Opens)
  opens d n h = record { same = λ v s next. ap (after next place) (h v s); only = refl; room = (d, n) }

  pub closes : 0 < w.depth
      → ((v : events.Walk) → Stands w v → step v ≡ go (record { stack = rest v.stack; count = v.count; ended = true }))
      → Does w place Closes step (Ok Closes)
  closes d h = record { same = λ v s next. ap (after next place) (h v s); only = refl; room = d }

  pub stays : ((v : events.Walk) → Stands w v → step v ≡ go v) → Does w place Stays step (Ok Stays)
  stays h = record { same = λ v s next. ap (after next place) (h v s); only = refl; room = tt }

-- a refusal comes first, and leaves the old
pub refused_then : {A : Type 0} (f : Refusal) (next : Outcome A) → (refused f then next) ≡ refused f
refused_then (Shape at) next = refl
refused_then (Name at) next = refl
refused_then (Deep at) next = refl
refused_then (Many at) next = refl

-- where the walk ends: no END stands there
pub not_end : (w : Walk) (place : ℕ) (last : Bool) (token : Token) → (token ≡ End → ⊥)
    → Ends w place last token (Err (Shape place))
not_end w place last (Item kind next) h = λ v s go. refl
not_end w place last End h = absurd (h refl)
not_end w place last Cut h = λ v s go. refl

module _ (w : Walk) (place : ℕ) (last : Bool) where
  early : (v : events.Walk) (next : events.Walk → Verdict) → ending v last ≡ stop 6 → ◌≡◌ {A = Outcome ℕ} (refuses 6 place) (after next place (ending v last) then gives w.count)
  early v next e = ap (λ (x : Step). after next place x then gives w.count) (sym e)

  -- END
  ends_none : (v : events.Walk) → Stands w v → w.depth ≡ 0 → ending v last ≡ (if eqb w.count 0 then stop 6 else if not last then stop 6 else done)
  ends_none v s d = ending_none v last (omega (arith, s.depth)) ∙ ap (λ (n : ℕ). if eqb n 0 then stop 6 else if not last then stop 6 else done) (sym s.count)

  ends_some : (v : events.Walk) → Stands w v → (w.depth ≡ 0 → ⊥) → ending v last ≡ stop 6
  ends_some v s d = ending_some v last (omega (arith, s.depth))

  -- an END that is too early
  pub end_stops : (token : Token) → token ≡ End → ((w.depth ≡ 0 → ⊥) ⊎ ((w.count ≡ 0) ⊎ (last ≡ false))) → Ends w place last token (Err (Shape place))
  end_stops (Item kind n) t h v s next = refl
  end_stops Cut t h v s next = refl
  end_stops End t h v s next = early v next (by_le w.depth 0 (λ d. ends_none v s (omega arith) ∙ faulty h (omega arith)) (λ d. ends_some v s (λ e. omega arith)))
    where
      faulty : ((w.depth ≡ 0 → ⊥) ⊎ ((w.count ≡ 0) ⊎ (last ≡ false))) → w.depth ≡ 0 → (if eqb w.count 0 then stop 6 else if not last then stop 6 else done) ≡ stop 6
      faulty (inl d) e = absurd (d e)
      faulty (inr (inl n)) e = rw (eq-eqb _ _ n)
      faulty (inr (inr l)) e = rw l (by_test (eqb w.count 0) (λ f. rw f) (λ f. rw f))

  pub end_done : (token : Token) → token ≡ End → w.depth ≡ 0 → (w.count ≡ 0 → ⊥) → last ≡ true → Ends w place last token (Ok w.count)
  end_done (Item kind m) t d n l v s next = let z : ◌≡◌ {A = ℕ} 0 1 = cc in absurd (omega arith)
  end_done Cut t d n l v s next = let z : ◌≡◌ {A = ℕ} 0 1 = cc in absurd (omega arith)
  end_done End t d n l v s next = ap (λ (x : Step). after next place x then gives w.count) (sym (ends_none v s d ∙ good))
    where
      good : (if eqb w.count 0 then stop 6 else if not last then stop 6 else done) ≡ done
      good = rw (ne_eqb _ _ n, l)

-- a turn, from what the definition's step is where no node is open, and where one is
pub ruleset turns = (stops, opens, closes, stays, opening_root, opening_inner, closing_none, closing_some, holding_none, holding_some)

-- where the walk ends
pub ruleset ends = (not_end, end_stops, end_done)
