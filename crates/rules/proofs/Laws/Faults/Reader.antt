-- What the reader refuses by 10, 11 and 12, and what it accepts.
use Rattle.std.specs.Prelude.{◌≡◌, refl, Bool, true, false, not, List, [], ◌∷◌, ℕ, ◌+◌, ◌≤◌, eqb, leb, length, if◌then◌else◌}
use Rattle.std.proofs.Common.{subst, inl, inr, arith}
use Rattle.rules.specs.Ceilings.{open_ceiling, node_ceiling}
use Rattle.rules.specs.Octets.{Bytes}
use Rattle.rules.specs.Names.{node_name_reads}
use Rattle.rules.specs.Outcome.{Verdict, refuses, passes, ◌then◌}
use Rattle.rules.specs.Blob.{Block, block_in, header_judged}
use Rattle.rules.specs.Tokens.{Placed, tokens}
use Rattle.rules.specs.Events.{Walk, at_start, Step, stop, done, go, opening, closing, holding, ending, node_name_at, property_reads, on_token, after, judge, shape_judged}
use Rattle.rules.specs.Tree.{Tree, doubled_judged, words_judged, shared_judged}
use Rattle.rules.specs.Reader.{tree_read, blob_judged}
use Rattle.rules.specs.Exactly.{RefusedExactly, AcceptedExactly}
use Rattle.rules.specs.declared.Token.{Token}
use Rattle.rules.specs.declared.Token.TheVariants.{Item, End, Cut}
use Rattle.rules.specs.declared.Kind.TheVariants.{Begin, EndNode, Prop, Nop}
use Rattle.rules.proofs.Laws.Verdicts.{then_cases}
use Rattle.rules.proofs.Laws.Formed.{accepted, accepting}
use Rattle.rules.proofs.Laws.Places.{Within, header_within}
use Rattle.rules.proofs.Laws.Trips.Exact.{accepts_exactly}
use Rattle.rules.proofs.Laws.Faults.Doubled.{doubled_exactly}
use Rattle.rules.proofs.Laws.Faults.Words.{words_exactly}
use Rattle.rules.proofs.Laws.Faults.Shared.{shared_exactly}

-- ---- header and shape refuse by no number above 9

abbrev Low : (number place : ℕ) → Type 0
Low number place = number ≤ 9

abbrev LowStep : Step → Type 0
LowStep (stop number) = number ≤ 9
LowStep done = Unit {0}
LowStep (go w) = Unit {0}

choose : (t : Bool) (a b : Step) → LowStep a → LowStep b → LowStep (if t then a else b)
choose true a b h k = h
choose false a b h k = k

opening_low : (w : Walk) (name : Bytes) → LowStep (opening w name)
unfolding opening
opening_low w name = by w.stack
  where
    by : (is : List ℕ) → LowStep (opening (record { stack = is; count = w.count; ended = w.ended }) name)
    by [] = choose (not (eqb w.count 0)) (stop 6) _ (omega arith) (choose (not (eqb (length name) 0)) (stop 7) _ (omega arith) tt)
    by (i ∷ is) =
        choose (not (node_name_reads name)) (stop 7) _ (omega arith)
        (choose (leb open_ceiling (length (i ∷ is))) (stop 8) _ (omega arith) (choose (leb node_ceiling w.count) (stop 9) _ (omega arith) tt))

closing_low : (w : Walk) → LowStep (closing w)
unfolding closing
closing_low w = by w.stack
  where
    by : (is : List ℕ) → LowStep (closing (record { stack = is; count = w.count; ended = w.ended }))
    by [] = omega arith
    by (i ∷ is) = tt

holding_low : (w : Walk) (reads : Bool) → LowStep (holding w reads)
unfolding holding
holding_low w reads = by w.stack
  where
    by : (is : List ℕ) → LowStep (holding (record { stack = is; count = w.count; ended = w.ended }) reads)
    by [] = omega arith
    by (i ∷ is) = choose w.ended (stop 6) _ (omega arith) (choose (not reads) (stop 7) _ (omega arith) tt)

ending_low : (w : Walk) (last : Bool) → LowStep (ending w last)
unfolding ending
ending_low w last = by w.stack
  where
    by : (is : List ℕ) → LowStep (ending (record { stack = is; count = w.count; ended = w.ended }) last)
    by [] = choose (eqb w.count 0) (stop 6) _ (omega arith) (choose (not last) (stop 6) done (omega arith) tt)
    by (i ∷ is) = omega arith

token_low : (b : Block) (w : Walk) (at : ℕ) (k : Token) → LowStep (on_token b w at k)
token_low b w at (Item (Begin len) next) = opening_low w (node_name_at b.structure at len)
token_low b w at (Item EndNode next) = closing_low w
token_low b w at (Item (Prop len name value) next) = holding_low w (property_reads b.strings name)
token_low b w at (Item Nop next) = tt
token_low b w at End = ending_low w (eqb (at + 4) (length b.structure))
token_low b w at Cut = omega arith

after_low : (rest : Walk → Verdict) (place : ℕ) (s : Step) → LowStep s → ((w : Walk) → Within Low (rest w)) → Within Low (after rest place s)
after_low rest place (stop number) h k = h
after_low rest place done h k = tt
after_low rest place (go w) h k = k w

judge_low : (b : Block) (w : Walk) (ts : List Placed) → Within Low (judge b w ts)
unfolding judge
judge_low b w [] = omega arith
judge_low b w (t ∷ ts) =
    after_low (λ (v : Walk). judge b v ts) (b.place + t.at) (on_token b w t.at t.token) (token_low b w t.at t.token)
    (λ (v : Walk). judge_low b v ts)

shape_low : (b : Block) → Within Low (shape_judged b)
unfolding shape_judged
shape_low b = judge_low b at_start (tokens b.structure)

-- one that refuses by no number above 9 has passed, where a higher one is told
passed : (v w : Verdict) (number place : ℕ) → Within Low v → 10 ≤ number → (v then w) ≡ refuses number place → (v ≡ passes) × (w ≡ refuses number place)
passed v w number place h k e = elim (then_cases v w number place e) [
  | inl f ↦ let z : number ≤ 9 = subst (Within Low) f h in absurd (omega arith)
  | inr f ↦ f
]

module _ (blob : Bytes) where
  abbrev t : Tree
  t = tree_read blob

  record Told (number place : ℕ) : Type 0 where
    header : header_judged blob ≡ passes
    shape : shape_judged (block_in blob) ≡ passes
    later : (doubled_judged t then words_judged t then shared_judged t) ≡ refuses number place

  told : (number place : ℕ) → 10 ≤ number → blob_judged blob ≡ refuses number place → Told number place
  unfolding blob_judged
  told number place k e =
      let a = passed (header_judged blob) (shape_judged (block_in blob) then doubled_judged t then words_judged t then shared_judged t) number place
      (header_within Low blob (λ n h. omega arith)) k e in
      let c = passed (shape_judged (block_in blob)) (doubled_judged t then words_judged t then shared_judged t) number place
      (shape_low (block_in blob)) k a.1 in
      record { header = a.0; shape = c.0; later = c.1 }

-- REFUSED BY 10, 11 AND 12
pub refused_exactly : RefusedExactly
unfolding blob_judged
refused_exactly blob place =
    let t : Tree = tree_read blob in
    let w = words_exactly blob in
    let s = shared_exactly blob in (
      (
        λ e. let a = told blob 10 place (omega arith) e in
            elim (then_cases (doubled_judged t) (words_judged t then shared_judged t) 10 place a.later) [
              | inl f ↦ ((a.header, a.shape), (((doubled_exactly blob a.shape).1 10 place).0 f).1)
              | inr f ↦ elim (then_cases (words_judged t) (shared_judged t) 10 place f.1) [
                | inl g ↦ let z : ◌≡◌ {A = ℕ} 10 11 = ((w.1 10 place).0 g).0 in absurd (omega arith)
                | inr g ↦ let z : ◌≡◌ {A = ℕ} 10 12 = ((s.1 10 place).0 g.1).0 in absurd (omega arith)
              ]
            ],
        λ x. rw (x.0.0, x.0.1, ((doubled_exactly blob x.0.1).1 10 place).1 (refl, x.1)),
      ),
      (
        λ e. let a = told blob 11 place (omega arith) e in
            let d = doubled_exactly blob a.shape in
            elim (then_cases (doubled_judged t) (words_judged t then shared_judged t) 11 place a.later) [
              | inl f ↦ let z : ◌≡◌ {A = ℕ} 11 10 = ((d.1 11 place).0 f).0 in absurd (omega arith)
              | inr f ↦ elim (then_cases (words_judged t) (shared_judged t) 11 place f.1) [
                | inl g ↦ ((a.header, a.shape), d.0.0 f.0, ((w.1 11 place).0 g).1)
                | inr g ↦ let z : ◌≡◌ {A = ℕ} 11 12 = ((s.1 11 place).0 g.1).0 in absurd (omega arith)
              ]
            ],
        λ x. rw (x.0.0, x.0.1, (doubled_exactly blob x.0.1).0.1 x.1, (w.1 11 place).1 (refl, x.2)),
      ),
      (
        λ e. let a = told blob 12 place (omega arith) e in
            let d = doubled_exactly blob a.shape in
            elim (then_cases (doubled_judged t) (words_judged t then shared_judged t) 12 place a.later) [
              | inl f ↦ let z : ◌≡◌ {A = ℕ} 12 10 = ((d.1 12 place).0 f).0 in absurd (omega arith)
              | inr f ↦ elim (then_cases (words_judged t) (shared_judged t) 12 place f.1) [
                | inl g ↦ let z : ◌≡◌ {A = ℕ} 12 11 = ((w.1 12 place).0 g).0 in absurd (omega arith)
                | inr g ↦ ((a.header, a.shape), d.0.0 f.0, w.0.0 g.0, ((s.1 12 place).0 g.1).1)
              ]
            ],
        λ x. rw (x.0.0, x.0.1, (doubled_exactly blob x.0.1).0.1 x.1, w.0.1 x.2, (s.1 12 place).1 (refl, x.3)),
      ),
    )

-- ACCEPTED
pub accepted_exactly : AcceptedExactly
accepted_exactly blob = (
  λ h. let a = accepted blob h in (
    a.header,
    (accepts_exactly (block_in blob)).0 a.shape,
    (doubled_exactly blob a.shape).0.0 a.doubled,
    (words_exactly blob).0.0 a.words,
    (shared_exactly blob).0.0 a.shared,
  ),
  λ x. let s = (accepts_exactly (block_in blob)).1 x.1 in
      accepting blob
      (record {
        header = x.0;
        shape = s;
        doubled = (doubled_exactly blob s).0.1 x.2;
        words = (words_exactly blob).0.1 x.3;
        shared = (shared_exactly blob).0.1 x.4;
      }),
)
