-- The laws of path lists: the entries from a place on without their fuel, and how they are judged one by one.
use Rattle.std.specs.Prelude.{◌≡◌, Bool, true, false, List, [], ◌∷◌, ◌++◌, ℕ, zero, suc, ◌+◌, ◌-◌, ◌≤◌, ◌<◌, eqb, ltb, length, take, drop}
use Rattle.std.proofs.Math.Path.{refl}
use Rattle.std.proofs.Common.{sym, ap, ap₂, ◌∙◌, add_assoc, arith, length-drop, drop_of_length-le, drop-drop, le-leb, eq-eqb, ne_eqb}
use Rattle.std.proofs.Math.Option.{some}
use Rattle.rules.specs.Ceilings.{entry_ceiling}
use Rattle.rules.specs.Octets.{Bytes, part, nul_in, has_nul, same}
use Rattle.rules.specs.Lists.{one_of}
use Rattle.rules.specs.Outcome.{passes, refuses}
use Rattle.rules.specs.Derivation.{Request, Given, given_from, given, path_at_fault, paths_judged, lists_judged, node_at, repeats}
use Rattle.rules.specs.Tree.{Frame, numbers}
use Rattle.rules.proofs.Laws.Tests.{by_test, by_le, never}
use Rattle.rules.proofs.Laws.Verdicts.{gives_refuses, then_passes}
use Rattle.rules.proofs.Laws.Octets.{nul_le, same_eq, eq_same}
use Rattle.rules.proofs.Laws.Lists.{one_last}
use Rattle.rules.proofs.Laws.Formed.{among_some}
use Rattle.rules.specs.Laws.Given.{given_at}

-- ---- the entries from a place on

-- any two fuels that are enough agree
pub given_enough : (f g offset : ℕ) (bs : Bytes) → length bs ≤ f → length bs ≤ g → given_from f offset bs ≡ given_from g offset bs
unfolding given_from
given_enough zero zero offset bs hf hg = refl
given_enough zero (suc g) offset [] hf hg = refl
given_enough zero (suc g) offset (b ∷ bs) hf hg = absurd (let z : ⊥ = omega arith in z)
given_enough (suc f) zero offset [] hf hg = refl
given_enough (suc f) zero offset (b ∷ bs) hf hg = absurd (let z : ⊥ = omega arith in z)
given_enough (suc f) (suc g) offset [] hf hg = refl
given_enough (suc f) (suc g) offset (b ∷ bs) hf hg =
    let n : ℕ = nul_in (b ∷ bs) in
    let l : length (drop (n + 1) (b ∷ bs)) ≡ length (b ∷ bs) - (n + 1) = length-drop (n + 1) (b ∷ bs) in
    ap (λ (r : List Given). record { offset = offset; path = take n (b ∷ bs); is_closed = ltb n (length (b ∷ bs)) } ∷ r)
    (given_enough f g (offset + n + 1) (drop (n + 1) (b ∷ bs)) (omega arith) (omega arith))

pub given_all : (s : Bytes) → given s ≡ given_at s 0
unfolding given given_at
given_all s = given_enough (length s) (suc (length s)) 0 s (omega arith) (omega arith)

from_cons : (f offset : ℕ) (bs : Bytes) → 0 < length bs → given_from (suc f) offset bs ≡ record { offset = offset; path = take (nul_in bs) bs; is_closed = has_nul bs } ∷ given_from f (offset + nul_in bs + 1) (drop (nul_in bs + 1) bs)
unfolding given_from
from_cons f offset [] h = absurd (let z : ⊥ = omega arith in z)
from_cons f offset (b ∷ bs) h = refl

-- the entry of n bytes at a place; a NUL closes it where the list goes on behind it
abbrev pub entry : Bytes → (at n : ℕ) → Given
entry s at n = record { offset = at; path = part s at n; is_closed = ltb n (length s - at) }

-- the entry at a place, and then those behind it
pub given_step : (s : Bytes) (at : ℕ) → at < length s → given_at s at ≡ entry s at (nul_in (drop at s)) ∷ given_at s (at + nul_in (drop at s) + 1)
unfolding given_at
given_step s at h =
    let n : ℕ = nul_in (drop at s) in
    let l = length-drop at s in
    let d : drop (n + 1) (drop at s) ≡ drop (at + n + 1) s = drop-drop (n + 1) at s ∙ ap (λ (k : ℕ). drop k s) (sym (add_assoc at n 1)) in
    from_cons (length s) at (drop at s) (omega arith)
    ∙ ap₂ (λ (k : ℕ) (r : List Given). record { offset = at; path = part s at n; is_closed = ltb n k } ∷ r) l
    (ap (given_from (length s) (at + n + 1)) d
    ∙ given_enough (length s) (suc (length s)) (at + n + 1) (drop (at + n + 1) s) (omega (arith, length-drop (at + n + 1) s)) (omega (arith, length-drop (at + n + 1) s)))

-- behind the end there is none
pub given_end : (s : Bytes) (at : ℕ) → length s ≤ at → given_at s at ≡ []
unfolding given_at given_from
given_end s at h = rw (drop_of_length-le s h)

-- an entry that no NUL closes is the last, and ends where the list does
pub given_last : (s : Bytes) (at : ℕ) → length s - at ≤ nul_in (drop at s) → given_at s (at + nul_in (drop at s) + 1) ≡ given_at s (at + nul_in (drop at s))
given_last s at h = given_end s (at + nul_in (drop at s) + 1) (omega arith) ∙ sym (given_end s (at + nul_in (drop at s)) (omega arith))

-- an entry ends inside the list
pub given_inside : (s : Bytes) (at : ℕ) → at < length s → at + nul_in (drop at s) ≤ length s
given_inside s at h = omega (arith, nul_le (drop at s), length-drop at s)

-- ---- 41 of a list, entry by entry

pub paths_none : (index : ℕ) → paths_judged index [] ≡ passes
unfolding paths_judged
paths_none index = refl

pub paths_fault : (index : ℕ) (g : Given) (gs : List Given) → path_at_fault index g ≡ true → paths_judged index (g ∷ gs) ≡ refuses 41 g.offset
unfolding paths_judged
paths_fault index g gs e = rw e

pub paths_good : (index : ℕ) (g : Given) (gs : List Given) → path_at_fault index g ≡ false → paths_judged index (g ∷ gs) ≡ paths_judged (suc index) gs
unfolding paths_judged
paths_good index g gs e = rw e

-- a path that is not at fault is not one too many
fault_many : (index : ℕ) (g : Given) → entry_ceiling ≤ index → path_at_fault index g ≡ true
unfolding path_at_fault
fault_many index g h = rw (le-leb entry_ceiling index h)

pub fault_index : (index : ℕ) (g : Given) → path_at_fault index g ≡ false → index < entry_ceiling
fault_index index g e = by_le entry_ceiling index (λ h. never (path_at_fault index g) (fault_many index g h) e) (λ h. h)

-- a list that passes has no more entries than the ceiling
paths_few : (index : ℕ) (gs : List Given) → index ≤ entry_ceiling → paths_judged index gs ≡ passes → index + length gs ≤ entry_ceiling
paths_few index [] h e = omega arith
paths_few index (g ∷ gs) h e = by_test (path_at_fault index g)
    (λ f. gives_refuses tt 41 g.offset (sym (paths_fault index g gs f) ∙ e))
    (λ f. let k : index < entry_ceiling = fault_index index g f in
    let r : suc index + length gs ≤ entry_ceiling = paths_few (suc index) gs (omega arith) (sym (paths_good index g gs f) ∙ e) in
    omega arith)

pub lists_few : (q : Request) → lists_judged q ≡ passes → (length (given q.configured) ≤ entry_ceiling) × (length (given q.excluded) ≤ entry_ceiling)
unfolding lists_judged
lists_few q e =
    let a = then_passes (paths_judged 0 (given q.configured)) _ tt e in
    let b = then_passes (paths_judged 0 (given q.excluded)) _ tt a.1 in
    (omega (arith, paths_few 0 (given q.configured) (omega arith) a.0), omega (arith, paths_few 0 (given q.excluded) (omega arith) b.0))

-- ---- a path repeats exactly if its node does

module _ (f : Frame) where
  pub path_at : (p : Bytes) (i : ℕ) → node_at f p ≡ some i → f.path i ≡ p
  path_at p i e = (among_some f p (numbers f) i e).1

  same_node : (p q : Bytes) (i j : ℕ) → node_at f p ≡ some i → node_at f q ≡ some j → same p q ≡ eqb i j
  same_node p q i j d e = by_test (same p q)
      (λ s. let k : p ≡ q = same_eq p q s in let l : i ≡ j = cc (d, e, k) in s ∙ sym (eq-eqb i j l))
      (λ s. s ∙ sym (ne_eqb i j (λ l. let k : p ≡ q = sym (path_at p i d) ∙ ap f.path l ∙ path_at q j e in
      absurd (let z : ◌≡◌ {A = Bool} true false = sym (eq_same p q k) ∙ s in let y : ◌≡◌ {A = ℕ} 0 1 = cc z in omega (arith, y)))))

  -- these paths name these nodes
  abbrev pub Told : List Bytes → List ℕ → Type 0
  Told seen nodes = (p : Bytes) (i : ℕ) → node_at f p ≡ some i → repeats p seen ≡ one_of i nodes

  pub told_none : Told [] []
  unfolding repeats one_of
  told_none p i e = refl

  pub told_more : (seen : List Bytes) (nodes : List ℕ) (q : Bytes) (j : ℕ) → Told seen nodes → node_at f q ≡ some j → Told (q ∷ seen) (nodes ++ (j ∷ []))
  unfolding repeats
  told_more seen nodes q j t e p i d = rw (same_node p q i j d e, t p i d) (sym (one_last i nodes j))
