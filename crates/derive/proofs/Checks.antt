-- A request judged part by part.
use mathlib.Core.Path.{◌≡◌, refl, ap}
use mathlib.Core.List.{List, [], ◌∷◌}
use Prim.Native.Nat.{ℕ}
use native.Mathlib.Omega.{arith}
use lib.ListN.{length}
use Rattle.rules.specs.Outcome.{Verdict, passes, gives, refuses, ◌then◌}
use Rattle.rules.specs.Tree.{Tree, frame, numbers}
use Rattle.rules.specs.Derivation.{Request, cpus_from, cpus_judged, ids_from, request_judged}
use Rattle.asked.specs.Judged.{Judges}

-- ---- 43 and 44

module _ (t : Tree) where
  pub no_ids : (ids : List ℕ) → length ids ≡ 0 → passes ≡ (cpus_judged t ids then ids_from t 0 ids)
  unfolding cpus_judged ids_from
  no_ids [] e = refl
  no_ids (x ∷ ids) e = absurd (let z : ⊥ = omega arith in z)

  some_ids : (ids : List ℕ) → (length ids ≡ 0 → ⊥) → cpus_judged t ids ≡ cpus_from t (numbers (frame t))
  unfolding cpus_judged
  some_ids [] e = absurd (e refl)
  some_ids (x ∷ ids) e = refl

  module _ (ids : List ℕ) (e : length ids ≡ 0 → ⊥) where
    pub bad_cpu : (at : ℕ) → refuses 43 at ≡ cpus_from t (numbers (frame t)) → refuses 43 at ≡ (cpus_judged t ids then ids_from t 0 ids)
    bad_cpu at f = rw (some_ids ids e, ← f)

    pub then_ids : (v : Verdict) → passes ≡ cpus_from t (numbers (frame t)) → v ≡ ids_from t 0 ids → v ≡ (cpus_judged t ids then ids_from t 0 ids)
    then_ids v f g = rw (some_ids ids e, ← f, ← g)

-- ---- the request

module _ (t : Tree) (q : Request) where
  -- the lists, and what is judged behind them
  pub request_so : Judges (frame t) q (request_judged t q) (cpus_judged t q.ids then ids_from t 0 q.ids)
  unfolding request_judged
  request_so = record { so = refl }

  -- of the verdict behind the lists, what is said of n nodes
  pub behind_so : (n : ℕ) (v : Verdict) → v ≡ (cpus_judged t q.ids then ids_from t 0 q.ids) → (v then gives n) ≡ ((cpus_judged t q.ids then ids_from t 0 q.ids) then gives n)
  behind_so n v e = ap (λ (w : Verdict). w then gives n) e
