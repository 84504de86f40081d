-- The laws of the scan and of the references: its equations, and that every target is a node.
use Rattle.std.specs.Prelude.{◌≡◌, refl, true, false, ℕ, zero, suc, ◌+◌, ◌*◌, ◌/◌, ◌%◌, ◌<◌, length, eqb, ltb}
use Rattle.std.proofs.Common.{sym, ◌∙◌, arith}
use Rattle.std.proofs.Math.Path.{ap}
use Rattle.std.proofs.Math.Logic.{inl, inr}
use Rattle.std.proofs.Math.Option
use Rattle.std.proofs.Math.Option.{Option, none, some, map-eq-some_iff}
use mathlib.Core.List.Memᴰ
use mathlib.Core.List.{List, [], ◌∷◌, map}
use Rattle.std.proofs.Math.ListN.{length-map}
use Rattle.rules.specs.Octets.{Bytes, word_at}
use Rattle.rules.specs.Events.{Property}
use Rattle.rules.specs.Tree.{Tree, node, phandle_of}
use Rattle.rules.specs.References.{Rules, place_of, lookup, cell_count, Reference, scan_from, scan, references_of, target, targets_in, targets}
use Rattle.rules.specs.Listing.{◌∈◌}
use Rattle.rules.proofs.Laws.Tests.{by_test}

pub by_option {ℓ} : {A : Type 0} {X : Type ℓ} (o : Option A) → (o ≡ none → X) → ((a : A) → o ≡ some a → X) → X
by_option none f g = f refl
by_option (some a) f g = g a refl

-- ---- the equations of the scan

module _ (look : ℕ → Option ℕ) (cells : ℕ → ℕ) (fuel : ℕ) (v : Bytes) (n i : ℕ) where
  pub scan_end : ltb i n ≡ false → scan_from look cells (suc fuel) v n i ≡ []
  unfolding scan_from
  scan_end h = rw (h, scan_from)

  pub scan_unknown : ltb i n ≡ true → look (word_at v (4 * i)) ≡ none → scan_from look cells (suc fuel) v n i ≡ scan_from look cells fuel v n (i + 1)
  unfolding scan_from
  scan_unknown h e = rw (h, e, scan_from)

  pub scan_known : (m : ℕ) → ltb i n ≡ true → look (word_at v (4 * i)) ≡ some m → ltb (i + cells m) n ≡ true
      → scan_from look cells (suc fuel) v n i ≡ record { target = m; index = i; cells = cells m } ∷ scan_from look cells fuel v n (i + cells m + 1)
  unfolding scan_from
  scan_known m h e k = rw (h, e, k, scan_from)

  pub scan_short : (m : ℕ) → ltb i n ≡ true → look (word_at v (4 * i)) ≡ some m → ltb (i + cells m) n ≡ false
      → scan_from look cells (suc fuel) v n i ≡ []
  unfolding scan_from
  scan_short m h e k = rw (h, e, k, scan_from)

-- ---- a target is a node

place_of_here : (w p : ℕ) (ps : List (Option ℕ)) → eqb w p ≡ true → place_of w (some p ∷ ps) ≡ some zero
unfolding place_of
place_of_here w p ps e = rw (e, place_of)

place_of_past : (w p : ℕ) (ps : List (Option ℕ)) → eqb w p ≡ false → place_of w (some p ∷ ps) ≡ Option.map suc (place_of w ps)
unfolding place_of
place_of_past w p ps e = rw (e, place_of)

pub place_of_lt : (w : ℕ) (l : List (Option ℕ)) (m : ℕ) → place_of w l ≡ some m → m < length l
unfolding place_of
place_of_lt w [] m e = let z : ◌≡◌ {A = ℕ} 0 1 = cc in absurd (omega arith)
place_of_lt w (none ∷ ps) m e = later w ps m (place_of_lt w ps) e
  where
    later : (w : ℕ) (ps : List (Option ℕ)) (m : ℕ) → ((k : ℕ) → place_of w ps ≡ some k → k < length ps) → Option.map suc (place_of w ps) ≡ some m
        → m < suc (length ps)
    later w ps m ih e = let x = (map-eq-some_iff suc (place_of w ps)).0 e in omega (arith, x.2, ih x.0 x.1)
place_of_lt w (some p ∷ ps) m e = by_test (eqb w p)
    (λ q. let z : zero ≡ m = cc (place_of_here w p ps q) in omega arith)
    (λ q. let x = (map-eq-some_iff suc (place_of w ps)).0 (sym (place_of_past w p ps q) ∙ e) in omega (arith, x.2, place_of_lt w ps x.0 x.1))

-- every reference of a scan was looked up
pub scan_from_mem : (look : ℕ → Option ℕ) (cells : ℕ → ℕ) (fuel : ℕ) (v : Bytes) (n i : ℕ) (x : Reference) → x ∈ scan_from look cells fuel v n i
    → (w : ℕ) × (look w ≡ some x.target)
unfolding scan_from
scan_from_mem look cells zero v n i x m = absurd (Memᴰ.not-nil m)
scan_from_mem look cells (suc fuel) v n i x m = by_test (ltb i n)
    (λ h. by_option (look (word_at v (4 * i)))
    (λ e. scan_from_mem look cells fuel v n (i + 1) x (rw (scan_unknown look cells fuel v n i h e) at m))
    (λ k e. by_test (ltb (i + cells k) n)
    (λ f. elim (Memᴰ.cases_cons (rw (scan_known look cells fuel v n i k h e f) at m)) [
      | inl q ↦ (word_at v (4 * i), e ∙ ap {B = Option ℕ} some (sym (ap target q)))
      | inr j ↦ scan_from_mem look cells fuel v n (i + cells k + 1) x j
    ])
    (λ f. absurd (Memᴰ.not-nil (rw (scan_short look cells fuel v n i k h e f) at m)))))
    (λ h. absurd (Memᴰ.not-nil (rw (scan_end look cells fuel v n i h) at m)))

pub scan_mem : (look : ℕ → Option ℕ) (cells : ℕ → ℕ) (v : Bytes) (x : Reference) → x ∈ scan look cells v → (w : ℕ) × (look w ≡ some x.target)
unfolding scan
scan_mem look cells v x m = by_test (eqb (length v % 4) 0)
    (λ e. scan_from_mem look cells (length v / 4) v (length v / 4) 0 x (rw e at m))
    (λ e. absurd (Memᴰ.not-nil (rw e at m)))

module _ (r : Rules) (t : Tree) where
  pub references_yes : (p : Property) → r.refers p.name ≡ true → references_of r t p ≡ scan (lookup t) (cell_count r t p.name) p.value
  unfolding references_of
  references_yes p e = rw (e, references_of)

  pub references_no : (p : Property) → r.refers p.name ≡ false → references_of r t p ≡ []
  unfolding references_of
  references_no p e = rw (e, references_of)

  references_mem : (p : Property) (x : Reference) → x ∈ references_of r t p → (w : ℕ) × (lookup t w ≡ some x.target)
  references_mem p x m = by_test (r.refers p.name)
      (λ e. scan_mem (lookup t) (cell_count r t p.name) p.value x (rw (references_yes p e) at m))
      (λ e. absurd (Memᴰ.not-nil (rw (references_no p e) at m)))

  pub targets_in_mem : (ps : List Property) (x : ℕ) → x ∈ targets_in r t ps → (w : ℕ) × (lookup t w ≡ some x)
  unfolding targets_in
  targets_in_mem [] x m = absurd (Memᴰ.not-nil m)
  targets_in_mem (p ∷ ps) x m = elim (Memᴰ.append_cases (map target (references_of r t p)) m) [
    | inl k ↦
        let a = Memᴰ.of_map target (references_of r t p) k in
        let b = references_mem p a.0 a.1 in
        (b.0, b.1 ∙ ap {B = Option ℕ} some a.2)
    | inr k ↦ targets_in_mem ps x k
  ]

  -- EVERY TARGET IS A NODE
  pub targets_range : (n x : ℕ) → x ∈ targets r t n → x < length t
  unfolding targets lookup
  targets_range n x m =
      let k = targets_in_mem (node t n).props x m in
      omega (arith, place_of_lt k.0 (map phandle_of t) x k.1, length-map t phandle_of)
