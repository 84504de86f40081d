-- Numbers of any one width, laid in one after the other: what is left of them is laid in from the place reached on.
use mathlib.Core.Path.{◌≡◌, sym, ap, ◌∙◌}
use mathlib.Core.List.{List, [], ◌∷◌, ◌++◌}
use Prim.Native.Nat.{ℕ, suc, ◌+◌, ◌*◌, ◌≤◌, ◌<◌}
use native.Mathlib.Omega.{arith}
use native.Mathlib.Numerals.{add-one}
use lib.ListN.{length, drop, get_or, drop_of_length-le}
use lib.Seq.{drop-cons}
use Rattle.std.proofs.lemmas.List.{nil_from_length}
use Rattle.rules.specs.Octets.{Bytes, lay}
use Rattle.rules.proofs.Laws.Octets.{lay_nil, lay_lay}

module _ {W : Type 0} (bytes : List W → Bytes) (size : ℕ) (d : Bytes) (p : ℕ) (ws : List W) (i : ℕ) where
  pub laid_none : ((ws : List W) → length (bytes ws) ≡ length ws * size) → length ws ≤ i → lay d p (bytes (drop i ws)) ≡ d
  laid_none wide h =
      let none : bytes [] ≡ [] = nil_from_length (bytes []) (wide [] ∙ omega arith) in
      rw (drop_of_length-le ws {i = i} h, none) (lay_nil d p)

  pub laid_more : ((w : W) (ws : List W) → bytes (w ∷ ws) ≡ bytes (w ∷ []) ++ bytes ws) → ((ws : List W) → length (bytes ws) ≡ length ws * size)
      → (w : W) → w ≡ get_or ws i w → i < length ws → lay d p (bytes (drop i ws)) ≡ lay (lay d p (bytes (w ∷ []))) (p + size) (bytes (drop (i + 1) ws))
  laid_more more wide w e h =
      let rest = drop (i + 1) ws in
      let one : length (bytes (w ∷ [])) ≡ size = wide (w ∷ []) ∙ omega arith in
      let front : drop i ws ≡ w ∷ rest = drop-cons ws i w h ∙ ap (λ (x : W). x ∷ drop (suc i) ws) (sym e) ∙ ap (λ (k : ℕ). w ∷ drop k ws) (sym (add-one i)) in
      ap (λ (us : List W). lay d p (bytes us)) front ∙ ap (lay d p) (more w rest)
      ∙ sym (lay_lay d p (bytes (w ∷ [])) (bytes rest))
      ∙ ap (λ (k : ℕ). lay (lay d p (bytes (w ∷ []))) (p + k) (bytes rest)) one
