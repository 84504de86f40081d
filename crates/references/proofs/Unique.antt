-- Any two answers that the promise of `next_reference` allows are equal, and any two of one meaning that tell a node.
use mathlib.Core.Path.{◌≡◌, refl, sym, ap, ◌∙◌}
use mathlib.Core.List.{List, [], ◌∷◌}
use mathlib.Core.Option.{Option}
use Prim.Native.Nat.{ℕ, suc, ◌+◌}
use native.Mathlib.Omega.{arith}
use Prim.Native.String.{String}
use lib.ListN.{length}
use Rattle.rules.specs.Octets.{Bytes}
use Rattle.rules.specs.Blob.{Block}
use Rattle.rules.specs.References.{Reference}
use Rattle.std.specs.Prelude as lent
use Rattle.std.specs.Prelude.{Some, None}
use Rattle.references.specs.declared.scan.Reference as scan
use Rattle.references.specs.Scan.{Scanned}
use Rattle.references.specs.Table.{found}

first : Reference → List Reference → Reference
first r [] = r
first r (x ∷ xs) = x

none_some : {X : Type 0} (x : Reference) (xs : List Reference) → [] ≡ x ∷ xs → X
none_some x xs e = let z : 0 ≡ suc (length xs) = ap length e in absurd (omega arith)

pub one_next : (b : Block) (ws : List ℕ) (count : ℕ) (o : Option String) (v : Bytes) (i : ℕ) (r s : lent.Option scan.Reference)
    → Scanned b ws count o v i r → Scanned b ws count o v i s → r ≡ s
unfolding first
one_next b ws count o v i None None f g = refl
one_next b ws count o v i None (Some x) f g = none_some _ _ (sym f.list ∙ g.list)
one_next b ws count o v i (Some x) None f g = none_some _ _ (sym g.list ∙ f.list)
one_next b ws count o v i (Some x) (Some y) f g =
    let e : ◌≡◌ {A = Reference} (record { target = x.target; index = x.index; cells = x.cells }) (record { target = y.target; index = y.index; cells = y.cells }) =
    ap (first (record { target = x.target; index = x.index; cells = x.cells })) (sym f.list ∙ g.list) in
    let p : x.target ≡ y.target = ap (λ (k : Reference). k.target) e in
    let q : x.index ≡ y.index = ap (λ (k : Reference). k.index) e in
    let w : x.cells ≡ y.cells = ap (λ (k : Reference). k.cells) e in
    let k : x.next ≡ y.next = f.ahead.1 ∙ (λ j. q j + w j + 1) ∙ sym g.ahead.1 in
    λ j. Some (record { target = p j; index = q j; cells = w j; next = k j })

pub found_injective : (a c : lent.Option ℕ) → found a ≡ found c → a ≡ c
found_injective None None e = refl
found_injective None (Some i) e = absurd (let z : ⊥ = cc in z)
found_injective (Some i) None e = absurd (let z : ⊥ = cc in z)
found_injective (Some i) (Some j) e = let z : i ≡ j = cc in rw z
