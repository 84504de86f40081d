-- The tables of names say what 01's do.
use mathlib.Core.Path.{◌≡◌, refl, sym, ap, ap₂, ◌∙◌}
use mathlib.Core.Bool.{Bool, ◌||◌, ◌&&◌}
use mathlib.Core.List.{List, [], ◌∷◌, map}
use mathlib.Core.Option as math
use Prim.Native.String.{String}
use lib.Dec.{eqb}
use denote.Ref.{Bor}
use Rattle.std.specs.Prelude.{None, Some, if◌then◌else◌}
use Rattle.std.specs.List.{find}
use Rattle.std.specs.Cmp.Lexicographic.{pointwise}
use Rattle.rules.specs.Octets.{Bytes, ascii, same}
use Rattle.rules.specs.Tree.{among}
use Rattle.rules.specs.References.{is_gpio, Row, cells_in}
use Rattle.rules.proofs.Laws.Tests.{by_test, both_ways}
use Rattle.rules.proofs.Laws.Octets.{same_eq, eq_same}
use Rattle.references.specs.declared.rows.Row as table
use Rattle.references.specs.Rows.{stands_in, name_of}

-- ---- equality, as the library has it

pub equal_same : (a b : Bytes) → pointwise eqb a b ≡ same a b
unfolding same
equal_same [] [] = refl
equal_same [] (y ∷ b) = refl
equal_same (x ∷ a) [] = refl
equal_same (x ∷ a) (y ∷ b) = ap (λ (t : Bool). eqb x y && t) (equal_same a b)

same_sym : (a b : Bytes) → same a b ≡ same b a
same_sym a b = both_ways (same a b) (same b a) (λ h. eq_same b a (sym (same_eq a b h))) (λ h. eq_same a b (sym (same_eq b a h)))

-- ---- names

-- a table's names as bytes
abbrev pub bytes_of : List (Bor Bytes) → List Bytes
bytes_of ys = map (λ (y : Bor Bytes). y.now) ys

module _ (n : Bytes) where
  -- a table of these names
  pub held_among : (ss : List String) (ys : List (Bor Bytes)) → bytes_of ys ≡ map ascii ss → stands_in n ys ≡ among n ss
  unfolding among
  held_among [] [] e = refl
  held_among [] (y ∷ ys) e = absurd (let z : ⊥ = cc in z)
  held_among (s ∷ ss) [] e = absurd (let z : ⊥ = cc in z)
  held_among (s ∷ ss) (y ∷ ys) e =
      let h : y.now ≡ ascii s = cc in
      let t : bytes_of ys ≡ map ascii ss = cc in
      ap₂ (λ (a b : Bool). a || b) (equal_same y.now n ∙ same_sym y.now n ∙ ap (same n) h) (held_among ss ys t)

  -- ---- rows

  -- a row's names as bytes, and its cells property
  abbrev pub row_of : table.Row → List Bytes × String
  row_of q = (bytes_of q.names.now, name_of q.cells)

  abbrev pub row_in : Row → List Bytes × String
  row_in r = (map ascii r.names, r.cells)

  abbrev pub asks : table.Row → Bool
  asks q = stands_in n q.names.now

  module _ (r : Row) (rs : List Row) (p : table.Row) (qs : List table.Row) (e : map row_of (p ∷ qs) ≡ map row_in (r ∷ rs)) where
    same_row : row_of p ≡ row_in r
    same_row = cc

    same_rows : map row_of qs ≡ map row_in rs
    same_rows = cc

    same_asks : asks p ≡ among n r.names
    same_asks = held_among r.names p.names.now (ap (λ (x : List Bytes × String). x.0) same_row)

    same_cells : name_of p.cells ≡ r.cells
    same_cells = ap (λ (x : List Bytes × String). x.1) same_row

  -- the first row that has the name, if one has it
  pub row_asks : (rs : List Row) (qs : List table.Row) → map row_of qs ≡ map row_in rs → (q : table.Row) → find asks qs ≡ Some q → math.some (name_of q.cells) ≡ cells_in rs n
  unfolding cells_in
  row_asks [] [] e q h = absurd (let z : ⊥ = cc in z)
  row_asks [] (p ∷ qs) e q h = absurd (let z : ⊥ = cc in z)
  row_asks (r ∷ rs) [] e q h = absurd (let z : ⊥ = cc in z)
  row_asks (r ∷ rs) (p ∷ qs) e q h =
      let k = same_asks r rs p qs e in
      let d = same_cells r rs p qs e in
      by_test (among n r.names)
      (λ t. let f = rw (k, t) at h in let g : p ≡ q = cc in rw (cells_in, t, ← d, g))
      (λ t. let f = rw (k, t) at h in rw (cells_in, t) (row_asks rs qs (same_rows r rs p qs e) q f))

  -- a name in no row goes by its ending
  pub none_asks : (rs : List Row) (qs : List table.Row) → map row_of qs ≡ map row_in rs → find asks qs ≡ None → (if is_gpio n then math.some "#gpio-cells" else math.none) ≡ cells_in rs n
  unfolding cells_in
  none_asks [] [] e h = refl
  none_asks [] (p ∷ qs) e h = absurd (let z : ⊥ = cc in z)
  none_asks (r ∷ rs) [] e h = absurd (let z : ⊥ = cc in z)
  none_asks (r ∷ rs) (p ∷ qs) e h =
      let k = same_asks r rs p qs e in
      by_test (among n r.names)
      (λ t. let f = rw (k, t) at h in absurd (let z : ⊥ = cc in z))
      (λ t. let f = rw (k, t) at h in rw (cells_in, t) (none_asks rs qs (same_rows r rs p qs e) f))
