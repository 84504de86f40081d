-- Edition 1: the cells names of its rules are among those that refusal 11 reads, so that nothing leaks under it.
use Rattle.std.specs.Prelude.{◌≡◌, refl, Bool, true, false, ◌&&◌, List, [], ◌∷◌, ℕ}
use Rattle.std.proofs.Common.{sym, ◌∙◌, arith}
use Rattle.std.proofs.Math.Option.{none, some}
use Prim.Native.String.{String}
use Rattle.rules.specs.Octets.{Bytes, ascii, same}
use Rattle.rules.specs.Tree.{among, phandle_names, cells_names, read_name}
use Rattle.rules.specs.References.{Row, is_gpio, cell_rows, cells_in, edition1}
use Rattle.rules.specs.Demands.{CellsRead, NothingLeaks}
use Rattle.rules.proofs.Laws.Tests.{some_same, by_test, and_true}
use Rattle.rules.proofs.Laws.Secrecy.Leaks.{nothing_leaks}

-- every row's cells name is read
unfoldable rows_read : List Row → Bool
rows_read [] = read_name (ascii "#gpio-cells")
rows_read (r ∷ rs) = read_name (ascii r.cells) && rows_read rs

cells_here : (r : Row) (rs : List Row) (n : Bytes) → among n r.names ≡ true → cells_in (r ∷ rs) n ≡ some r.cells
unfolding cells_in
cells_here r rs n e = rw (e, cells_in)

cells_past : (r : Row) (rs : List Row) (n : Bytes) → among n r.names ≡ false → cells_in (r ∷ rs) n ≡ cells_in rs n
unfolding cells_in
cells_past r rs n e = rw (e, cells_in)

cells_read : (rs : List Row) → rows_read rs ≡ true → (n : Bytes) (c : String) → cells_in rs n ≡ some c → read_name (ascii c) ≡ true
unfolding rows_read cells_in
cells_read [] h n c e = by_test (is_gpio n)
    (λ g. rw (← some_same "#gpio-cells" c (rw g at e)) h)
    (λ g. let f : none ≡ some c = rw g at e in let z : ◌≡◌ {A = ℕ} 0 1 = cc in absurd (omega arith))
cells_read (r ∷ rs) h n c e =
    let k = and_true (read_name (ascii r.cells)) (rows_read rs) h in
    by_test (among n r.names)
    (λ g. rw (← some_same r.cells c (sym (cells_here r rs n g) ∙ e)) k.0)
    (λ g. cells_read rs k.1 n c (sym (cells_past r rs n g) ∙ e))

rows_read_lem : rows_read cell_rows ≡ true
unfolding rows_read cell_rows among phandle_names cells_names same ascii
rows_read_lem = refl

pub edition1_cells : CellsRead edition1
unfolding edition1
edition1_cells = cells_read cell_rows rows_read_lem

pub nothing_leaks_edition1 : NothingLeaks edition1
nothing_leaks_edition1 = nothing_leaks edition1 edition1_cells
