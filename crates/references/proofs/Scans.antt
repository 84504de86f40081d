-- The scan word by word: its turns, without their fuel.
use mathlib.Core.Path.{◌≡◌, refl, sym, ap, ◌∙◌}
use mathlib.Core.List.{List, [], ◌∷◌}
use mathlib.Core.Option.{Option, none, some}
use Prim.Native.Nat.{ℕ, zero, suc, ◌+◌, ◌*◌, ◌/◌, ◌%◌, ◌≤◌, ◌<◌}
use Prim.Native.String.{String}
use native.Mathlib.Omega.{arith}
use lib.Dec.{ltb}
use lib.ListN.{length}
use borrow.Author.Tests.{lt-ltb, le-ltb, ltb-true, eq-eqb, ne_eqb}
use Rattle.rules.specs.Octets.{Bytes, word_at}
use Rattle.rules.specs.Blob.{Block}
use Rattle.rules.specs.Tree.{Node, node}
use Rattle.rules.specs.References.{Reference, scan_from}
use Rattle.rules.proofs.Laws.Tests.{by_test}
use Rattle.rules.proofs.Laws.References.{by_option, scan_end, scan_unknown, scan_known, scan_short}
use Rattle.rules.specs.Laws.Tabled.{tree_in, look_in, props_at, begin_of, count_named}
use Rattle.rules.proofs.Laws.Tabled.{node_in_lem, look_small}
use Rattle.std.specs.Prelude as lent
use Rattle.references.specs.declared.scan.Reference as scan
use Rattle.references.specs.Scan.{scan_at, refers_at, told, Ahead, scan_in, Scanned}

module _ (look : ℕ → Option ℕ) (cells : ℕ → ℕ) (v : Bytes) (n : ℕ) where
  -- any two fuels that are enough agree
  enough : (f g i : ℕ) → n ≤ f + i → n ≤ g + i → scan_from look cells f v n i ≡ scan_from look cells g v n i
  unfolding scan_from
  enough zero zero i h k = refl
  enough zero (suc g) i h k = sym (scan_end look cells g v n i (le-ltb i n (omega arith)))
  enough (suc f) zero i h k = scan_end look cells f v n i (le-ltb i n (omega arith))
  enough (suc f) (suc g) i h k = by_test (ltb i n)
      (λ l. by_option (look (word_at v (4 * i)))
      (λ e. scan_unknown look cells f v n i l e ∙ enough f g (i + 1) (omega arith) (omega arith) ∙ sym (scan_unknown look cells g v n i l e))
      (λ m e. by_test (ltb (i + cells m) n)
      (λ t. scan_known look cells f v n i m l e t
      ∙ ap (λ (r : List Reference). record { target = m; index = i; cells = cells m } ∷ r) (enough f g (i + cells m + 1) (omega arith) (omega arith))
      ∙ sym (scan_known look cells g v n i m l e t))
      (λ t. scan_short look cells f v n i m l e t ∙ sym (scan_short look cells g v n i m l e t))))
      (λ l. scan_end look cells f v n i l ∙ sym (scan_end look cells g v n i l))

module _ (look : ℕ → Option ℕ) (cells : ℕ → ℕ) (v : Bytes) where
  pub scan_odd : (i : ℕ) → (length v % 4 ≡ 0 → ⊥) → scan_at look cells v i ≡ []
  unfolding scan_at
  scan_odd i h = rw (ne_eqb (length v % 4) 0 h)

  module _ (h : length v % 4 ≡ 0) (i : ℕ) where
    whole : (f : ℕ) → length v / 4 ≤ f + i → scan_at look cells v i ≡ scan_from look cells f v (length v / 4) i
    unfolding scan_at
    whole f k = rw (eq-eqb (length v % 4) 0 h) (enough look cells v (length v / 4) (length v / 4) f i (omega arith) k)

    pub scan_past : length v / 4 ≤ i → scan_at look cells v i ≡ []
    scan_past k = whole 1 (omega arith) ∙ scan_end look cells 0 v (length v / 4) i (le-ltb i (length v / 4) k)

  module _ (h : length v % 4 ≡ 0) (i : ℕ) (l : i < length v / 4) where
    pub scan_skip : look (word_at v (4 * i)) ≡ none → scan_at look cells v i ≡ scan_at look cells v (i + 1)
    scan_skip e =
        whole h i (suc (length v / 4)) (omega arith)
        ∙ scan_unknown look cells (length v / 4) v (length v / 4) i (lt-ltb i (length v / 4) l) e
        ∙ sym (whole h (i + 1) (length v / 4) (omega arith))

    pub scan_refers : (m : ℕ) → look (word_at v (4 * i)) ≡ some m → scan_at look cells v i ≡ told (scan_at look cells v) (refers_at (length v / 4) i m (cells m))
    scan_refers m e = by_test (ltb (i + cells m) (length v / 4))
        (λ t. whole h i (suc (length v / 4)) (omega arith)
        ∙ scan_known look cells (length v / 4) v (length v / 4) i m (lt-ltb i (length v / 4) l) e t
        ∙ ap (λ (r : List Reference). record { target = m; index = i; cells = cells m } ∷ r) (sym (whole h (i + cells m + 1) (length v / 4) (omega arith)))
        ∙ rw t)
        (λ t. whole h i (suc (length v / 4)) (omega arith)
        ∙ scan_short look cells (length v / 4) v (length v / 4) i m (lt-ltb i (length v / 4) l) e t
        ∙ rw t)

refers_ahead : (j n i m c : ℕ) → j ≤ i → Ahead j n (refers_at n i m c)
refers_ahead j n i m c h = by_test (ltb (i + c) n)
    (λ t. let k : i + c < n = ltb-true (i + c) n t in rw t (h, refl, omega arith))
    (λ t. rw t tt)

-- ---- over the node table

module _ (b : Block) (ws : List ℕ) (count : ℕ) (o : Option String) (v : Bytes) where
  abbrev cells_in : ℕ → ℕ
  cells_in m = count_named o (node (tree_in b ws count) m).props

  pub scanned_odd : (i : ℕ) → (length v % 4 ≡ 0 → ⊥) → Scanned b ws count o v i lent.None
  scanned_odd i h = record { list = scan_odd (look_in ws count) cells_in v i h; ahead = tt }

  module _ (h : length v % 4 ≡ 0) (j i : ℕ) (e : scan_in b ws count o v j ≡ scan_in b ws count o v i) where
    pub scanned_past : length v / 4 ≤ i → Scanned b ws count o v j lent.None
    scanned_past k = record { list = e ∙ scan_past (look_in ws count) cells_in v h i k; ahead = tt }

    pub scanned_skip : (l : i < length v / 4) → look_in ws count (word_at v (4 * i)) ≡ none → scan_in b ws count o v j ≡ scan_in b ws count o v (i + 1)
    scanned_skip l f = e ∙ scan_skip (look_in ws count) cells_in v h i l f

    pub scanned_here : (l : i < length v / 4) → j ≤ i → (m c : ℕ) → look_in ws count (word_at v (4 * i)) ≡ some m → c ≡ count_named o (props_at b (begin_of b.place ws m))
        → (r : lent.Option scan.Reference) → r ≡ refers_at (length v / 4) i m c → Scanned b ws count o v j r
    scanned_here l k m c f g r q =
        let d : c ≡ cells_in m = g ∙ ap (λ (x : Node). count_named o x.props) (sym (node_in_lem b ws count m (look_small ws count (word_at v (4 * i)) m f))) in
        let s : r ≡ refers_at (length v / 4) i m (cells_in m) = q ∙ ap (refers_at (length v / 4) i m) d in
        rw s (record {
          list = e ∙ scan_refers (look_in ws count) cells_in v h i l m f;
          ahead = refers_ahead j (length v / 4) i m (cells_in m) k;
        })
