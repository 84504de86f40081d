-- The passes of refusals 10 to 12 on the table that the walk leaves, joined.
use mathlib.Core.Path.{◌≡◌, sym, ap, ◌∙◌, subst}
use mathlib.Core.List.{List, [], ◌∷◌}
use Prim.Native.Nat.{ℕ, zero, suc, ◌+◌, ◌*◌, ◌≤◌, ◌<◌}
use native.Mathlib.Omega.{arith}
use lib.ListN.{length, get_or, get_or-append, get_or-eq_default}
use lib.Seq.{get_or-append-add}
use Rattle.rules.specs.Ceilings.{work_words, node_words, node_ceiling}
use Rattle.rules.specs.Outcome.{Verdict, refuses, passes}
use Rattle.rules.specs.Blob.{Block}
use Rattle.rules.specs.Tree.{Tree, node, doubled_judged, words_judged, shared_judged}
use Rattle.rules.specs.Reader.{rows_of, space_of}
use Rattle.rules.specs.Laws.Reader.{start_of, starts_of}
use Rattle.rules.proofs.Laws.Reader.{starts_length, table_fits, space_get}
use Rattle.rules.proofs.Laws.Table.{nodes_few}
use Rattle.rules.specs.Laws.Constants.{NODE_WORDS}
use Rattle.doubled.specs.Passes.{verdict}
use Rattle.doubled.specs.Siblings.{Table}
use Rattle.passes.specs.Rows.{rows_from}
use Rattle.reader.specs.declared.Refusal.TheVariants.{Doubled, Cells, Shared}
use Rattle.std.specs.Prelude.{Option, Some, None, Ok, Err}
use Rattle.reader.specs.Whole.{block_tree, Tabled, Paired}
use Rattle.reader.proofs.Rows.{Rest, shared_table}

-- ---- the table, word by word

start_word : (t : Tree) (i k : ℕ) → i < length t → k < NODE_WORDS → get_or (starts_of t) (NODE_WORDS * i + k) 0 ≡ get_or (start_of (node t i).place (node t i).parent) k 0
unfolding starts_of
start_word [] i k h l = absurd (let z : ⊥ = omega arith in z)
start_word (n ∷ ns) zero k h l =
    let e : NODE_WORDS * 0 + k ≡ k = omega arith in
    rw e (get_or-append (start_of n.place n.parent) (starts_of ns) 0 k l)
start_word (n ∷ ns) (suc i) k h l =
    let e : NODE_WORDS * suc i + k ≡ NODE_WORDS + (NODE_WORDS * i + k) = omega arith in
    rw e (get_or-append-add (start_of n.place n.parent) (starts_of ns) (NODE_WORDS * i + k) 0 ∙ start_word ns i k (omega arith) l)

module _ {b : Block} {work : List ℕ} {count : ℕ} (t : Tabled b work count) where
  few : length (block_tree b) ≤ node_ceiling
  few = nodes_few b t.shape

  short : length (starts_of (block_tree b)) ≤ work_words
  short = omega (arith, starts_length (block_tree b), few, table_fits)

  word : (k : ℕ) → k < work_words → get_or work k 0 ≡ get_or (starts_of (block_tree b)) k 0
  word k h = ap (λ (w : List ℕ). get_or w k 0) t.table ∙ space_get (starts_of (block_tree b)) work k h short

  pub tables : Table work (block_tree b)
  unfolding node_words
  tables = record {
    room = t.room;
    few = few;
    begin = λ i h.
        let e : NODE_WORDS * i ≡ NODE_WORDS * i + 0 = omega arith in
        word (NODE_WORDS * i) (omega (arith, few, table_fits)) ∙ ap (λ (k : ℕ). get_or (starts_of (block_tree b)) k 0) e ∙ start_word (block_tree b) i 0 h (omega arith);
    parent = λ i h. word (NODE_WORDS * i + 1) (omega (arith, few, table_fits)) ∙ start_word (block_tree b) i 1 h (omega arith);
    clear = λ i h k. word i k ∙ get_or-eq_default (starts_of (block_tree b)) 0 (omega (arith, starts_length (block_tree b), few));
  }

  -- ---- the first that refuses, or none

  -- the first pass leaves the work space as it was
  module _ {f : Option ℕ} {mid : List ℕ} (doubled : verdict 10 b.place f ≡ doubled_judged (block_tree b)) (kept : mid ≡ work) where
    pub is_doubled : {at : ℕ} → f ≡ Some at → Paired b work mid (Err (Doubled (b.place + at)))
    is_doubled {at} e =
        let v : doubled_judged (block_tree b) ≡ refuses 10 (b.place + at) = sym doubled ∙ ap (verdict 10 b.place) e in
        record { judged = rw v; table = ap (space_of []) kept }

    module _ (none₁ : f ≡ None) (g : Option ℕ) (words : verdict 11 b.place g ≡ words_judged (block_tree b)) where
      v₁ : doubled_judged (block_tree b) ≡ passes
      v₁ = sym doubled ∙ ap (verdict 10 b.place) none₁

      pub is-cells : {at : ℕ} → g ≡ Some at → Paired b work mid (Err (Cells (b.place + at)))
      is-cells {at} e =
          let v : words_judged (block_tree b) ≡ refuses 11 (b.place + at) = sym words ∙ ap (verdict 11 b.place) e in
          record { judged = rw (v₁, v); table = ap (space_of []) kept }

      module _ (none₂ : g ≡ None) (h : Option ℕ) {new : List ℕ} (rows : (verdict 12 b.place h, new) ≡ rows_from mid 0 (block_tree b)) where
        v₂ : words_judged (block_tree b) ≡ passes
        v₂ = sym words ∙ ap (verdict 11 b.place) none₂

        shared : (verdict 12 b.place h ≡ shared_judged (block_tree b)) × Rest work (rows_of (block_tree b)) (verdict 12 b.place h) new
        shared =
            let s = shared_table work t.room (block_tree b) work (omega (arith, few, table_fits)) t.table in
            subst (λ (p : Verdict × List ℕ). (p.0 ≡ shared_judged (block_tree b)) × Rest work (rows_of (block_tree b)) p.0 p.1) (sym (rows ∙ ap (λ (x : List ℕ). rows_from x 0 (block_tree b)) kept)) s

        pub is_shared : {at : ℕ} → h ≡ Some at → Paired b work new (Err (Shared (b.place + at)))
        is_shared {at} e =
            let v : shared_judged (block_tree b) ≡ refuses 12 (b.place + at) = sym shared.0 ∙ ap (verdict 12 b.place) e in
            record { judged = rw (v₁, v₂, v); table = subst (λ (x : Option ℕ). Rest work (rows_of (block_tree b)) (verdict 12 b.place x) new) e shared.1 }

        pub is_none : h ≡ None → Paired b work new (Ok count)
        is_none e =
            let v : shared_judged (block_tree b) ≡ passes = sym shared.0 ∙ ap (verdict 12 b.place) e in
            record { judged = rw (v₁, v₂, v, t.counted); table = subst (λ (x : Option ℕ). Rest work (rows_of (block_tree b)) (verdict 12 b.place x) new) e shared.1 }
