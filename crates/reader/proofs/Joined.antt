-- The parts of the reader joined: what the header, the walk and the passes promise gives what `read` promises.
use mathlib.Core.Bool.{true, false}
use mathlib.Core.Path.{◌≡◌, refl, sym, ap, ◌∙◌, subst}
use mathlib.Core.List.{List, [], ◌++◌}
use Prim.Native.Nat.{ℕ, ◌+◌, ◌-◌, ◌≤◌, ◌<◌}
use native.Mathlib.Omega.{arith}
use lib.ListN.{length, take, drop, length-take}
use borrow.Author.Tests.{lt-ltb, le-ltb}
use Rattle.rules.specs.Ceilings.{work_words, blob_ceiling}
use Rattle.rules.specs.Octets.{Bytes, zeros, lay}
use Rattle.rules.specs.Outcome.{Outcome, Verdict, gives, refuses, passes, ◌then◌}
use Rattle.rules.specs.Blob.{header_in, header_judged, Block, block_in, block_of}
use Rattle.rules.specs.Events.{shape_judged}
use Rattle.rules.specs.Tree.{doubled_judged, words_judged, shared_judged}
use Rattle.rules.specs.Reader.{tree_read, events_read, blob_judged, space_judged, read, rows_of, space_of, table_of, read_work}
use Rattle.rules.proofs.Laws.Verdicts.{then_passes, passes_then, then_then, then_refuses}
use Rattle.rules.proofs.Laws.Octets.{lay_front, length_zeros}
use Rattle.rules.proofs.Laws.Blob.{Inside, header_inside}
use Rattle.rules.specs.Laws.Reader.{starts_of}
use Rattle.rules.proofs.Laws.Reader.{starts_length, table_fits, space_length, space_space, space_clear}
use Rattle.rules.proofs.Laws.Table.{rows_length, nodes_few, read_table}
use Rattle.header.specs.declared.Parts.{Parts}
use Rattle.header.specs.declared.Refusal.{Refusal as HeaderRefusal}
use Rattle.header.specs.Header.{Found, refused as headed}
use Rattle.shape.specs.declared.Refusal.{Refusal as ShapeRefusal}
use Rattle.shape.specs.Answers.{refused as shaped, meaning as walkMeaning}
use Rattle.shape.specs.Shape.{Leaves as WalkLeaves, Shaped}
use Rattle.reader.specs.declared.Refusal.{Refusal}
use Rattle.std.specs.Prelude.{Result, Ok, Err}
use Rattle.std.specs.Result.{is_err}
use Rattle.rules.proofs.Laws.Tests.{never}
use Rattle.reader.specs.Answers.{number_of, place_of, refused, meaning}
use Rattle.reader.specs.Whole.{block_tree, Leaves, Tabled, Paired, Judged}

-- ---- the blocks of a header that passes

module _ {b : Bytes} {p : Parts} (h : Found b p) where
  in_blob_lem : Inside b
  in_blob_lem = header_inside b h.judged

  pub structure_end : p.structure + p.structure_size ≤ length b
  structure_end = omega (arith, in_blob_lem.total, in_blob_lem.apart, in_blob_lem.last, h.structure, h.structure_size)

  pub strings_end : p.strings + p.strings_size ≤ length b
  strings_end = omega (arith, in_blob_lem.total, in_blob_lem.last, h.strings, h.strings_size)

  pub in_ceiling : p.structure + p.structure_size ≤ blob_ceiling
  in_ceiling = omega (arith, in_blob_lem.small, in_blob_lem.apart, in_blob_lem.last, h.structure, h.structure_size)

  pub block_is : block_of p.structure (take (p.structure + p.structure_size - p.structure) (drop p.structure b)) (take (p.strings + p.strings_size - p.strings) (drop p.strings b)) ≡ block_in b
  unfolding block_in
  block_is =
      let e₁ : p.structure + p.structure_size - p.structure ≡ (header_in b).structure_size = omega (arith, h.structure_size) in
      let e₂ : p.strings + p.strings_size - p.strings ≡ (header_in b).strings_size = omega (arith, h.strings_size) in
      rw (e₁, e₂, h.structure, h.strings)

  pub part_short : p.structure + length (take (p.structure + p.structure_size - p.structure) (drop p.structure b)) ≤ blob_ceiling
  part_short = omega (arith, in_ceiling, length-take (p.structure + p.structure_size - p.structure) (drop p.structure b))

-- ---- the walk, and then the pairs

module _ {block : Block} {old new : List ℕ} {answer : Result ℕ ShapeRefusal} {count : ℕ} (s : Shaped block old new answer) (e : answer ≡ Ok count) (room : work_words ≤ length old) where
  passed : (shape_judged block ≡ passes) × (gives (length (block_tree block)) ≡ gives count)
  passed = then_passes (shape_judged block) (gives (length (block_tree block))) count (sym s.judged ∙ ap walkMeaning e)

  few_starts : length (starts_of (block_tree block)) ≤ work_words
  few_starts = omega (arith, starts_length (block_tree block), nodes_few block passed.0, table_fits)

  few_rows : length (rows_of (block_tree block)) ≤ work_words
  few_rows = omega (arith, rows_length (block_tree block), nodes_few block passed.0, table_fits)

  walked : new ≡ space_of (starts_of (block_tree block)) old
  walked = subst (λ (a : Result ℕ ShapeRefusal). WalkLeaves a (starts_of (block_tree block)) old new) e s.table

  pub tabled : Tabled block new count
  tabled = record {
    shape = passed.0;
    counted = (cc passed.1);
    room = omega (arith, ap length walked, space_length (starts_of (block_tree block)) old few_starts room);
    table = walked ∙ sym (ap (space_of (starts_of (block_tree block))) walked ∙ space_space (starts_of (block_tree block)) (starts_of (block_tree block)) old few_starts few_starts);
  }

  leaves_on : (a : Result ℕ Refusal) (last : List ℕ) → Leaves a (rows_of (block_tree block)) new last → Leaves a (rows_of (block_tree block)) old last
  leaves_on (Ok n) last l = l ∙ ap (space_of (rows_of (block_tree block))) walked ∙ space_space (rows_of (block_tree block)) (starts_of (block_tree block)) old few_rows few_starts
  leaves_on (Err f) last l = l ∙ ap (space_of []) walked ∙ space_space [] (starts_of (block_tree block)) old (omega arith) few_starts

  pub paired : {a : Result ℕ Refusal} {last : List ℕ} → Paired block new last a → Judged block old last a
  paired {a} {last} q = record {
    judged = q.judged ∙ sym (passes_then (shape_judged block) (doubled_judged (block_tree block) then words_judged (block_tree block) then shared_judged (block_tree block) then gives (length (block_tree block))) passed.0);
    table = leaves_on a last q.table;
  }

-- the walk refuses
pub shape_refused : {block : Block} {old new : List ℕ} {answer : Result ℕ ShapeRefusal} {g : ShapeRefusal} (f : Refusal) → refused {A = ℕ} f ≡ shaped {A = ℕ} g → answer ≡ Err g
    → Shaped block old new answer → Judged block old new (Err f)
shape_refused {block} {old} {new} {answer} {g} f q e s =
    let v : shape_judged block ≡ refused f = then_refuses (shape_judged block) (length (block_tree block)) (number_of f) (place_of f) (q ∙ ap walkMeaning (sym e) ∙ s.judged) in
    record {
      judged =
          sym
          (ap (λ (o : Verdict). o then doubled_judged (block_tree block) then words_judged (block_tree block) then shared_judged (block_tree block) then gives (length (block_tree block))) v);
      table = subst (λ (a : Result ℕ ShapeRefusal). WalkLeaves a (starts_of (block_tree block)) old new) e s.table;
    }

-- ---- the whole

-- a refusal, and a count, by what `is_err` says
pub is_refused : {X : Type 0} (a : Result ℕ Refusal) → is_err a ≡ true → ((f : Refusal) → a ≡ Err f → X) → X
is_refused (Ok count) e h = never false e refl
is_refused (Err f) e h = h f refl

pub is_counted : {X : Type 0} (a : Result ℕ Refusal) → is_err a ≡ false → ((count : ℕ) → a ≡ Ok count → X) → X
is_counted (Ok count) e h = h count refl
is_counted (Err f) e h = never true refl e

pub no_space : (b : Bytes) (work : List ℕ) → length work < work_words → (◌≡◌ {A = Outcome ℕ} (refuses 40 0) (read b (length work))) × (work ≡ read_work b work)
unfolding read space_judged read_work
no_space b work h = (rw (lt-ltb (length work) work_words h), rw (lt-ltb (length work) work_words h))

-- the work space, after its words have been filled with zeros
pub filled : (d front : List ℕ) → work_words ≤ length d → front ≡ zeros (length (take work_words d)) → front ++ drop work_words d ≡ lay d 0 (zeros work_words)
filled d front h e =
    let n : length (take work_words d) ≡ work_words = omega (arith, length-take work_words d) in
    rw (e, n) (sym (lay_front d (zeros work_words) (omega (arith, length_zeros work_words)) ∙ rw (length_zeros work_words)))

-- what is read, and left, where there is space
read_is : (b : Bytes) (words : ℕ) → work_words ≤ words → read b words ≡ (blob_judged b then gives (length (tree_read b)))
unfolding read space_judged
read_is b words h = rw (le-ltb words work_words h)

work_is : (b : Bytes) (work : List ℕ) → work_words ≤ length work → read_work b work ≡ space_of (table_of (blob_judged b) (tree_read b)) work
unfolding read_work
work_is b work h = rw (le-ltb (length work) work_words h)

module _ (b : Bytes) (work : List ℕ) {cleared : List ℕ} (room : work_words ≤ length work) (clear : cleared ≡ lay work 0 (zeros work_words)) where
  is_clear : cleared ≡ space_of [] work
  is_clear = clear ∙ space_clear work room

  pub clear_long : work_words ≤ length cleared
  clear_long = omega (arith, ap length is_clear, space_length [] work (omega arith) room)

  pub clear_again : cleared ≡ space_of [] cleared
  clear_again = is_clear ∙ sym (ap (space_of []) is_clear ∙ space_space [] [] work (omega arith) (omega arith))

  -- the header refuses
  pub head_refused : (f : Refusal) (g : HeaderRefusal) → refused {A = Unit {0}} f ≡ headed {A = Unit {0}} g → header_judged b ≡ headed g
      → (refused f ≡ read b (length work)) × (cleared ≡ read_work b work)
  unfolding blob_judged
  head_refused f g q e =
      let v : blob_judged b ≡ refused f =
      ap (λ (o : Verdict). o then shape_judged (block_in b) then doubled_judged (tree_read b) then words_judged (tree_read b) then shared_judged (tree_read b)) (e ∙ sym q) in (
        sym (read_is b (length work) room ∙ ap (λ (o : Verdict). o then gives (length (tree_read b))) v),
        is_clear ∙ sym (work_is b work room ∙ ap (λ (o : Verdict). space_of (table_of o (tree_read b)) work) v),
      )

  module _ {new : List ℕ} {answer : Result ℕ Refusal} (head : header_judged b ≡ passes) (j : Judged (block_in b) cleared new answer) where
    tests : Verdict
    tests = shape_judged (block_in b) then doubled_judged (tree_read b) then words_judged (tree_read b) then shared_judged (tree_read b)

    judged_is : blob_judged b ≡ tests
    unfolding blob_judged tests
    judged_is = ap (λ (o : Verdict). o then tests) head

    joined : meaning answer ≡ (tests then gives (length (tree_read b)))
    unfolding tests tree_read events_read
    joined =
        j.judged
        ∙ sym
        (then_then (shape_judged (block_in b)) (doubled_judged (tree_read b) then words_judged (tree_read b) then shared_judged (tree_read b)) (gives (length (tree_read b)))
        ∙ ap (λ (o : Outcome ℕ). shape_judged (block_in b) then o)
        (then_then (doubled_judged (tree_read b)) (words_judged (tree_read b) then shared_judged (tree_read b)) (gives (length (tree_read b)))
        ∙ ap (λ (o : Outcome ℕ). doubled_judged (tree_read b) then o) (then_then (words_judged (tree_read b)) (shared_judged (tree_read b)) (gives (length (tree_read b))))))

    pub read_answer : meaning answer ≡ read b (length work)
    read_answer = joined ∙ sym (read_is b (length work) room ∙ ap (λ (o : Verdict). o then gives (length (tree_read b))) judged_is)

    pub read_refused : {f : Refusal} {last : List ℕ} → answer ≡ Err f → last ≡ lay new 0 (zeros work_words) → work_words ≤ length new → last ≡ read_work b work
    read_refused {f} {last} e l long =
        let v : blob_judged b ≡ refused f = judged_is ∙ then_refuses tests (length (tree_read b)) (number_of f) (place_of f) (ap meaning (sym e) ∙ joined) in
        l
        ∙ space_clear new long
        ∙ subst (λ (a : Result ℕ Refusal). Leaves a (rows_of (block_tree (block_in b))) cleared new) e j.table
        ∙ sym clear_again
        ∙ is_clear
        ∙ sym (work_is b work room ∙ ap (λ (o : Verdict). space_of (table_of o (tree_read b)) work) v)

    pub read_nodes : {count : ℕ} → answer ≡ Ok count → new ≡ read_work b work
    unfolding tree_read events_read
    read_nodes {count} e =
        let p = then_passes tests (gives (length (tree_read b))) count (sym joined ∙ ap meaning e) in
        let v : blob_judged b ≡ passes = judged_is ∙ p.0 in
        let few : length (rows_of (tree_read b)) ≤ work_words = omega (arith, rows_length (tree_read b), (read_table b v).few, table_fits) in
        subst (λ (a : Result ℕ Refusal). Leaves a (rows_of (block_tree (block_in b))) cleared new) e j.table
        ∙ ap (space_of (rows_of (tree_read b))) is_clear
        ∙ space_space (rows_of (tree_read b)) [] work few (omega arith)
        ∙ sym (work_is b work room ∙ ap (λ (o : Verdict). space_of (table_of o (tree_read b)) work) v)
