-- The laws of a work space that keeps the node table of an accepted blob: that writing behind the table takes nothing of it away. The
-- first two sections are, with Constants, all that a proof knows of the numbers of Ceilings and Space: a change of a number is answered
-- there.
use Rattle.std.specs.Prelude.{◌≡◌, List, [], ◌∷◌, length, get_or, take, drop}
use Rattle.std.proofs.Math.Path.{refl}
use Rattle.std.proofs.Common.{sym, ap, ◌∙◌, arith, length-take, length-drop, ext_get_or, get_or-take, get_or-drop, le-ltb}
use Prim.Native.Nat.{ℕ, zero, suc, ◌+◌, ◌*◌, ◌≤◌, ◌<◌}
use Rattle.std.proofs.Math.ListN.{get_or-eq_default}
use Rattle.std.proofs.lemmas.List.{get_or-replicate}
use Rattle.rules.specs.Ceilings.{blob_ceiling, node_ceiling, node_words, work_words}
use Rattle.rules.specs.Octets.{Bytes, zeros, put, lay}
use Rattle.rules.specs.Outcome.{passes}
use Rattle.rules.specs.Blob.{Block, header_judged, block_in}
use Rattle.rules.specs.Tree.{Tree, node, nowhere, numbers_from}
use Rattle.rules.specs.Reader.{tree_read, blob_judged, rows_of, space_of, read_work}
use Rattle.rules.specs.References.{lookup}
use Rattle.rules.specs.Space.{table_words, marks_at, list_at, stack_at, names_at}
use Rattle.rules.proofs.Laws.Tests.{by_le}
use Rattle.rules.proofs.Laws.Octets.{put_before, put_inside, put_behind, length_lay, lay_put, lay_past, lay_one_other, length_zeros}
use Rattle.rules.proofs.Laws.Blob.{header_inside}
use Rattle.rules.proofs.Laws.Reader.{space_length, table_fits}
use Rattle.rules.specs.Laws.Tabled.{cell, node_in, tree_in, phandle_in, phandles_from, look_in}
use Rattle.rules.proofs.Laws.Tabled.{tree_length, node_in_lem}
use Rattle.rules.proofs.Laws.TabledRead.{tree_read_lem, look_read, formed_in}
use Rattle.rules.proofs.Laws.Table.{rows_length, read_table}
use Rattle.rules.proofs.Laws.Formed.{accepted}
use Rattle.rules.specs.Laws.Constants.{NODE_WORDS}
use Rattle.rules.specs.Laws.Kept.{Kept, Alike, Only}

-- ---- the parts follow one another, inside the work space

pub marks_behind : table_words ≤ marks_at
unfolding marks_at
marks_behind = omega arith

pub list_behind : marks_at + node_ceiling ≤ list_at
unfolding list_at
list_behind = omega arith

pub stack_behind : list_at + node_ceiling ≤ stack_at
unfolding stack_at
stack_behind = omega arith

pub names_behind : stack_at + node_ceiling ≤ names_at
unfolding names_at
names_behind = omega arith

pub names_inside : names_at ≤ work_words
unfolding names_at stack_at list_at marks_at table_words node_ceiling node_words work_words
names_inside = omega arith

-- the last of them has a word for each node too
pub names_room : names_at + node_ceiling ≤ work_words
unfolding names_at stack_at list_at marks_at table_words node_ceiling node_words work_words
names_room = omega arith

-- a row of a node is inside the table
pub row_inside : (count i k : ℕ) → count ≤ node_ceiling → i < count → k < NODE_WORDS → NODE_WORDS * i + k < table_words
unfolding table_words node_words
row_inside count i k h g l = omega arith

-- ---- what the ceilings fit into

-- a node's number, and how many nodes there are, is a word
pub node_word : node_ceiling < 4294967296
unfolding node_ceiling
node_word = omega arith

-- the longest path: each of its nodes has a slash and a name that stands in the blob; and the root's
abbrev pub longest : ℕ
longest = node_ceiling * (blob_ceiling + 1) + 1

-- as many of them as there are nodes, each closed by NUL, are counted in 64 bits
pub paths_counted : node_ceiling * (longest + 1) < 18446744073709551616
unfolding node_ceiling blob_ceiling
paths_counted = omega arith

-- ---- words at a constant of the code

-- a word that the code reads at its constant is the one of the part, and one that it puts there is put into the part
pub word_in_part : {a b : ℕ} → a ≡ b → (ws : List ℕ) (x r : ℕ) → r ≡ get_or ws (a + x) 0 → r ≡ get_or ws (b + x) 0
word_in_part e ws x r f = f ∙ ap (λ (k : ℕ). get_or ws (k + x) 0) e

pub put_in_part : {a b : ℕ} → a ≡ b → (ws vs : List ℕ) (x v : ℕ) → vs ≡ lay ws (a + x) (v ∷ []) → vs ≡ lay ws (b + x) (v ∷ [])
put_in_part e ws vs x v f = f ∙ ap (λ (k : ℕ). lay ws (k + x) (v ∷ [])) e

-- ---- what is kept

module _ (b : Block) (ws vs : List ℕ) (count : ℕ) (few : count ≤ node_ceiling) (s : Alike ws vs) where
  cell_alike : (i k : ℕ) → i < count → k < NODE_WORDS → cell vs i k ≡ cell ws i k
  cell_alike i k h l = s (NODE_WORDS * i + k) (row_inside count i k few h l)

  node_alike : (i : ℕ) → i < count → node_in b vs i ≡ node_in b ws i
  node_alike i h = rw (cell_alike i 0 h (omega arith), cell_alike i 1 h (omega arith))

  pub tree_alike : tree_in b vs count ≡ tree_in b ws count
  tree_alike =
      ext_get_or nowhere (tree_in b vs count) (tree_in b ws count) (tree_length b vs count 0 ∙ sym (tree_length b ws count 0))
      (λ i h. let g : i < count = omega (arith, tree_length b vs count 0) in node_in_lem b vs count i g ∙ node_alike i g ∙ sym (node_in_lem b ws count i g))

  phandle_alike : (i : ℕ) → i < count → phandle_in vs i ≡ phandle_in ws i
  phandle_alike i h = rw (cell_alike i 2 h (omega arith), cell_alike i 3 h (omega arith))

  numbers_alike : (from n : ℕ) → from + n ≤ count → phandles_from vs from n ≡ phandles_from ws from n
  unfolding phandles_from numbers_from
  numbers_alike from zero h = refl
  numbers_alike from (suc n) h = rw (phandle_alike from (omega arith), numbers_alike (suc from) n (omega arith))

  pub look_alike : (w : ℕ) → look_in vs count w ≡ look_in ws count w
  unfolding look_in
  look_alike w = rw (numbers_alike 0 count (omega arith))

  pub kept_alike : length vs ≡ length ws → Kept b ws count → Kept b vs count
  kept_alike l k = record {
    formed = rw tree_alike k.formed;
    look = λ w. rw (tree_alike, look_alike w) (k.look w);
    top = rw tree_alike k.top;
    few = few;
    some = k.some;
    small = k.small;
    brief = k.brief;
    room = omega (arith, k.room, l);
  }

-- what stands in front of bytes laid
pub lay_before : (ws : List ℕ) (at : ℕ) (xs : List ℕ) (z i : ℕ) → i < at → get_or (lay ws at xs) i z ≡ get_or ws i z
unfolding lay
lay_before ws at xs z i h = by_le (length ws) at
    (λ l. ap (λ (vs : List ℕ). get_or vs i z) (lay_past ws at xs l))
    (λ l. get_or-take (length ws) (put ws at xs) i z (omega arith) ∙ put_before ws at xs i z h (omega arith))

-- what stands behind them
pub lay_behind : (ws : List ℕ) (at : ℕ) (xs : List ℕ) (z i : ℕ) → at + length xs ≤ i → get_or (lay ws at xs) i z ≡ get_or ws i z
unfolding lay
lay_behind ws at xs z i h = by_le (length ws) at
    (λ l. ap (λ (vs : List ℕ). get_or vs i z) (lay_past ws at xs l))
    (λ l. by_le (length ws) i
    (λ k. get_or-eq_default (take (length ws) (put ws at xs)) z (omega (arith, length_lay ws at xs)) ∙ sym (get_or-eq_default ws z k))
    (λ k. get_or-take (length ws) (put ws at xs) i z k ∙ put_behind ws at xs i z h (omega arith)))

-- a word that is cleared
pub zeros_at : (ws : List ℕ) (at n i : ℕ) → at + n ≤ length ws → i < n → get_or (lay ws at (zeros n)) (at + i) 0 ≡ 0
zeros_at ws at n i h l =
    ap (λ (vs : List ℕ). get_or vs (at + i) 0) (lay_put ws at (zeros n) (omega (arith, length_zeros n)))
    ∙ put_inside ws at (zeros n) i 0 (omega (arith, length_zeros n)) (omega arith)
    ∙ get_or-replicate {A = ℕ} n i 0 0 l

-- writing behind the table leaves the table
pub lay_alike : (ws : List ℕ) (at : ℕ) (xs : List ℕ) → table_words ≤ at → Alike ws (lay ws at xs)
lay_alike ws at xs h i l = lay_before ws at xs 0 i (omega arith)

-- ---- only the words from lo up to hi may differ

module _ {lo hi : ℕ} where
  pub only_none : (ws : List ℕ) → Only lo hi ws ws
  only_none ws = record { size = refl; before = λ i h. refl; behind = λ i h. refl }

  pub only_then : {ws vs us : List ℕ} → Only lo hi ws vs → Only lo hi vs us → Only lo hi ws us
  only_then p q = record {
    size = q.size ∙ p.size;
    before = λ i h. q.before i h ∙ p.before i h;
    behind = λ i h. q.behind i h ∙ p.behind i h;
  }

  pub only_wide : {a z : ℕ} {ws vs : List ℕ} → lo ≤ a → z ≤ hi → Only a z ws vs → Only lo hi ws vs
  only_wide f g p = record { size = p.size; before = λ i h. p.before i (omega arith); behind = λ i h. p.behind i (omega arith) }

  pub only_one : (ws : List ℕ) (at x : ℕ) → lo ≤ at → at < hi → Only lo hi ws (lay ws at (x ∷ []))
  only_one ws at x f g = record {
    size = length_lay ws at (x ∷ []);
    before = λ i h. lay_one_other ws at x 0 i (λ e. omega arith);
    behind = λ i h. lay_one_other ws at x 0 i (λ e. omega arith);
  }

  -- words that are cleared
  pub only_zeros : (ws : List ℕ) (at n : ℕ) → lo ≤ at → at + n ≤ hi → Only lo hi ws (lay ws at (zeros n))
  only_zeros ws at n f g = record {
    size = length_lay ws at (zeros n);
    before = λ i h. lay_before ws at (zeros n) 0 i (omega arith);
    behind = λ i h. lay_behind ws at (zeros n) 0 i (omega (arith, length_zeros n));
  }

  -- the table stays
  pub only_alike : {ws vs : List ℕ} → table_words ≤ lo → Only lo hi ws vs → Alike ws vs
  only_alike h p i l = p.before i (omega arith)

  pub only_kept : (b : Block) {ws vs : List ℕ} (count : ℕ) → table_words ≤ lo → Only lo hi ws vs → Kept b ws count → Kept b vs count
  only_kept b {ws} {vs} count h p k = kept_alike b ws vs count k.few (only_alike h p) p.size k

  pub only_tree : (b : Block) {ws vs : List ℕ} (count : ℕ) → table_words ≤ lo → count ≤ node_ceiling → Only lo hi ws vs → tree_in b vs count ≡ tree_in b ws count
  only_tree b {ws} {vs} count h f p = tree_alike b ws vs count f (only_alike h p)

  -- and what stands behind
  pub only_drop : {ws vs : List ℕ} (n : ℕ) → hi ≤ n → Only lo hi ws vs → drop n vs ≡ drop n ws
  only_drop {ws} {vs} n h p =
      ext_get_or 0 (drop n vs) (drop n ws) (simp length-drop (omega (arith, p.size)))
      (λ i l. get_or-drop n vs i 0 ∙ p.behind (n + i) (omega arith) ∙ sym (get_or-drop n ws i 0))

-- ---- the table of an accepted blob

structure_small : (host : Bytes) → header_judged host ≡ passes → length (block_in host).structure ≤ blob_ceiling
unfolding block_in
structure_small host h = let i = header_inside host h in simp (length-take, length-drop) (omega (arith, i.apart, i.last, i.small, i.total))

strings_small_lem : (host : Bytes) → header_judged host ≡ passes → length (block_in host).strings ≤ blob_ceiling
unfolding block_in
strings_small_lem host h = let i = header_inside host h in simp (length-take, length-drop) (omega (arith, i.apart, i.last, i.small, i.total))

room : (host : Bytes) (work : List ℕ) → blob_judged host ≡ passes → work_words ≤ length work → work_words ≤ length (read_work host work)
unfolding read_work
room host work h l =
    let e : read_work host work ≡ space_of (rows_of (tree_read host)) work = rw (le-ltb (length work) work_words l, h) in
    let n = (read_table host h).few in
    omega (arith, ap length e, space_length (rows_of (tree_read host)) work (omega (arith, n, table_fits, rows_length (tree_read host))) l, l)

pub kept_read : (host : Bytes) (work : List ℕ) → blob_judged host ≡ passes → work_words ≤ length work → Kept (block_in host) (read_work host work) (length (tree_read host))
kept_read host work h l = record {
  formed = formed_in host work h l;
  look = λ w. look_read host work h l w ∙ ap (λ (t : Tree). lookup t w) (sym (tree_read_lem host work h l));
  top = ap (λ (t : Tree). (node t 0).parent) (tree_read_lem host work h l) ∙ (read_table host h).rooted.parent;
  few = (read_table host h).few;
  some = (read_table host h).rooted.some;
  small = structure_small host (accepted host h).header;
  brief = strings_small_lem host (accepted host h).header;
  room = room host work h l;
}
