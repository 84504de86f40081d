-- The laws of a host that is read: its blocks as code takes them, its table in the work space, what is left to be judged behind the
-- reader, and the work space at the end; and of path lists that pass: the nodes that they name, laid into an array.
use Rattle.std.proofs.Math.Path.{◌≡◌, refl, ap}
use Rattle.std.proofs.Common.{sym, ◌∙◌, arith, zero-add}
use mathlib.Core.List.{List, []}
use Rattle.std.specs.Prelude.{ℕ, ◌-◌, ◌≤◌, ltb, take, drop, replicate}
use Rattle.std.proofs.Math.Nat.{sub-zero}
use Rattle.std.proofs.Math.ListN.{length}
use Rattle.std.proofs.Math.Seq.{take-append_seam}
use borrow.Author.Tests.{lt-ltb, le-ltb, ltb-false}
use Rattle.rules.specs.Ceilings.{entry_ceiling, work_words}
use Rattle.rules.specs.Octets.{Bytes, put, lay, zeros, word_at, part}
use Rattle.rules.specs.Outcome.{Outcome, Verdict, passes, gives, refuses, ◌then◌}
use Rattle.rules.specs.Blob.{header_in, Block, block_in}
use Rattle.rules.specs.Tree.{Frame}
use Rattle.rules.specs.Reader.{tree_read, blob_judged, space_judged, read, rows_of, table_of, read_work, space_of}
use Rattle.rules.specs.Derivation.{Given, nodes_named, derive_work}
use Rattle.rules.proofs.Laws.Tests.{by_le}
use Rattle.rules.proofs.Laws.Verdicts.{gives_refuses, then_passes, then_gives, one_passes}
use Rattle.rules.proofs.Laws.Octets.{lay_front, length_zeros}
use Rattle.rules.proofs.Laws.Formed.{named_few}
use Rattle.rules.proofs.Laws.Reader.{space_clear, space_length, space_space, table_fits}
use Rattle.rules.proofs.Laws.Table.{rows_length, read_table}
use Rattle.rules.specs.Laws.Kept.{Kept}
use Rattle.rules.proofs.Laws.Kept.{kept_read}
use Rattle.rules.specs.Laws.Tabled.{tree_in}
use Rattle.rules.proofs.Laws.TabledRead.{tree_read_lem}
use Rattle.rules.specs.Laws.Constants.{ENTRY_CEILING, WORK_WORDS}
use Rattle.rules.proofs.Laws.Constants.{entry_ceiling_lem, work_words_lem}
use Rattle.rules.specs.Laws.Host.{HostRead}

-- the same of its block by another name
module _ (host : Bytes) (ws : List ℕ) (count : ℕ) (read : HostRead host ws count) (b : Block) (same : b ≡ block_in host) where
  pub kept_in : Kept b ws count
  kept_in = rw same read.kept

  pub tree_in_lem : tree_in b ws count ≡ tree_read host
  tree_in_lem = ap (λ (c : Block). tree_in c ws count) same ∙ read.tree

-- ---- the blocks, as code takes them

pub block_is : (host : Bytes) (place : ℕ) (structure strings : Bytes) → place ≡ word_at host 8 → structure ≡ part host (word_at host 8) (word_at host 36) → strings ≡ part host (word_at host 12) (word_at host 32)
    → record { place = place; structure = structure; strings = strings } ≡ block_in host
unfolding block_in header_in
block_is host place structure strings p s t = rw (s, t, p)

-- ---- the nodes that a path list names

-- an array of as many words as the ceiling
pub wide : entry_ceiling ≤ length {A = ℕ} (replicate ENTRY_CEILING 0)
wide = omega (arith, entry_ceiling_lem)

-- no more of them than entries, so that they stand in front of such an array
pub named_front : (f : Frame) (gs : List Given) → length gs ≤ entry_ceiling → (old new : List ℕ) (n : ℕ) → entry_ceiling ≤ length old
    → n ≡ length (nodes_named f gs) → new ≡ lay old 0 (nodes_named f gs) → take n new ≡ nodes_named f gs
named_front f gs few old new n room many laid =
    rw (laid, many, lay_front old (nodes_named f gs) (omega (arith, named_few f gs, few, room))) (take-append_seam (nodes_named f gs) (drop (length (nodes_named f gs)) old))

-- ---- from the reader on

-- an empty work space asks only what stands behind it
space_same : (vs ds : List ℕ) → drop work_words vs ≡ drop work_words ds → space_of [] vs ≡ space_of [] ds
unfolding space_of put
space_same vs ds e = let l : length (zeros (work_words - 0)) ≡ work_words = length_zeros (work_words - 0) ∙ sub-zero work_words in rw (l, zero-add, e)

-- the words that code clears are those of the work space
pub cleared : (vs us : List ℕ) → us ≡ lay vs 0 (zeros WORK_WORDS) → us ≡ lay vs 0 (zeros work_words)
cleared vs us e = e ∙ ap (λ (n : ℕ). lay vs 0 (zeros n)) work_words_lem

pub space_length_kept : (work : List ℕ) → length (derive_work work) ≡ length work
unfolding derive_work
space_length_kept work = by_le work_words (length work)
    (λ h. rw (le-ltb (length work) work_words h) (space_length [] work (omega arith) h))
    (λ h. rw (lt-ltb (length work) work_words h))

module _ (host : Bytes) (work : List ℕ) where
  -- refused
  module _ (number place : ℕ) (e : refuses number place ≡ read host (length work)) where
    first_refused : {A : Type 0} (v w : Verdict) (n : ℕ) (o : Outcome A) → ◌≡◌ {A = Outcome ℕ} (refuses number place) (v then (w then gives n)) → (v then (w then o)) ≡ refuses number place
    first_refused (gives u) (gives x) n o f = gives_refuses n number place f
    first_refused (gives u) (refuses m p) n o f = let g : m ≡ number = cc in let h : p ≡ place = cc in rw (g, h)
    first_refused (refuses m p) w n o f = let g : m ≡ number = cc in let h : p ≡ place = cc in rw (g, h)

    -- what the reader refuses is refused, whatever would be judged behind it
    pub read_refuses : {A : Type 0} (o : Outcome A) → (space_judged (length work) then (blob_judged host then o)) ≡ refuses number place
    unfolding read
    read_refuses o = first_refused (space_judged (length work)) (blob_judged host) (length (tree_read host)) o e

    not_passed : work_words ≤ length work → table_of (blob_judged host) (tree_read host) ≡ []
    unfolding read space_judged
    not_passed h = by (blob_judged host) (e ∙ rw (le-ltb (length work) work_words h))
      where
        by : (v : Verdict) → ◌≡◌ {A = Outcome ℕ} (refuses number place) (v then gives (length (tree_read host))) → table_of v (tree_read host) ≡ []
        by (gives u) f = gives_refuses (length (tree_read host)) number place f
        by (refuses m p) f = refl

    pub space_left : read_work host work ≡ derive_work work
    unfolding read_work derive_work
    space_left = by_le work_words (length work)
        (λ h. rw (le-ltb (length work) work_words h, not_passed h))
        (λ h. rw (lt-ltb (length work) work_words h))

  -- accepted
  module _ (count : ℕ) (e : gives count ≡ read host (length work)) where
    both : (space_judged (length work) ≡ passes) × (blob_judged host ≡ passes) × (count ≡ length (tree_read host))
    unfolding read
    both =
        let a = then_passes (space_judged (length work)) (blob_judged host then gives (length (tree_read host))) count (sym e) in
        let b = then_gives (blob_judged host) count (length (tree_read host)) (sym a.1) in
        (a.0, b.0, b.1)

    enough : work_words ≤ length work
    unfolding space_judged
    enough = ltb-false (length work) work_words (one_passes (ltb (length work) work_words) 40 0 both.0)

    pub host_read : HostRead host (read_work host work) count
    host_read = rw both.2 (record { accepted = both.1; kept = kept_read host work both.1 enough; tree = tree_read_lem host work both.1 enough })

    -- what is judged behind the reader is what is answered
    pub read_passes : {A : Type 0} (o : Outcome A) → (space_judged (length work) then (blob_judged host then o)) ≡ o
    read_passes o = rw (both.0, both.1)

    rows_few : length (rows_of (tree_read host)) ≤ work_words
    rows_few = omega (arith, rows_length (tree_read host), (read_table host both.1).few, table_fits)

    read_space : read_work host work ≡ space_of (rows_of (tree_read host)) work
    unfolding read_work
    read_space = rw (le-ltb (length work) work_words enough, both.1)

    pub space_cleared : (vs us : List ℕ) → length vs ≡ length (read_work host work) → drop work_words vs ≡ drop work_words (read_work host work) → us ≡ lay vs 0 (zeros work_words) → us ≡ derive_work work
    unfolding derive_work
    space_cleared vs us l r f =
        let k : work_words ≤ length vs = omega (arith, l, ap length read_space, space_length (rows_of (tree_read host)) work rows_few enough, enough) in
        f ∙ space_clear vs k ∙ space_same vs (read_work host work) r ∙ ap (space_of []) read_space
        ∙ space_space [] (rows_of (tree_read host)) work (omega arith) rows_few ∙ rw (le-ltb (length work) work_words enough)
