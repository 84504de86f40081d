-- Reading gives back what was written: a blob of events that fit, with reservations that pass 27, is accepted and reads as them.
use Rattle.std.specs.Prelude.{◌≡◌, false, ℕ, suc, ◌+◌, ◌%◌, ◌≤◌, ◌<◌, length, take, drop}
use Rattle.std.proofs.Math.Path.{refl, ap}
use Rattle.std.proofs.Common.{sym, ◌∙◌, arith, take_at, drop_at, drop-drop}
use Rattle.std.proofs.Math.Option.{some}
use mathlib.Core.List.{List, [], ◌++◌, append_assoc}
use Rattle.std.proofs.Math.ListN.{length-append}
use Rattle.std.proofs.Math.Seq.{take-length}
use borrow.Author.Tests.{le-ltb, eq-eqb}
use Rattle.rules.specs.Ceilings.{blob_ceiling}
use Rattle.rules.specs.Octets.{Bytes, be32, be64, part}
use Rattle.rules.specs.Outcome.{passes}
use Rattle.rules.specs.Reservations.{Entry, any_invalid, entry_bytes, block}
use Rattle.rules.specs.Blob.{Header, header_in, entries_in, misplaced, header_judged, block_in}
use Rattle.rules.specs.Events.{Event, shape_judged, events_judged}
use Rattle.rules.specs.Tree.{nodes_of}
use Rattle.rules.specs.Reader.{events_read, tree_read, blob_judged}
use Rattle.rules.specs.Writer.{header_bytes, start_bytes}
use Rattle.rules.specs.Written.{blob_with, blob_of}
use Rattle.rules.specs.Demands.{Fits, ReadsAs, Carries}
use Rattle.rules.proofs.Laws.Octets.{length_be32, length_zeros}
use Rattle.rules.proofs.Laws.Formed.{accepted, accepting}
use Rattle.rules.proofs.Laws.Nested.{events_pass}
use Rattle.rules.proofs.Laws.Moved.{Says, says_back, says_unplaced, says_nodes, Moved, doubled_moved, words_moved, shared_moved}
use Rattle.rules.proofs.Laws.Header.{length_header, header_read, entries_read, length_block}
use Rattle.rules.proofs.Laws.ReadBack.{Clean, judged_clean, says_judged, structure_of, strings_of, writes, structure_whole, shape_read, events_read_lem}

ceiling_small : blob_ceiling < 4294967296
unfolding blob_ceiling
ceiling_small = omega arith

length_start : (rs : List Entry) → length (start_bytes rs) ≡ 40 + length (block rs)
unfolding start_bytes
length_start rs = rw (length-append, length_zeros 40)

module _ (rs : List Entry) (cpu : ℕ) (es : List Event) where
  abbrev inner : Bytes
  inner = structure_of [] es

  abbrev strings : Bytes
  strings = strings_of [] es

  -- where the structure stands, how long it is with its END, and all
  abbrev at : ℕ
  at = length (start_bytes rs)

  abbrev size : ℕ
  size = length inner + 4

  abbrev total : ℕ
  total = at + size + length strings

  abbrev tail : Bytes
  tail = inner ++ (be32 9 ++ strings)

  abbrev header : Bytes
  header = header_bytes total at (at + size) cpu (length strings) size

  blob_is : blob_of rs cpu es ≡ header ++ (block rs ++ tail)
  unfolding blob_of blob_with
  blob_is = rw (writes [] [] es)

  length_tail : length tail ≡ size + length strings
  length_tail = rw (length-append inner (be32 9 ++ strings), length-append (be32 9) strings, length_be32 9) (omega arith)

  length_front : length (header ++ block rs) ≡ at
  length_front = rw (length-append header (block rs), length_header total at (at + size) cpu (length strings) size) (omega (arith, length_start rs))

  length_blob : length (blob_of rs cpu es) ≡ total
  length_blob =
      rw (
        blob_is,
        length-append header (block rs ++ tail),
        length-append (block rs) tail,
        length_tail,
        length_header total at (at + size) cpu (length strings) size,
      )
      (omega (arith, length_start rs))

  behind : (n : ℕ) → at ≡ n → drop n (blob_of rs cpu es) ≡ tail
  behind n e = rw (blob_is, ← append_assoc header (block rs) tail) (drop_at (header ++ block rs) tail n (length_front ∙ e))

  -- whatever the events, if only their names have no NUL
  module _ (valid : any_invalid rs ≡ false) (boot : cpu < 4294967296) (clean : Clean es) (fits : length (blob_of rs cpu es) ≤ blob_ceiling) where
    abbrev blob : Bytes
    blob = blob_of rs cpu es

    total_small : total < 4294967296
    total_small = omega (arith, length_blob, ceiling_small)

    head : header_in blob
        ≡ record {
          magic = 0xd00dfeed;
          total = total;
          structure = at;
          strings = at + size;
          reservations = 40;
          version = 17;
          compatible = 16;
          boot_cpu = cpu;
          strings_size = length strings;
          structure_size = size;
        }
    head =
        let s = total_small in
        rw blob_is
        (header_read total at (at + size) cpu (length strings) size (block rs ++ tail) s (omega arith) (omega arith) boot (omega arith) (omega arith))

    entries_back : entries_in blob ≡ some rs
    unfolding entries_in block
    entries_back =
        rw (ap (λ (h : Header). h.reservations) head, ap (λ (h : Header). h.structure) head)
        (entries_read rs blob header tail (suc (length blob)) 40 at
        (blob_is ∙ ap (λ (l : Bytes). header ++ l) (append_assoc (entry_bytes rs) (be64 0 ++ be64 0) tail
        ∙ ap (λ (l : Bytes). entry_bytes rs ++ l) (append_assoc (be64 0) (be64 0) tail)))
        (length_header total at (at + size) cpu (length strings) size)
        (omega (arith, length_start rs, length_block rs)) (omega (arith, length_start rs, length_block rs, length_blob)) valid)

    structure_part : part blob at size ≡ inner ++ be32 9
    structure_part =
        ap (take size) (behind at refl ∙ sym (append_assoc inner (be32 9) strings))
        ∙ take_at (inner ++ be32 9) strings size (rw (length-append inner (be32 9), length_be32 9))

    strings_part : part blob (at + size) (length strings) ≡ strings
    strings_part =
        ap (take (length strings))
        (sym (drop-drop size at blob)
        ∙ ap (drop size) (behind at refl ∙ sym (append_assoc inner (be32 9) strings))
        ∙ drop_at (inner ++ be32 9) strings size (rw (length-append inner (be32 9), length_be32 9)))
        ∙ take-length strings

    block_back : block_in blob ≡ record { place = at; structure = inner ++ be32 9; strings = strings }
    unfolding block_in
    block_back = rw (head, structure_part, strings_part)

    header_back : header_judged blob ≡ passes
    unfolding header_judged misplaced
    header_back =
        let l = length_start rs in
        let m = length_block rs in
        let w = structure_whole [] es in
        let c : total ≤ blob_ceiling = omega (arith, length_blob) in
        rw (
          head,
          entries_back,
          length_blob,
          le-ltb total 40 (omega arith),
          le-ltb total total (omega arith),
          le-ltb blob_ceiling total c,
          eq-eqb (at % 4) 0 (omega arith),
          eq-eqb (size % 4) 0 (omega arith),
          le-ltb (at + size) (at + size) (omega arith),
        )

    says : Says (events_read blob) es
    unfolding events_read
    says =
        rw block_back
        (events_read_lem at (inner ++ be32 9) strings (omega (arith, total_small, length-append inner (be32 9), length_be32 9))
        (omega (arith, total_small)) es refl refl clean)

    shape_back : events_judged es ≡ passes → shape_judged (block_in blob) ≡ passes
    shape_back h =
        rw block_back
        (shape_read at (inner ++ be32 9) strings (omega (arith, total_small, length-append inner (be32 9), length_be32 9))
        (omega (arith, total_small)) es refl refl h)

    moved : Moved (nodes_of es) (tree_read blob)
    unfolding tree_read
    moved = says_nodes (says_back says)

    moved_back : Moved (tree_read blob) (nodes_of es)
    unfolding tree_read
    moved_back = says_nodes says

    -- HEADER, RESERVATIONS, BOOT CPU AND EVENTS READ BACK
    pub carries : Carries blob rs cpu es
    carries =
        record {
          header = header_back;
          reservations = entries_back;
          boot = ap (λ (h : Header). h.boot_cpu) head;
          events = says_unplaced says;
        }

    -- events that fit are accepted
    pub fit_accepted : Fits es → blob_judged blob ≡ passes
    fit_accepted fit =
        accepting blob
        (record {
          header = header_back;
          shape = shape_back fit.shape;
          doubled = doubled_moved moved fit.doubled;
          words = words_moved moved fit.words;
          shared = shared_moved moved fit.shared;
        })

    -- AND ONLY THEY
    pub accepted_fit : blob_judged blob ≡ passes → Fits es
    unfolding events_read
    accepted_fit h =
        let a = accepted blob h in
        record {
          shape = says_judged says (events_pass (block_in blob) a.shape);
          doubled = doubled_moved moved_back a.doubled;
          words = words_moved moved_back a.words;
          shared = shared_moved moved_back a.shared;
        }

  module _ (valid : any_invalid rs ≡ false) (boot : cpu < 4294967296) (fit : Fits es) (fits : length (blob_of rs cpu es) ≤ blob_ceiling) where
    fit_clean : Clean es
    fit_clean = judged_clean es fit.shape

    -- READING GIVES BACK WHAT WAS WRITTEN
    pub reads_back : ReadsAs (blob_of rs cpu es) rs cpu es
    reads_back =
        record { accepted = fit_accepted valid boot fit_clean fits fit; carried = carries valid boot fit_clean fits }

    -- and the nodes are those of the events, but for their places
    pub nodes_back : Moved (tree_read (blob_of rs cpu es)) (nodes_of es)
    nodes_back = moved_back valid boot fit_clean fits
