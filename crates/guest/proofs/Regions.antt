-- Two blocks that grow in one buffer: what is laid into one of them leaves the other.
use mathlib.Core.Path.{◌≡◌, refl, sym, ap, ◌∙◌}
use mathlib.Core.List.{◌++◌, append-nil}
use Prim.Native.Nat.{ℕ, ◌+◌, ◌-◌, ◌≤◌, ◌<◌}
use native.Mathlib.Omega.{arith}
use lib.ListN.{length, take, drop, length-append}
use lib.Seq.{take-add, drop_at, length-take-le}
use borrow.Author.Tests.{lt-ltb, le-ltb}
use Rattle.std.specs.Int.{next_multiple_of}
use Rattle.rules.specs.Octets.{Bytes, padded, closed, part, lay}
use Rattle.rules.specs.Writer.{property_bytes, name_offset, name_growth}
use Rattle.rules.specs.Written.{Blocks}
use Rattle.rules.proofs.Laws.Octets.{length_part, part_part, length_lay, lay_put, take_put_before, drop_put, part_put}
use Rattle.rules.proofs.Laws.Writer.{length_closed, length_property}
use Rattle.guest.specs.declared.Size.{Size}
use Rattle.guest.specs.Laid.{blocks_in, with_property, Fits, Begun, Lays}

-- ---- a part of a buffer into which bytes were laid

part_taken : (s : Bytes) (i m : ℕ) → i ≤ length s → part s i m ≡ drop i (take (i + m) s)
part_taken s i m h = sym (ap (drop i) (take-add i m s) ∙ drop_at (take i s) (take m (drop i s)) i (length-take-le i s h))

module _ (g : Bytes) (at : ℕ) (bs : Bytes) (fits : at + length bs ≤ length g) where
  pub part_before : (i m : ℕ) → i + m ≤ at → part (lay g at bs) i m ≡ part g i m
  part_before i m h =
      part_taken (lay g at bs) i m (omega (arith, length_lay g at bs))
      ∙ ap (drop i) (ap (take (i + m)) (lay_put g at bs fits) ∙ take_put_before g at bs (i + m) h (omega arith))
      ∙ sym (part_taken g i m (omega arith))

  pub drop_behind : (m : ℕ) → at + length bs ≤ m → drop m (lay g at bs) ≡ drop m g
  drop_behind m h =
      let e : m ≡ at + length bs + (m - (at + length bs)) = omega arith in
      ap (drop m) (lay_put g at bs fits) ∙ rw e (drop_put g at bs (m - (at + length bs)) (omega arith))

  pub part_behind : (i m : ℕ) → at + length bs ≤ i → part (lay g at bs) i m ≡ part g i m
  part_behind i m h = ap (take m) (drop_behind i h)

  pub part_same : part (lay g at bs) at (length bs) ≡ bs
  part_same = ap (λ (l : Bytes). part l at (length bs)) (lay_put g at bs fits) ∙ part_put g at bs (omega arith)

  -- a part that ends where they were laid grows by them
  pub part_more : (i m x : ℕ) → at ≡ i + m → x ≡ m + length bs → part (lay g at bs) i x ≡ part g i m ++ bs
  part_more i m x e q =
      let a : part (lay g at bs) i m ≡ part g i m = part_before i m (omega arith) in
      let b : part (lay g at bs) (i + m) (length bs) ≡ bs = ap (λ (n : ℕ). part (lay g at bs) n (length bs)) (sym e) ∙ part_same in
      ap (part (lay g at bs) i) q ∙ sym (part_part (lay g at bs) i m (length bs)) ∙ rw (a, b)

-- ---- one block grows

module _ (n : ℕ) (g : Bytes) (done : Size) (b : Begun n g done) where
  pub begun_structure : length (part g 56 done.structure) ≡ done.structure
  begun_structure = length_part g 56 done.structure (omega (arith, b.structure, b.strings))

  pub begun_strings : length (part g n done.strings) ≡ done.strings
  begun_strings = length_part g n done.strings b.strings

  pub lays_none : Lays n g g done (blocks_in n g done)
  lays_none = record { blocks = refl; structure = sym begun_structure; strings = sym begun_strings; behind = λ m h. refl; size = refl }

  pub lays_structure : (bs h : Bytes) → h ≡ lay g (56 + done.structure) bs → 56 + done.structure + length bs ≤ n → (x : ℕ) → x ≡ done.structure + length bs
      → Lays n g h (record { structure = x; strings = done.strings }) (record { structure = part g 56 done.structure ++ bs; strings = part g n done.strings })
  lays_structure bs h e f x q =
      let at : ℕ = 56 + done.structure in
      let fits : at + length bs ≤ length g = omega (arith, b.strings) in
      rw e
      (record {
        blocks = λ i. record {
          structure = part_more g at bs fits 56 done.structure x refl q i;
          strings = part_behind g at bs fits n done.strings f i;
        };
        structure = q ∙ sym (length-append (part g 56 done.structure) bs ∙ ap (λ (m : ℕ). m + length bs) begun_structure);
        strings = sym begun_strings;
        behind = λ m l. drop_behind g at bs fits m (omega arith);
        size = length_lay g at bs;
      })

  pub lays_strings : (bs h : Bytes) → h ≡ lay g (n + done.strings) bs → n + done.strings + length bs ≤ length g → (x : ℕ) → x ≡ done.strings + length bs
      → Lays n g h (record { structure = done.structure; strings = x }) (record { structure = part g 56 done.structure; strings = part g n done.strings ++ bs })
  lays_strings bs h e f x q =
      let at : ℕ = n + done.strings in
      rw e
      (record {
        blocks = λ i. record {
          structure = part_before g at bs f 56 done.structure (omega (arith, b.structure)) i;
          strings = part_more g at bs f n done.strings x refl q i;
        };
        structure = sym begun_structure;
        strings = q ∙ sym (length-append (part g n done.strings) bs ∙ ap (λ (m : ℕ). m + length bs) begun_strings);
        behind = λ m l. drop_behind g at bs f m (omega (arith, length-append (part g n done.strings) bs, begun_strings));
        size = length_lay g at bs;
      })

-- ---- padding

-- the least multiple of 4, as the library says it
pub padded_next : (n : ℕ) → next_multiple_of n 4 ≡ padded n
padded_next n = omega arith

-- ---- a property

module _ (n : ℕ) (g : Bytes) (done : Size) (b : Begun n g done) (name value : Bytes) (f : Fits n g (with_property (blocks_in n g done) name value))
    (offset : ℕ) (o : offset ≡ name_offset name (part g n done.strings)) (h : Bytes) (e : h ≡ lay g (56 + done.structure) (property_bytes offset value))
    (x : ℕ) (q : x ≡ done.structure + 12 + padded (length value)) where
  room : 56 + done.structure + length (property_bytes offset value) ≤ n
  room =
      let l : Bytes = property_bytes (name_offset name (part g n done.strings)) value in
      omega (arith, f.structure, length-append (part g 56 done.structure) l, begun_structure n g done b, ap (λ (m : ℕ). length (property_bytes m value)) o)

  laid : Lays n g h (record { structure = x; strings = done.strings })
      (record { structure = part g 56 done.structure ++ property_bytes offset value; strings = part g n done.strings })
  laid = lays_structure n g done b (property_bytes offset value) h e room x (omega (arith, q, length_property offset value))

  pub property_known : offset < done.strings → Lays n g h (record { structure = x; strings = done.strings }) (with_property (blocks_in n g done) name value)
  unfolding name_growth
  property_known l =
      let u : Bytes = part g n done.strings in
      rw (lt-ltb (name_offset name u) (length u) (omega (arith, o, begun_strings n g done b)), append-nil, ← o) laid

  pub property_new : done.strings ≤ offset → (j : Bytes) → j ≡ lay h (n + done.strings) (closed name)
      → Lays n g j (record { structure = x; strings = done.strings + (length name + 1) }) (with_property (blocks_in n g done) name value)
  unfolding name_growth
  property_new l j k =
      let u : Bytes = part g n done.strings in
      let t = le-ltb (name_offset name u) (length u) (omega (arith, o, begun_strings n g done b)) in
      let v : name_growth name u ≡ closed name = rw t in
      let c : Begun n h (record { structure = x; strings = done.strings }) =
      record { structure = omega (arith, room, q, length_property offset value); strings = omega (arith, b.strings, laid.size) } in
      let w : n + done.strings + length (closed name) ≤ length h =
      omega (arith, f.strings, laid.size, length-append u (name_growth name u), begun_strings n g done b, ap length v) in
      let s = lays_strings n h (record { structure = x; strings = done.strings }) c (closed name) j k w (done.strings + (length name + 1))
      (omega (arith, length_closed name)) in
      rw (t, ← o)
      (record {
        blocks = s.blocks ∙ (λ i. record { structure = (laid.blocks i).structure; strings = (laid.blocks i).strings ++ closed name });
        structure = s.structure ∙ ap (λ (z : Blocks). length z.structure) laid.blocks;
        strings = s.strings ∙ ap (λ (z : Blocks). length (z.strings ++ closed name)) laid.blocks;
        behind = λ m z.
            let y : length (part h n done.strings ++ closed name) ≡ length (u ++ closed name) = ap (λ (z : Blocks). length (z.strings ++ closed name)) laid.blocks in
            s.behind m (omega arith) ∙ laid.behind m (omega (arith, length-append u (closed name)));
        size = s.size ∙ laid.size;
      })
