-- From start to finish: what `written` leaves, where it accepts, is the blob of the events said.
use Rattle.std.specs.Prelude.{◌≡◌, refl, false, take}
use Rattle.std.proofs.Common.{sym, ◌∙◌, zero-add, arith, length-drop, take-append-drop, take_at, drop_at, length-take-le}
use Rattle.std.proofs.Math.Path.{ap}
use mathlib.Core.List.{List, [], ◌++◌, append_assoc, append-nil}
use Prim.Native.Nat.{ℕ, ◌+◌, ◌*◌, ◌≤◌}
use Rattle.std.proofs.Math.ListN.{length, drop, length-append, length-take}
use Rattle.std.proofs.Math.Seq.{take-length}
use Rattle.std.proofs.lemmas.List.{drop-append-le}
use Rattle.rules.specs.Ceilings.{blob_ceiling}
use Rattle.rules.specs.Octets.{Bytes, be32, zeros, put}
use Rattle.rules.specs.Outcome.{Outcome, gives, refuses, passes}
use Rattle.rules.specs.Reservations.{Entry, any_invalid, block}
use Rattle.rules.specs.Writer.{total, header_bytes, header_of, start_bytes, start_judged, start, start_data, finish_judged, finish, finish_data}
use Rattle.rules.specs.Written.{Blocks, write_events, blob_with, blob_of, Call, Desk, run, finished, started, written, said, boot_said}
use Rattle.rules.proofs.Laws.Octets.{length_be32, length_zeros, put_front, length_put, take_put}
use Rattle.rules.proofs.Laws.Verdicts.{then_passes, gives_refuses}
use Rattle.rules.proofs.Laws.Header.{length_header, length_block}
use Rattle.rules.proofs.Laws.Trips.Tests.{none_fails, roomy, start_tests, start_tests_lem, finish_tests, finish_tests_lem}
use Rattle.rules.proofs.Laws.Trips.Calls.{Held, run_held, given}

-- ---- starting

abbrev pub nothing : Blocks
nothing = record { structure = []; strings = [] }

pub start_held : (rs : List Entry) (lent strings : Bytes) (phandles : List ℕ) → start_judged (length lent) rs (length rs) ≡ passes
    → Held rs 0 nothing (started rs lent strings phandles)
unfolding start start_data
start_held rs lent strings phandles h =
    let t = take-length rs in
    let p = none_fails (start_tests (length lent) rs (length rs)) (sym (start_tests_lem (length lent) rs (length rs)) ∙ h) in
    let r = rw t at (roomy (length lent) (length (start_bytes (take (length rs) rs))) p.1.1.1.0) in
    rw (h, t)
    (record {
      structure = refl;
      data_fits = rw (length_put lent 0 (start_bytes rs) (omega (arith, r.0))) r.0;
      data_held = (rw zero-add at (take_put lent 0 (start_bytes rs) (omega arith))) ∙ sym (append-nil (start_bytes rs));
      strings_fit = omega arith;
      strings_held = refl;
      boot = refl;
    })

pub start_valid : (rs : List Entry) (lent : ℕ) → start_judged lent rs (length rs) ≡ passes → any_invalid rs ≡ false
start_valid rs lent h =
    let p = none_fails (start_tests lent rs (length rs)) (sym (start_tests_lem lent rs (length rs)) ∙ h) in
    rw (take-length rs) at p.1.0

-- ---- finishing

pub length_start : (rs : List Entry) → length (start_bytes rs) ≡ 56 + 16 * length rs
unfolding start_bytes
length_start rs = rw (length-append, length_zeros 40, length_block rs) (omega arith)

pub length_with : (rs : List Entry) (cpu : ℕ) (w : Blocks)
    → length (blob_with rs cpu w) ≡ length (start_bytes rs) + (length w.structure + 4) + length w.strings
unfolding blob_with
length_with rs cpu w =
    let s : ℕ = length (start_bytes rs) in
    let n : ℕ = length w.structure + 4 in
    let h : Bytes = header_bytes (s + n + length w.strings) s (s + n) cpu (length w.strings) n in
    rw (
      length-append h (block rs ++ (w.structure ++ (be32 9 ++ w.strings))),
      length-append (block rs),
      length-append w.structure,
      length-append (be32 9),
      length_be32 9,
    )
    (omega (arith, length_header (s + n + length w.strings) s (s + n) cpu (length w.strings) n, length_start rs, length_block rs))

-- x laid behind the first n bytes, and then h in front: up to the end of x it is h, those of the n that h leaves, and x
header_laid : (d : Bytes) (n : ℕ) (x h : Bytes) → n + length x ≤ length d → length h ≤ n
    → take (n + length x) (put (put d n x) 0 h) ≡ h ++ (drop (length h) (take n d) ++ x)
header_laid d n x h f g =
    let y : Bytes = take n d ++ x in
    let l : length y ≡ n + length x = length-append (take n d) x ∙ ap (λ (k : ℕ). k + length x) (length-take-le n d (omega arith)) in
    let e : put d n x ≡ y ++ drop (n + length x) (put d n x) =
    sym (take-append-drop (n + length x) (put d n x)) ∙ ap (λ (b : Bytes). b ++ drop (n + length x) (put d n x)) (take_put d n x (omega arith)) in
    let m : drop (length h) (put d n x) ≡ drop (length h) y ++ drop (n + length x) (put d n x) =
    ap (drop (length h)) e ∙ drop-append-le (length h) y (drop (n + length x) (put d n x)) (omega arith) in
    let k : length (h ++ drop (length h) y) ≡ n + length x = length-append h (drop (length h) y) ∙ omega (arith, length-drop (length h) y) in
    let z : drop (length h) y ≡ drop (length h) (take n d) ++ x =
    drop-append-le (length h) (take n d) x (omega (arith, length-take-le n d (omega arith))) in
    ap (take (n + length x))
    (put_front (put d n x) h ∙ ap (λ (b : Bytes). h ++ b) m ∙ sym (append_assoc h (drop (length h) y) (drop (n + length x) (put d n x))))
    ∙ take_at (h ++ drop (length h) y) (drop (n + length x) (put d n x)) (n + length x) k
    ∙ ap (λ (b : Bytes). h ++ b) z

header_same : (a b c d e f a' b' c' d' e' f' : ℕ) → a ≡ a' → b ≡ b' → c ≡ c' → d ≡ d' → e ≡ e' → f ≡ f'
    → header_bytes a b c d e f ≡ header_bytes a' b' c' d' e' f'
header_same a b c d e f a' b' c' d' e' f' p q r s t u = cc

module _ (rs : List Entry) (cpu : ℕ) (w : Blocks) (d : Desk) (h : Held rs cpu w d) where
  abbrev s : ℕ
  s = length (start_bytes rs)

  -- how long the structure is with its END
  abbrev n : ℕ
  n = length w.structure + 4

  pub data_length_lem : d.state.data_length ≡ s + length w.structure
  data_length_lem =
      sym (length-take-le d.state.data_length d.«data» h.data_fits) ∙ ap length h.data_held ∙ length-append (start_bytes rs) w.structure

  pub strings_length_lem : d.state.strings_length ≡ length w.strings
  strings_length_lem = sym (length-take-le d.state.strings_length d.strings h.strings_fit) ∙ ap length h.strings_held

  header_held : header_of d.state
      ≡ header_bytes (s + n + length w.strings) s (s + n) cpu (length w.strings) n
  header_held =
      let l = data_length_lem in
      let m = strings_length_lem in
      let k = h.structure in
      header_same _ _ _ _ _ _ _ _ _ _ _ _ (omega arith) k (omega arith) h.boot m (omega arith)

  start_past : drop 40 (start_bytes rs ++ w.structure) ≡ block rs ++ w.structure
  unfolding start_bytes
  start_past = rw append_assoc (drop_at (zeros 40) (block rs ++ w.structure) 40 (length_zeros 40))

  -- WHAT `finish` LEAVES IS THE BLOB OF THE TWO BLOCKS
  finish_bytes : total d.state ≤ length d.«data»
      → take (total d.state)
      (put (put d.«data» d.state.data_length (be32 9 ++ take d.state.strings_length d.strings)) 0 (header_of d.state))
      ≡ blob_with rs cpu w
  unfolding blob_with
  finish_bytes r =
      let k : ℕ = d.state.data_length in
      let x : Bytes = be32 9 ++ w.strings in
      let lx : length x ≡ 4 + length w.strings = length-append (be32 9) w.strings ∙ ap (λ (j : ℕ). j + length w.strings) (length_be32 9) in
      let t : total d.state ≡ k + length x = omega (arith, strings_length_lem) in
      let H : Bytes = header_bytes (s + n + length w.strings) s (s + n) cpu (length w.strings) n in
      let l : length H ≡ 40 = length_header _ _ _ _ _ _ in
      let z : drop (length H) (take k d.«data») ≡ block rs ++ w.structure = rw (l, h.data_held) start_past in
      rw (h.strings_held, header_held, t)
      (header_laid d.«data» k x H (omega arith) (omega (arith, data_length_lem, length_start rs))
      ∙ ap (λ (b : Bytes). H ++ (b ++ x)) z
      ∙ ap (λ (b : Bytes). H ++ b) (append_assoc (block rs) w.structure x))

  -- and it is no longer than the ceiling
  pub finish_held : (blob : Bytes) → finished d ≡ gives blob → (blob ≡ blob_with rs cpu w) × (length blob ≤ blob_ceiling)
  unfolding finished finish finish_data
  finish_held blob g =
      let k : ℕ = length d.«data» in
      let m : ℕ = length d.strings in
      let t = then_passes (finish_judged d.state k m) _ blob g in
      let p = none_fails (finish_tests d.state k m) (sym (finish_tests_lem d.state k m) ∙ t.0) in
      let r = roomy k (total d.state) p.1.1.0 in
      let q = rw t.0 at (given _ blob t.1) in
      (q ∙ finish_bytes r.0, omega (arith, r.1, ap length q ∙ length-take (total d.state) _))

-- ---- from start to finish

pub ends_well : (o : Outcome Desk) (blob : Bytes) → elim o [ gives d ↦ finished d | refuses number place ↦ refuses number place ] ≡ gives blob
    → (d : Desk) × (o ≡ gives d) × (finished d ≡ gives blob)
ends_well (gives d) blob h = (d, refl, h)
ends_well (refuses number place) blob h = gives_refuses blob number place h

-- WHAT CALLS LEAVE: the blob of the events that they say
pub written_blob : (rs : List Entry) (lent strings : Bytes) (phandles : List ℕ) (cs : List Call) (blob : Bytes)
    → written rs lent strings phandles cs ≡ gives blob
    → (blob ≡ blob_of rs (boot_said 0 cs) (said cs)) × (length blob ≤ blob_ceiling) × (any_invalid rs ≡ false)
unfolding written start blob_of
written_blob rs lent strings phandles cs blob h =
    let t = then_passes (start_judged (length lent) rs (length rs)) _ blob h in
    let a = ends_well (run cs (started rs lent strings phandles)) blob t.1 in
    let k = run_held rs 0 nothing cs (started rs lent strings phandles) a.0 (start_held rs lent strings phandles t.0) a.1 in
    let f = finish_held rs (boot_said 0 cs) (write_events nothing (said cs)) a.0 k blob a.2 in
    (f.0, f.1, start_valid rs (length lent) t.0)
