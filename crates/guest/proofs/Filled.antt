-- A token laid into the guest, and the walk that lays them all.
use mathlib.Core.Path.{◌≡◌, refl, sym, ap, ◌∙◌}
use mathlib.Core.Bool.{Bool, true, false}
use mathlib.Core.List.{List, [], ◌∷◌, ◌++◌}
use Prim.Native.Nat.{ℕ, ◌+◌, ◌≤◌}
use native.Mathlib.Omega.{arith}
use lib.ListN.{length, drop, length-append}
use types.Run.{OneOf}
use denote.Enum.Declared.{tag_of}
use Rattle.rules.specs.contracts.Token as tokened
use Rattle.std.specs.Int.{next_multiple_of}
use Rattle.rules.specs.Octets.{Bytes, part, lay}
use Rattle.rules.specs.Blob.{Block, block_of}
use Rattle.rules.specs.Tokens.{token_at}
use Rattle.rules.specs.Events.{Event, opens, has, closes, node_name_at, string_at}
use Rattle.rules.specs.Writer.{begin_bytes, end_bytes, name_growth}
use Rattle.rules.specs.Written.{Blocks, write_event, write_events}
use Rattle.rules.specs.declared.Token.{Token}
use Rattle.rules.specs.declared.Token.TheVariants.{Item}
use Rattle.rules.specs.declared.Kind.{Kind}
use Rattle.rules.specs.declared.Kind.TheVariants.{Begin, EndNode, Prop, Nop}
use Rattle.rules.proofs.Laws.Tokens.{item_ahead}
use Rattle.rules.proofs.Laws.Events.{events_all}
use Rattle.rules.proofs.Laws.Writer.{length_begin, length_end}
use Rattle.guest.specs.declared.walk.Walk.{Walk}
use Rattle.guest.specs.declared.Size.{Size}
use Rattle.guest.specs.Walked.{marked, copies, onward_of, heard, sift, blank, copy_of}
use Rattle.guest.specs.Laid.{blocks_in, size_of, wrote, spoken, with_property, Fits, Begun, Lays}
use Rattle.guest.proofs.Sifts.{rest_at, rest_item, rest_stop}
use Rattle.guest.proofs.Turns.{Behind, walk_behind}
use Rattle.guest.proofs.Grown.{structure_length}
use Rattle.guest.proofs.Sieved.{write_when}
use Rattle.guest.proofs.Regions.{padded_next, begun_structure, begun_strings, lays_none, lays_structure}

-- ---- one token

-- `c` says that it is laid
module _ (c : Bool) (b : Block) (at : ℕ) (kind : Kind) (w : Blocks) where
  abbrev next_blocks : Blocks
  next_blocks = wrote c w (heard b at kind)

  wrote_none : c ≡ false → next_blocks ≡ w
  wrote_none e = rw e

  wrote_begin : (len : ℕ) → kind ≡ Begin len → c ≡ true
      → next_blocks ≡ record { structure = w.structure ++ begin_bytes (node_name_at b.structure at len); strings = w.strings }
  unfolding write_event
  wrote_begin len q e = rw (e, q)

  wrote_end : kind ≡ EndNode → c ≡ true → next_blocks ≡ record { structure = w.structure ++ end_bytes; strings = w.strings }
  unfolding write_event
  wrote_end q e = rw (e, q)

  wrote_prop : (len name value : ℕ) → kind ≡ Prop len name value → c ≡ true
      → next_blocks ≡ with_property w (string_at b.strings name) (part b.structure value len)
  unfolding write_event
  wrote_prop len name value q e = rw (e, q)

module _ (c : Bool) (b : Block) (at : ℕ) (kind : Kind) (n : ℕ) (g : Bytes) (done : Size) (begun : Begun n g done)
    (f : Fits n g (wrote c (blocks_in n g done) (heard b at kind))) where
  abbrev goal : Bytes → Size → Type 0
  goal h r = Lays n g h r (wrote c (blocks_in n g done) (heard b at kind))

  pub lay_none : c ≡ false → goal g done
  lay_none e = rw (wrote_none c b at kind (blocks_in n g done) e) (lays_none n g done begun)

  pub lay_begin : (len : ℕ) → kind ≡ Begin len → c ≡ true → (name h : Bytes) → name ≡ node_name_at b.structure at len
      → h ≡ lay g (56 + done.structure) (begin_bytes name) → (x : ℕ) → x ≡ next_multiple_of (length name + 1) 4
      → goal h (record { structure = done.structure + (4 + x); strings = done.strings })
  lay_begin len q t name h e l x p =
      let w = wrote_begin c b at kind (blocks_in n g done) len q t in
      let bs : Bytes = begin_bytes (node_name_at b.structure at len) in
      let r : h ≡ lay g (56 + done.structure) bs = l ∙ ap (λ (x : Bytes). lay g (56 + done.structure) (begin_bytes x)) e in
      let v = length_begin (node_name_at b.structure at len) in
      rw w
      (lays_structure n g done begun bs h r
      (omega (arith, f.structure, ap (λ (z : Blocks). length z.structure) w, length-append (part g 56 done.structure) bs, begun_structure n g done begun))
      (done.structure + (4 + x))
      (omega (arith, v, ap length e, p, padded_next (length name + 1))))

  pub lay_end : kind ≡ EndNode → c ≡ true → (h : Bytes) → h ≡ lay g (56 + done.structure) end_bytes
      → goal h (record { structure = done.structure + 4; strings = done.strings })
  lay_end q t h l =
      let w = wrote_end c b at kind (blocks_in n g done) q t in
      rw w
      (lays_structure n g done begun end_bytes h l
      (omega (arith, f.structure, ap (λ (z : Blocks). length z.structure) w, length-append (part g 56 done.structure) end_bytes, begun_structure n g done begun))
      (done.structure + 4)
      (omega (arith, length_end)))

  -- what a property asks, and gives
  module _ (len name value : ℕ) (q : kind ≡ Prop len name value) (t : c ≡ true) (x v : Bytes)
      (e : x ≡ string_at b.strings name) (l : v ≡ part b.structure value len) where
    same_blocks : wrote c (blocks_in n g done) (heard b at kind) ≡ with_property (blocks_in n g done) x v
    same_blocks = wrote_prop c b at kind (blocks_in n g done) len name value q t ∙ rw (e, l)

    pub prop_fits : Fits n g (with_property (blocks_in n g done) x v)
    prop_fits = rw same_blocks at f

    pub lay_prop : (h : Bytes) (r : Size) → Lays n g h r (with_property (blocks_in n g done) x v) → goal h r
    lay_prop h r y = rw same_blocks y

-- a token that is copied says something
pub copied_spoken : (k : ℕ → Bool) (n s : ℕ) (kind : Kind) → copies k n s kind ≡ true → spoken kind ≡ copies k n s kind
copied_spoken k n s (Begin len) e = sym e
copied_spoken k n s EndNode e = sym e
copied_spoken k n s (Prop len name value) e = sym e
copied_spoken k n s Nop e = refl

-- ---- the walk

-- the strings only grow
strings_grow : (w : Blocks) (es : List Event) → length w.strings ≤ length (write_events w es).strings
unfolding write_events write_event
strings_grow w [] = omega arith
strings_grow w (opens place name ∷ es) = strings_grow (write_event w (opens place name)) es
strings_grow w (has p ∷ es) = omega (arith, strings_grow (write_event w (has p)) es, length-append w.strings (name_growth p.name w.strings))
strings_grow w (closes place ∷ es) = strings_grow (write_event w (closes place)) es

pub record Fills (s t : Bytes) (ws : List ℕ) (n : ℕ) (g₀ g : Bytes) (at : ℕ) (w : Walk) (done : Size) : Type 0 where
  pub inside : at ≤ length s
  pub behind : Behind w at
  pub begun : Begun n g done
  pub rest : write_events (blocks_in n g done) (rest_at (marked ws) (block_of 0 s t) at w.next w.skipped) ≡ copy_of s t ws
  pub kept : (m : ℕ) → n + length (copy_of s t ws).strings ≤ m → drop m g ≡ drop m g₀
  pub same : length g ≡ length g₀

module _ (s t : Bytes) (ws : List ℕ) (n : ℕ) (g₀ : Bytes) (p : n ≡ 56 + length (copy_of s t ws).structure + 4) (l : n + length (copy_of s t ws).strings ≤ length g₀) where
  pub fills_start : Fills s t ws n g₀ g₀ 0 (record { next = 0; skipped = 0 }) (record { structure = 0; strings = 0 })
  unfolding copy_of
  fills_start = record {
    inside = omega arith;
    behind = (omega arith, omega arith);
    begun = record { structure = omega arith; strings = omega arith };
    rest = ap (λ (es : List Event). write_events blank (sift (marked ws) 0 0 es)) (sym (events_all (block_of 0 s t)));
    kept = λ m h. refl;
    same = refl;
  }

  -- what the copy holds already is no longer than the copy
  fits_on : (w : Blocks) (es : List Event) (g : Bytes) → length g ≡ length g₀ → write_events w es ≡ copy_of s t ws → Fits n g w
  fits_on w es g e h = record {
    structure = omega (arith, structure_length w es, ap (λ (v : Blocks). length v.structure) h);
    strings = omega (arith, strings_grow w es, ap (λ (v : Blocks). length v.strings) h);
  }

  module _ (g : Bytes) (at : ℕ) (w : Walk) (done : Size) (f : Fills s t ws n g₀ g at w done) (r : Token) (e : r ≡ token_at s at) where
    pub fills_stop : (j : Bytes) → j ≡ g → OneOf (1 ∷ 2 ∷ []) (tag_of tokened.the_type r) → Lays n g₀ j (size_of (copy_of s t ws)) (copy_of s t ws)
    unfolding write_events
    fills_stop j q h =
        let y : blocks_in n g done ≡ copy_of s t ws =
        ap (write_events (blocks_in n g done)) (sym (rest_stop (marked ws) (block_of 0 s t) at w.next w.skipped f.inside r e h)) ∙ f.rest in
        let a : done.structure ≡ length (copy_of s t ws).structure = sym (begun_structure n g done f.begun) ∙ ap (λ (v : Blocks). length v.structure) y in
        let c : done.strings ≡ length (copy_of s t ws).strings = sym (begun_strings n g done f.begun) ∙ ap (λ (v : Blocks). length v.strings) y in
        rw q (record {
          blocks = (λ i. record { structure = part g 56 (sym a i); strings = part g n (sym c i) }) ∙ y;
          structure = refl;
          strings = refl;
          behind = λ m x. f.kept m x;
          size = f.same;
        })

    module _ (kind : Kind) (next : ℕ) (q : r ≡ Item kind next) where
      abbrev after : Blocks
      after = wrote (copies (marked ws) w.next w.skipped kind) (blocks_in n g done) (heard (block_of 0 s t) at kind)

      rest-on : write_events after (rest_at (marked ws) (block_of 0 s t) next (onward_of (marked ws) w kind).next (onward_of (marked ws) w kind).skipped) ≡ copy_of s t ws
      rest-on =
          sym (ap (write_events (blocks_in n g done)) (rest_item (marked ws) (block_of 0 s t) at w.next w.skipped f.inside r e kind next q)
          ∙ write_when (blocks_in n g done) (copies (marked ws) w.next w.skipped kind) (heard (block_of 0 s t) at kind) _)
          ∙ f.rest

      pub fills-fits : Fits n g after
      fills-fits = fits_on after _ g f.same rest-on

      pub fills-on : (h : Bytes) (d : Size) → Lays n g h d after → (u : Walk) → u ≡ onward_of (marked ws) w kind → Fills s t ws n g₀ h next u d
      fills-on h d y u o =
          let a = item_ahead s at r kind next e q in
          let x = fills-fits in
          let c : n + length after.strings ≤ n + length (copy_of s t ws).strings =
          omega (arith, strings_grow after (rest_at (marked ws) (block_of 0 s t) next (onward_of (marked ws) w kind).next (onward_of (marked ws) w kind).skipped), ap (λ (v : Blocks). length v.strings) rest-on) in
          record {
            inside = a.1;
            behind = walk_behind (marked ws) w u kind at next o f.behind a.0;
            begun = record { structure = omega (arith, x.structure, y.structure); strings = omega (arith, x.strings, y.strings, y.size) };
            rest = rw (y.blocks, o) rest-on;
            kept = λ m j. y.behind m (omega arith) ∙ f.kept m j;
            same = y.size ∙ f.same;
          }
