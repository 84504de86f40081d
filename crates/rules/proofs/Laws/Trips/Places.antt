-- Tokens where they stand: what the bytes at a place say of the token there, and what the token says of the bytes.
use Rattle.std.specs.Prelude.{◌≡◌, refl, false, ◌∷◌, ◌++◌, ℕ, ◌+◌, ◌≤◌, ◌<◌, length, take, drop}
use Rattle.std.proofs.Common.{sym, ◌∙◌, append_assoc, arith, length-append, length-drop, drop_at, take_at, drop-drop}
use Rattle.std.proofs.Math.Path.{ap}
use Rattle.std.proofs.Math.Nat.{add-zero}
use Rattle.std.proofs.Math.ListN.{get_or-append}
use Rattle.std.proofs.Math.Seq.{get_or-drop}
use borrow.Author.Tests.{le-leb, ltb-false}
use Rattle.rules.specs.Octets.{Bytes, byte_at, word_at, padded, part, nul_in, has_nul}
use Rattle.rules.specs.Names.{property_name_reads}
use Rattle.rules.specs.Tokens.{begin_at, prop_at, tagged, token_at}
use Rattle.rules.specs.Events.{node_name_at, string_at, property_reads}
use Rattle.rules.specs.declared.Token.TheVariants.{Item, End}
use Rattle.rules.specs.declared.Kind.TheVariants.{Begin, EndNode, Prop, Nop}
use Rattle.rules.proofs.Laws.Octets.{nul_closed, nul_before}
use Rattle.rules.specs.Grammar.{Word, Pads, Stands}
use Rattle.rules.proofs.Laws.Encoded.{string_ends, reads_ends}

-- ---- bytes at a place

module _ (s : Bytes) (at : ℕ) where
  -- behind x
  pub past : (x r : Bytes) (n : ℕ) → drop at s ≡ x ++ r → length x ≡ n → drop (at + n) s ≡ r
  past x r n e l = sym (drop-drop n at s) ∙ ap (drop n) e ∙ drop_at x r n l

  pub fits : (x r : Bytes) → drop at s ≡ x ++ r → 0 < length x → at + length x ≤ length s
  fits x r e h = omega (arith, sym (length-drop at s) ∙ ap length e ∙ length-append x r)

  word_drop : word_at s at ≡ word_at (drop at s) 0
  unfolding word_at
  word_drop = rw (get_or-drop at s 0 0, get_or-drop at s 1 0, get_or-drop at s 2 0, get_or-drop at s 3 0, add-zero at)

  -- four bytes that stand here
  pub word_here : (w r : Bytes) (v : ℕ) → drop at s ≡ w ++ r → Word v w → word_at s at ≡ v
  unfolding word_at
  word_here w r v e o =
      let l = o.four in
      word_drop ∙ ap (λ (x : Bytes). word_at x 0) e
      ∙ rw (
        get_or-append w r 0 0 (omega arith),
        get_or-append w r 0 1 (omega arith),
        get_or-append w r 0 2 (omega arith),
        get_or-append w r 0 3 (omega arith),
      )
      o.reads

  -- the token whose tag stands here
  tag_here : (w r : Bytes) (v : ℕ) → drop at s ≡ w ++ r → Word v w → token_at s at ≡ tagged v s (at + 4)
  unfolding token_at
  tag_here w r v e o =
      let l = o.four in
      rw (le-leb (at + 4) (length s) (omega (arith, fits w r e (omega arith))), word_here w r v e o)

  pub nop_here : (w r : Bytes) → drop at s ≡ w ++ r → Word 4 w → token_at s at ≡ Item Nop (at + 4)
  unfolding tagged
  nop_here w r e o = tag_here w r 4 e o

  pub close_here : (w r : Bytes) → drop at s ≡ w ++ r → Word 2 w → token_at s at ≡ Item EndNode (at + 4)
  unfolding tagged
  close_here w r e o = tag_here w r 2 e o

  pub end_here : (w r : Bytes) → drop at s ≡ w ++ r → Word 9 w → token_at s at ≡ End
  unfolding tagged
  end_here w r e o = tag_here w r 9 e o

-- ---- names

no_nul : (name : Bytes) → has_nul name ≡ false → (i : ℕ) → i < length name → byte_at name i ≡ 0 → ⊥
no_nul name h i k e = nul_before name i (omega (arith, ltb-false (nul_in name) (length name) h)) e

pub nul_here : (name r : Bytes) → has_nul name ≡ false → nul_in (name ++ 0 ∷ r) ≡ length name
nul_here name r h = nul_closed name r (no_nul name h)

-- BEGIN, name, NUL and padding
module _ (s : Bytes) (at : ℕ) (tag name pad r : Bytes) (e : drop at s ≡ tag ++ (name ++ (0 ∷ (pad ++ r)))) (o : Word 1 tag)
    (p : has_nul name ≡ false) (q : Pads (length name + 1) pad) where
  name_past : drop (at + 4) s ≡ name ++ (0 ∷ (pad ++ r))
  name_past = past s at tag (name ++ (0 ∷ (pad ++ r))) 4 e o.four

  pub begin_past : drop (at + 4 + padded (length name + 1)) s ≡ r
  begin_past =
      let l : length (name ++ (0 ∷ pad)) ≡ padded (length name + 1) = length-append name (0 ∷ pad) ∙ omega (arith, q.whole) in
      past s (at + 4) (name ++ (0 ∷ pad)) r (padded (length name + 1)) (name_past ∙ sym (append_assoc name (0 ∷ pad) r)) l

  pub begin_fits : at + 4 + padded (length name + 1) ≤ length s
  begin_fits =
      let l : length (name ++ (0 ∷ pad)) ≡ padded (length name + 1) = length-append name (0 ∷ pad) ∙ omega (arith, q.whole) in
      omega (arith, fits s (at + 4) (name ++ (0 ∷ pad)) r (name_past ∙ sym (append_assoc name (0 ∷ pad) r)) (omega arith))

  pub begin_here : token_at s at ≡ Item (Begin (length name)) (at + 4 + padded (length name + 1))
  unfolding tagged begin_at
  begin_here =
      tag_here s at tag (name ++ (0 ∷ (pad ++ r))) 1 e o
      ∙ rw (name_past, nul_here name (pad ++ r) p, le-leb (at + 4 + padded (length name + 1)) (length s) begin_fits)

  pub name_here : node_name_at s at (length name) ≡ name
  name_here = ap (take (length name)) name_past ∙ take_at name (0 ∷ (pad ++ r)) (length name) refl

-- PROP, length, offset, value and padding
module _ (s : Bytes) (at : ℕ) (tag len off value pad r : Bytes) (offset : ℕ) (e : drop at s ≡ tag ++ (len ++ (off ++ (value ++ (pad ++ r)))))
    (o : Word 3 tag) (l : Word (length value) len) (f : Word offset off) (q : Pads (length value) pad) where
  len_past : drop (at + 4) s ≡ len ++ (off ++ (value ++ (pad ++ r)))
  len_past = past s at tag (len ++ (off ++ (value ++ (pad ++ r)))) 4 e o.four

  off_past : drop (at + 4 + 4) s ≡ off ++ (value ++ (pad ++ r))
  off_past = past s (at + 4) len (off ++ (value ++ (pad ++ r))) 4 len_past l.four

  value_past : drop (at + 4 + 8) s ≡ value ++ (pad ++ r)
  value_past =
      let n : at + 4 + 4 + 4 ≡ at + 4 + 8 = omega arith in
      rw n at (past s (at + 4 + 4) off (value ++ (pad ++ r)) 4 off_past f.four)

  pub prop_past : drop (at + 4 + 8 + padded (length value)) s ≡ r
  prop_past =
      past s (at + 4 + 8) (value ++ pad) r (padded (length value)) (value_past ∙ sym (append_assoc value pad r)) (length-append value pad ∙ q.whole)

  pub prop_fits : at + 4 + 8 + padded (length value) ≤ length s
  prop_fits =
      let a = tag ++ (len ++ (off ++ (value ++ pad))) in
      let m : length a ≡ 12 + padded (length value) =
      rw (
        length-append tag (len ++ (off ++ (value ++ pad))),
        length-append len (off ++ (value ++ pad)),
        length-append off (value ++ pad),
        length-append value pad,
        o.four,
        l.four,
        f.four,
        q.whole,
      )
      (omega arith) in
      let g : drop at s ≡ a ++ r = e ∙ sym (simp append_assoc) in
      omega (arith, fits s at a r g (omega arith))

  pub prop_here : token_at s at ≡ Item (Prop (length value) offset (at + 4 + 8)) (at + 4 + 8 + padded (length value))
  unfolding tagged prop_at
  prop_here =
      tag_here s at tag (len ++ (off ++ (value ++ (pad ++ r)))) 3 e o
      ∙ rw (
        word_here s (at + 4) len (off ++ (value ++ (pad ++ r))) (length value) len_past l,
        word_here s (at + 4 + 4) off (value ++ (pad ++ r)) offset off_past f,
        le-leb (at + 4 + 8) (length s) (omega (arith, prop_fits)),
        le-leb (at + 4 + 8 + padded (length value)) (length s) prop_fits,
      )

  pub value_here : part s (at + 4 + 8) (length value) ≡ value
  value_here = ap (take (length value)) value_past ∙ take_at value (pad ++ r) (length value) refl

-- a name that stands in the strings block is read there
module _ (strings : Bytes) (offset : ℕ) (name : Bytes) (t : Stands strings offset name) where
  pub string_here : string_at strings offset ≡ name
  string_here = string_ends strings name t.behind offset t.here (nul_here name t.behind t.plain)

  pub reads_here : property_reads strings offset ≡ property_name_reads name
  reads_here = reads_ends strings name t.behind offset t.here (nul_here name t.behind t.plain)
