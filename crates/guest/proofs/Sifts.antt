-- The copy from a place on, a token at a time: its names and its sizes.
use Rattle.std.specs.Prelude.{if◌then◌else◌}
use mathlib.Core.Path.{◌≡◌, refl, sym, ap, ◌∙◌, subst}
use mathlib.Core.Bool.{Bool, true, false, ◌&&◌}
use mathlib.Core.List.{List, [], ◌∷◌, ◌++◌}
use Prim.Native.Nat.{ℕ, ◌+◌, ◌-◌, ◌≤◌}
use native.Mathlib.Omega.{arith}
use lib.Dec.{eqb, leb}
use lib.ListN.{length, drop}
use types.Run.{OneOf, miss}
use denote.Enum.Declared.{tag_of}
use borrow.Author.Tests.{leb-true}
use Rattle.rules.specs.contracts.Token as tokened
use Rattle.rules.specs.Octets.{Bytes, part, word_at, nul_in, padded}
use Rattle.rules.specs.Blob.{Block, block_of}
use Rattle.rules.specs.Tokens.{begin_at, prop_at, tagged, token_at}
use Rattle.rules.specs.Events.{Event, opens, has, closes, node_name_at, string_at, saying}
use Rattle.rules.specs.Copy.{when}
use Rattle.rules.specs.declared.Token.{Token}
use Rattle.rules.specs.declared.Token.TheVariants.{Item, End, Cut}
use Rattle.rules.specs.declared.Kind.{Kind}
use Rattle.rules.specs.declared.Kind.TheVariants.{Begin, EndNode, Prop, Nop}
use Rattle.rules.proofs.Laws.Tests.{by_test}
use Rattle.rules.proofs.Laws.Octets.{length_part}
use Rattle.rules.proofs.Laws.Tokens.{if_by}
use Rattle.rules.specs.Laws.Events.{events_at}
use Rattle.rules.proofs.Laws.Events.{events_all, events_item, events_end, events_cut}
use Rattle.rules.proofs.Laws.Writer.{length_begin, length_end, length_property}
use Rattle.std.specs.Prelude.{Some, None}
use Rattle.guest.specs.Walked.{marked, copies, next_of, skipped_of, heard, sift}
use Rattle.guest.specs.Measured.{names_of, names_in, prop_of, name_at, structure_size}

-- ---- the copy from a place on

abbrev pub rest_at : (ℕ → Bool) → Block → (at n s : ℕ) → List Event
rest_at k b at n s = sift k n s (events_at b at)

pub sift_said : (k : ℕ → Bool) (b : Block) (at n s : ℕ) (kind : Kind) (next : ℕ) (es : List Event)
    → sift k n s (saying b at (Item kind next) es) ≡ when (copies k n s kind) (heard b at kind) (sift k (next_of n kind) (skipped_of k n s kind) es)
unfolding sift
sift_said k b at n s (Begin len) next es = refl
sift_said k b at n s EndNode next es = refl
sift_said k b at n s (Prop len name value) next es = refl
sift_said k b at n s Nop next es = refl

sift_none : (k : ℕ → Bool) (n s : ℕ) → sift k n s [] ≡ []
unfolding sift
sift_none k n s = refl

module _ (k : ℕ → Bool) (b : Block) (at n s : ℕ) (i : at ≤ length b.structure) (r : Token) (e : r ≡ token_at b.structure at) where
  pub rest_item : (kind : Kind) (next : ℕ) → r ≡ Item kind next
      → rest_at k b at n s ≡ when (copies k n s kind) (heard b at kind) (rest_at k b next (next_of n kind) (skipped_of k n s kind))
  rest_item kind next f = ap (sift k n s) (events_item b at i kind next (sym e ∙ f)) ∙ sift_said k b at n s kind next (events_at b next)

  pub rest_stop : OneOf (1 ∷ 2 ∷ []) (tag_of tokened.the_type r) → rest_at k b at n s ≡ []
  rest_stop h = by r e h
    where
      by : (t : Token) → t ≡ token_at b.structure at → OneOf (1 ∷ 2 ∷ []) (tag_of tokened.the_type t) → rest_at k b at n s ≡ []
      by (Item kind next) f h = absurd (miss (1 ∷ 2 ∷ []) 0 tt h)
      by End f h = ap (sift k n s) (events_end b at i (sym f)) ∙ sift_none k n s
      by Cut f h = ap (sift k n s) (events_cut b at i (sym f)) ∙ sift_none k n s

-- ---- names

abbrev pub names_at : (ℕ → Bool) → Block → (at n s : ℕ) → List Bytes
names_at k b at n s = names_of (rest_at k b at n s)

when_opens : (c : Bool) (place : ℕ) (name : Bytes) (es : List Event) → names_of (when c (opens place name) es) ≡ names_of es
unfolding names_of
when_opens true place name es = refl
when_opens false place name es = refl

when_closes : (c : Bool) (place : ℕ) (es : List Event) → names_of (when c (closes place) es) ≡ names_of es
unfolding names_of
when_closes true place es = refl
when_closes false place es = refl

when_has : (c : Bool) (strings : Bytes) (place name : ℕ) (v : Bytes) (es : List Event)
    → names_of (when c (has (record { place = place; name = string_at strings name; value = v })) es) ≡ name_at strings (if c then Some name else None) ++ names_of es
unfolding names_of
when_has true strings place name v es = refl
when_has false strings place name v es = refl

names_heard : (k : ℕ → Bool) (b : Block) (at n s : ℕ) (kind : Kind) (es : List Event)
    → names_of (when (copies k n s kind) (heard b at kind) es) ≡ name_at b.strings (prop_of s kind) ++ names_of es
names_heard k b at n s (Begin len) es = when_opens (eqb s 0 && k n) _ _ es
names_heard k b at n s EndNode es = when_closes (eqb s 0) _ es
names_heard k b at n s (Prop len name value) es = when_has (eqb s 0) b.strings _ name _ es
names_heard k b at n s Nop es = refl

names_none : names_of [] ≡ []
unfolding names_of
names_none = refl

pub names_all : (structure strings : Bytes) (ws : List ℕ) → names_in structure strings ws ≡ names_at (marked ws) (block_of 0 structure strings) 0 0 0
unfolding names_in
names_all structure strings ws = ap (λ (es : List Event). names_of (sift (marked ws) 0 0 es)) (events_all (block_of 0 structure strings))

module _ (k : ℕ → Bool) (b : Block) (at n s : ℕ) (i : at ≤ length b.structure) (r : Token) (e : r ≡ token_at b.structure at) where
  pub names_item : (kind : Kind) (next : ℕ) → r ≡ Item kind next
      → names_at k b at n s ≡ name_at b.strings (prop_of s kind) ++ names_at k b next (next_of n kind) (skipped_of k n s kind)
  names_item kind next f = ap names_of (rest_item k b at n s i r e kind next f) ∙ names_heard k b at n s kind _

  pub names_stop : OneOf (1 ∷ 2 ∷ []) (tag_of tokened.the_type r) → names_at k b at n s ≡ []
  names_stop h = ap names_of (rest_stop k b at n s i r e h) ∙ names_none

-- ---- extents

-- a token takes in the copy what it takes in the host
abbrev Extent : Bytes → ℕ → Token → Type 0
Extent s at (Item (Begin len) next) = (next ≡ at + 4 + padded (len + 1)) × (length (node_name_at s at len) ≡ len)
Extent s at (Item EndNode next) = next ≡ at + 4
Extent s at (Item (Prop len name value) next) = (next ≡ at + 4 + 8 + padded len) × (length (part s value len) ≡ len)
Extent s at (Item Nop next) = Unit
Extent s at End = Unit
Extent s at Cut = Unit

module _ (s : Bytes) (at : ℕ) where
  begin_extent : Extent s at (begin_at s (at + 4))
  unfolding begin_at
  begin_extent =
      let l : ℕ = nul_in (drop (at + 4) s) in
      if_by (Extent s at) (leb (at + 4 + padded (l + 1)) (length s))
      (λ e. (refl, length_part s (at + 4) l (omega (arith, leb-true (at + 4 + padded (l + 1)) (length s) e))))
      (λ _. tt)

  prop_extent : Extent s at (prop_at s (at + 4))
  unfolding prop_at
  prop_extent =
      let l : ℕ = word_at s (at + 4) in
      if_by (Extent s at) (leb (at + 4 + 8) (length s))
      (λ _. if_by (Extent s at) (leb (at + 4 + 8 + padded l) (length s))
      (λ e. (refl, length_part s (at + 4 + 8) l (omega (arith, leb-true (at + 4 + 8 + padded l) (length s) e))))
      (λ _. tt))
      (λ _. tt)

  tagged_extent : (tag : ℕ) → Extent s at (tagged tag s (at + 4))
  unfolding tagged
  tagged_extent tag =
      if_by (Extent s at) (eqb tag 1) (λ _. begin_extent)
      (λ _. if_by (Extent s at) (eqb tag 2) (λ _. refl)
      (λ _. if_by (Extent s at) (eqb tag 3) (λ _. prop_extent)
      (λ _. if_by (Extent s at) (eqb tag 4) (λ _. tt)
      (λ _. if_by (Extent s at) (eqb tag 9) (λ _. tt) (λ _. tt)))))

  token_extent : Extent s at (token_at s at)
  unfolding token_at
  token_extent = if_by (Extent s at) (leb (at + 4) (length s)) (λ _. tagged_extent (word_at s at)) (λ _. tt)

pub item_extent : (s : Bytes) (at : ℕ) (t : Token) (kind : Kind) (next : ℕ) → t ≡ token_at s at → t ≡ Item kind next → Extent s at (Item kind next)
item_extent s at t kind next e f = subst (Extent s at) (sym e ∙ f) (token_extent s at)

-- ---- sizes of the structure

when_size : (c : Bool) (e : Event) (es : List Event) (n : ℕ) → structure_size (e ∷ es) ≡ n + structure_size es
    → structure_size (when c e es) ≡ (if c then n else 0) + structure_size es
when_size true e es n h = h
when_size false e es n h = omega arith

size_heard : (k : ℕ → Bool) (b : Block) (at n s : ℕ) (kind : Kind) (next : ℕ) (es : List Event) → Extent b.structure at (Item kind next)
    → structure_size (when (copies k n s kind) (heard b at kind) es) ≡ (if copies k n s kind then next - at else 0) + structure_size es
unfolding structure_size
size_heard k b at n s (Begin len) next es x =
    when_size (eqb s 0 && k n) _ es (next - at)
    (let l = length_begin (node_name_at b.structure at len) in rw (l, x.1) (omega (arith, x.0)))
size_heard k b at n s EndNode next es x = when_size (eqb s 0) _ es (next - at) (rw length_end (omega (arith, x)))
size_heard k b at n s (Prop len name value) next es x =
    when_size (eqb s 0) _ es (next - at) (let l = length_property 0 (part b.structure value len) in rw (l, x.1) (omega (arith, x.0)))
size_heard k b at n s Nop next es x = omega arith

size_none : structure_size [] ≡ 0
unfolding structure_size
size_none = refl

abbrev pub size_at : (ℕ → Bool) → Block → (at n s : ℕ) → ℕ
size_at k b at n s = structure_size (rest_at k b at n s)

module _ (k : ℕ → Bool) (b : Block) (at n s : ℕ) (i : at ≤ length b.structure) (r : Token) (e : r ≡ token_at b.structure at) where
  pub size_item : (kind : Kind) (next : ℕ) → r ≡ Item kind next
      → size_at k b at n s ≡ (if copies k n s kind then next - at else 0) + size_at k b next (next_of n kind) (skipped_of k n s kind)
  size_item kind next f =
      ap structure_size (rest_item k b at n s i r e kind next f)
      ∙ size_heard k b at n s kind next _ (item_extent b.structure at r kind next e f)

  pub size_stop : OneOf (1 ∷ 2 ∷ []) (tag_of tokened.the_type r) → size_at k b at n s ≡ 0
  size_stop h = ap structure_size (rest_stop k b at n s i r e h) ∙ size_none

-- ---- how far a walk has come

pub next_le : (n : ℕ) (kind : Kind) → next_of n kind ≤ n + 1
next_le n (Begin len) = omega arith
next_le n EndNode = omega arith
next_le n (Prop len name value) = omega arith
next_le n Nop = omega arith

pub skipped_le : (k : ℕ → Bool) (n s : ℕ) (kind : Kind) → skipped_of k n s kind ≤ s + 1
skipped_le k n s (Begin len) = by_test (eqb s 0 && k n) (λ e. rw e (omega arith)) (λ e. rw e (omega arith))
skipped_le k n s EndNode = omega arith
skipped_le k n s (Prop len name value) = omega arith
skipped_le k n s Nop = omega arith
