-- The search for a cells property over tokens is the look into the properties that they say.
use mathlib.Core.Path.{◌≡◌, refl, sym, ap, ◌∙◌}
use mathlib.Core.Bool.{true, false}
use mathlib.Core.List.{List, [], ◌∷◌}
use mathlib.Core.Option.{Option, none, some}
use Rattle.std.specs.Prelude as lent
use Prim.Native.Nat.{ℕ, ◌≤◌}
use Prim.Native.String.{String}
use native.Mathlib.Omega.{arith}
use lib.ListN.{length}
use Rattle.rules.specs.Octets.{word_at, part, ascii, same}
use Rattle.rules.specs.Blob.{Block}
use Rattle.rules.specs.Events.{Property, string_at}
use Rattle.rules.specs.Tree.{props_of, value_of}
use Rattle.rules.specs.References.{word_named}
use Rattle.rules.specs.Laws.Events.{events_at}
use Rattle.rules.specs.Laws.Tabled.{props_at, count_named}
use Rattle.tokens.specs.declared.Property as next
use Rattle.tokens.specs.Properties.{behind_at, property_at}
use Rattle.tokens.proofs.Properties.{behind_props, props_none, props_here}
use Rattle.references.specs.Rows.{is_named}

module _ (s : String) (p : Property) (ps : List Property) where
  word_here : same (ascii s) p.name ≡ true → word_named (ascii s) (p ∷ ps) ≡ word_at p.value 0
  unfolding word_named value_of
  word_here e = rw (word_named, value_of, e)

  word_past : same (ascii s) p.name ≡ false → word_named (ascii s) (p ∷ ps) ≡ word_named (ascii s) ps
  unfolding word_named value_of
  word_past e = rw (word_named, value_of, e)

count_none : (o : Option String) → count_named o [] ≡ 0
unfolding count_named word_named value_of
count_none none = refl
count_none (some s) = refl

module _ (p : Property) (ps : List Property) where
  count_hit : (o : Option String) → is_named o p.name ≡ true → count_named o (p ∷ ps) ≡ word_at p.value 0
  unfolding count_named
  count_hit none e = let z : ◌≡◌ {A = ℕ} 0 1 = cc in absurd (omega arith)
  count_hit (some s) e = word_here s p ps e

  count_miss : (o : Option String) → is_named o p.name ≡ false → count_named o (p ∷ ps) ≡ count_named o ps
  unfolding count_named
  count_miss none e = refl
  count_miss (some s) e = word_past s p ps e

-- what is asked for, from a place on
abbrev pub count_at : Block → Option String → ℕ → ℕ
count_at b o at = count_named o (props_of (events_at b at))

module _ (b : Block) (o : Option String) where
  -- behind the node's own BEGIN
  pub count_first : (begin at : ℕ) → at ≡ behind_at b.structure begin → count_named o (props_at b begin) ≡ count_at b o at
  count_first begin at e = ap (count_named o) (behind_props b begin) ∙ ap (count_at b o) (sym e)

  module _ (at : ℕ) (i : at ≤ length b.structure) (r : lent.Option next.Property) (e : r ≡ property_at b.structure at) where
    pub count_end : r ≡ lent.None → count_at b o at ≡ 0
    count_end f = ap (count_named o) (props_none b at i r e f) ∙ count_none o

    module _ (p : next.Property) (f : r ≡ lent.Some p) where
      pub count-value : is_named o (string_at b.strings p.name) ≡ true → count_at b o at ≡ word_at (part b.structure p.value p.len) 0
      count-value g = ap (count_named o) (props_here b at i r e p f) ∙ count_hit _ _ o g

      pub count-on : is_named o (string_at b.strings p.name) ≡ false → count_at b o at ≡ count_at b o p.next
      count-on g = ap (count_named o) (props_here b at i r e p f) ∙ count_miss _ _ o g
