-- What the blocks of the copy grow by: the structure by each event, and the strings by each name that no property before had.
use Rattle.std.specs.Prelude.{if◌then◌else◌}
use mathlib.Core.Path.{◌≡◌, refl, sym, ap, ◌∙◌}
use mathlib.Core.Bool.{Bool, true, false, ◌&&◌, ◌||◌}
use mathlib.Core.List.Memᴰ
use mathlib.Core.List.{List, [], ◌∷◌, ◌++◌, append_assoc, append-nil}
use mathlib.Core.Logic.{inl, inr}
use Prim.Native.Nat.{ℕ, ◌+◌, ◌-◌, ◌<◌}
use native.Mathlib.Omega.{arith}
use lib.Dec.{eqb}
use lib.ListN.{length, take, drop, length-append}
use lib.Seq.{drop_at, take-nil}
use borrow.Author.Tests.{ne_eqb, eqb-true, eqb-false, lt-ltb, le-ltb}
use Rattle.rules.specs.Octets.{Bytes, nul_in, closed, same, begins}
use Rattle.rules.specs.Blob.{Block, block_of}
use Rattle.rules.specs.Tokens.{Placed}
use Rattle.rules.specs.Events.{Event, opens, has, closes, string_at, saying, events_of, events_in}
use Rattle.rules.specs.Writer.{begin_bytes, end_bytes, property_bytes, name_from, name_offset, name_growth}
use Rattle.rules.specs.Written.{Blocks, write_event, write_events}
use Rattle.rules.specs.Copy.{when}
use Rattle.rules.specs.Listing.{◌∈◌}
use Rattle.rules.specs.declared.Token.{Token}
use Rattle.rules.specs.declared.Token.TheVariants.{Item, End, Cut}
use Rattle.rules.specs.declared.Kind.TheVariants.{Begin, EndNode, Prop, Nop}
use Rattle.rules.proofs.Laws.Tests.{by_test, or_nothing}
use Rattle.rules.proofs.Laws.Octets.{same_eq, nul_first, nul_cons}
use Rattle.rules.proofs.Laws.Writer.{length_property, name_here, name_past}
use Rattle.rules.proofs.Laws.Encoded.{nul_name}
use Rattle.guest.specs.Walked.{marked, sift, blank, copy_of}
use Rattle.guest.specs.Measured.{is_in, names_of, names_in, growth_of, structure_size}
use Rattle.guest.proofs.Noted.{in_append, in_snoc}

-- ---- names without NUL

abbrev Plain : Bytes → Type 0
Plain x = 0 ∈ x → ⊥

abbrev Plains : List Bytes → Type 0
Plains [] = Unit {0}
Plains (x ∷ xs) = Plain x × Plains xs

plains_append : (a b : List Bytes) → Plains a → Plains b → Plains (a ++ b)
plains_append [] b p q = q
plains_append (x ∷ a) b p q = (p.0, plains_append a b p.1 q)

plain_taken : (s : Bytes) → Plain (take (nul_in s) s)
plain_taken [] = rw (take-nil (nul_in [])) (λ m. Memᴰ.not-nil m)
plain_taken (x ∷ s) = by_test (eqb x 0)
    (λ e. rw (ap (λ (z : ℕ). nul_in (z ∷ s)) (eqb-true x 0 e) ∙ nul_first s) (λ m. Memᴰ.not-nil m))
    (λ e. rw (nul_cons x s (eqb-false x 0 e)) (λ m. elim (Memᴰ.cases_cons m) [ inl q ↦ eqb-false x 0 e (sym q) | inr p ↦ plain_taken s p ]))

plain_string : (t : Bytes) (o : ℕ) → Plain (string_at t o)
unfolding string_at
plain_string t o = plain_taken (drop o t)

-- the names that tokens say have none
plain_said : (b : Block) (at : ℕ) (k : Token) (es : List Event) → Plains (names_of es) → Plains (names_of (saying b at k es))
unfolding names_of
plain_said b at (Item (Begin len) next) es p = p
plain_said b at (Item EndNode next) es p = p
plain_said b at (Item (Prop len name value) next) es p = (plain_string b.strings name, p)
plain_said b at (Item Nop next) es p = p
plain_said b at End es p = p
plain_said b at Cut es p = p

plain_events : (b : Block) (ts : List Placed) → Plains (names_of (events_of b ts))
unfolding events_of names_of
plain_events b [] = tt
plain_events b (t ∷ ts) = plain_said b t.at t.token (events_of b ts) (plain_events b ts)

plain_when : (c : Bool) (e : Event) (es : List Event) → Plains (names_of (e ∷ [])) → Plains (names_of es) → Plains (names_of (when c e es))
unfolding names_of
plain_when false e es p q = q
plain_when true (opens place name) es p q = q
plain_when true (has h) es p q = (p.0, q)
plain_when true (closes place) es p q = q

plain_sift : (k : ℕ → Bool) (n s : ℕ) (es : List Event) → Plains (names_of es) → Plains (names_of (sift k n s es))
unfolding sift names_of
plain_sift k n s [] p = p
plain_sift k n s (opens place name ∷ es) p =
    let s' : ℕ = if eqb s 0 && k n then s else s + 1 in
    plain_when (eqb s 0 && k n) (opens place name) (sift k (n + 1) s' es) tt (plain_sift k (n + 1) (if eqb s 0 && k n then s else s + 1) es p)
plain_sift k n s (has h ∷ es) p = plain_when (eqb s 0) (has h) (sift k n s es) (p.0, tt) (plain_sift k n s es p.1)
plain_sift k n s (closes place ∷ es) p = plain_when (eqb s 0) (closes place) (sift k n (s - 1) es) tt (plain_sift k n (s - 1) es p)

-- ---- a strings block of whole names

abbrev closed_all : List Bytes → Bytes
closed_all [] = []
closed_all (n ∷ ns) = n ++ (0 ∷ closed_all ns)

closed_snoc : (ns : List Bytes) (x : Bytes) → closed_all (ns ++ x ∷ []) ≡ closed_all ns ++ closed x
closed_snoc [] x = refl
closed_snoc (n ∷ ns) x = rw (closed_snoc ns x, append_assoc)

-- a name closed by NUL begins another only where the two are the same
begins_plain : (x n r : Bytes) → Plain x → Plain n → begins (closed x) (n ++ (0 ∷ r)) ≡ same x n
unfolding begins same
begins_plain [] [] r p q = refl
begins_plain [] (b ∷ n) r p q = rw (ne_eqb 0 b (λ e. q (Memᴰ.head e)))
begins_plain (a ∷ x) [] r p q = rw (ne_eqb a 0 (λ e. p (Memᴰ.head (sym e))))
begins_plain (a ∷ x) (b ∷ n) r p q =
    ap (λ (t : Bool). eqb a b && t) (begins_plain x n r (λ m. p (Memᴰ.tail m)) (λ m. q (Memᴰ.tail m)))

module _ (x : Bytes) (p : Plain x) where
  length_named : (n r : Bytes) → length (n ++ (0 ∷ r)) ≡ length n + 1 + length r
  length_named n r = length-append n (0 ∷ r) ∙ omega arith

  behind_name : (n r : Bytes) → drop (length n + 1) (n ++ (0 ∷ r)) ≡ r
  behind_name n r =
      ap (drop (length n + 1)) (sym (append_assoc n (0 ∷ []) r)) ∙ drop_at (n ++ 0 ∷ []) r (length n + 1) (length-append n (0 ∷ []))

  -- another name stands first
  offset_past : (n r : Bytes) → Plain n → same x n ≡ false → name_offset x (n ++ (0 ∷ r)) ≡ length n + 1 + name_offset x r
  offset_past n r q e =
      let u : nul_in (n ++ (0 ∷ r)) ≡ length n = nul_name n r q in
      name_past x (n ++ (0 ∷ r)) (begins_plain x n r p q ∙ e) (omega (arith, u, length_named n r))
      ∙ rw (u, behind_name n r)

  offset_here : (n r : Bytes) → Plain n → same x n ≡ true → name_offset x (n ++ (0 ∷ r)) ≡ 0
  offset_here n r q e = name_here x (n ++ (0 ∷ r)) (omega (arith, length_named n r)) (begins_plain x n r p q ∙ e)

  found : (ns : List Bytes) → Plains ns → is_in x ns ≡ true → name_offset x (closed_all ns) < length (closed_all ns)
  unfolding is_in
  found [] q e = absurd (let z : ◌≡◌ {A = ℕ} 0 1 = cc in omega arith)
  found (n ∷ ns) q e = by_test (same x n)
      (λ h. omega (arith, offset_here n (closed_all ns) q.0 h, length_named n (closed_all ns)))
      (λ h. omega (arith, offset_past n (closed_all ns) q.0 h, length_named n (closed_all ns), found ns q.1 (rw h at e)))

  missed : (ns : List Bytes) → Plains ns → is_in x ns ≡ false → name_offset x (closed_all ns) ≡ length (closed_all ns)
  unfolding is_in name_from
  missed [] q e = refl
  missed (n ∷ ns) q e = by_test (same x n)
      (λ h. absurd (let z : ◌≡◌ {A = Bool} true false = sym (rw h) ∙ e in let y : ◌≡◌ {A = ℕ} 0 1 = cc in omega arith))
      (λ h. omega (arith, offset_past n (closed_all ns) q.0 h, length_named n (closed_all ns), missed ns q.1 (rw h at e)))

-- ---- what is interned

-- the strings are whole names, and those of properties before
pub record Interned (s : Bytes) (done : List Bytes) : Type 0 where
  pub names : List Bytes
  pub whole : s ≡ closed_all names
  pub plain : Plains names
  pub members : (x : Bytes) → is_in x names ≡ is_in x done

interned_none : Interned [] []
interned_none = record { names = []; whole = refl; plain = tt; members = λ x. refl }

in_known : (done : List Bytes) (x y : Bytes) → is_in x done ≡ true → is_in y (done ++ x ∷ []) ≡ is_in y done
in_known done x y e = in_snoc y done x ∙ by_test (same y x)
    (λ h. let u : is_in y done ≡ true = ap (λ (z : Bytes). is_in z done) (same_eq y x h) ∙ e in rw (h, u))
    (λ h. rw h (or_nothing (is_in y done)))

module _ (s : Bytes) (done : List Bytes) (i : Interned s done) (x : Bytes) (p : Plain x) where
  growth_known : is_in x done ≡ true → name_growth x s ≡ []
  unfolding name_growth
  growth_known e =
      let f = found x p i.names i.plain (i.members x ∙ e) in
      rw (i.whole, lt-ltb (name_offset x (closed_all i.names)) (length (closed_all i.names)) f)

  growth_new : is_in x done ≡ false → name_growth x s ≡ closed x
  unfolding name_growth
  growth_new e =
      let f = missed x p i.names i.plain (i.members x ∙ e) in
      rw (i.whole, le-ltb (name_offset x (closed_all i.names)) (length (closed_all i.names)) (omega (arith, f)))

  interned_on : Interned (s ++ name_growth x s) (done ++ x ∷ [])
  interned_on = by_test (is_in x done)
      (λ e. record {
        names = i.names;
        whole = rw (growth_known e, append-nil) i.whole;
        plain = i.plain;
        members = λ y. i.members y ∙ sym (in_known done x y e);
      })
      (λ e. record {
        names = i.names ++ x ∷ [];
        whole = ap (λ (g : Bytes). s ++ g) (growth_new e) ∙ ap (λ (l : Bytes). l ++ closed x) i.whole ∙ sym (closed_snoc i.names x);
        plain = plains_append i.names (x ∷ []) i.plain (p, tt);
        members = λ y. in_append y i.names (x ∷ []) ∙ ap (λ (t : Bool). t || is_in y (x ∷ [])) (i.members y) ∙ sym (in_append y done (x ∷ []));
      })

  grown_by : length (s ++ name_growth x s) ≡ length s + (if is_in x done then 0 else length x + 1)
  grown_by = by_test (is_in x done)
      (λ e. rw (growth_known e, e, append-nil) (omega arith))
      (λ e. rw (growth_new e, e, length-append s (closed x), length-append x (0 ∷ [])))

-- ---- the lengths of what is written

pub strings_length_lem : (w : Blocks) (done : List Bytes) (es : List Event) → Interned w.strings done → Plains (names_of es)
    → length (write_events w es).strings ≡ length w.strings + growth_of done (names_of es)
unfolding write_events write_event names_of growth_of
strings_length_lem w done [] i p = omega arith
strings_length_lem w done (opens place name ∷ es) i p = strings_length_lem (write_event w (opens place name)) done es i p
strings_length_lem w done (has h ∷ es) i p =
    strings_length_lem (write_event w (has h)) (done ++ h.name ∷ []) es (interned_on w.strings done i h.name p.0) p.1
    ∙ ap (λ (n : ℕ). n + growth_of (done ++ h.name ∷ []) (names_of es)) (grown_by w.strings done i h.name p.0)
    ∙ omega arith
strings_length_lem w done (closes place ∷ es) i p = strings_length_lem (write_event w (closes place)) done es i p

pub structure_length : (w : Blocks) (es : List Event) → length (write_events w es).structure ≡ length w.structure + structure_size es
unfolding write_events write_event structure_size
structure_length w [] = omega arith
structure_length w (opens place name ∷ es) =
    structure_length (write_event w (opens place name)) es ∙ rw (length-append w.structure (begin_bytes name)) (omega arith)
structure_length w (has h ∷ es) =
    structure_length (write_event w (has h)) es
    ∙ rw (
      length-append w.structure (property_bytes (name_offset h.name w.strings) h.value),
      length_property (name_offset h.name w.strings) h.value,
      length_property 0 h.value,
    ) (omega arith)
structure_length w (closes place ∷ es) = structure_length (write_event w (closes place)) es ∙ rw (length-append w.structure end_bytes) (omega arith)

-- THE SIZES OF THE COPY
module _ (s t : Bytes) (ws : List ℕ) where
  pub copy_structure : length (copy_of s t ws).structure ≡ structure_size (sift (marked ws) 0 0 (events_in (block_of 0 s t)))
  unfolding copy_of
  copy_structure = structure_length blank (sift (marked ws) 0 0 (events_in (block_of 0 s t))) ∙ omega arith

  pub copy_strings : length (copy_of s t ws).strings ≡ growth_of [] (names_in s t ws)
  unfolding copy_of names_in events_in
  copy_strings =
      strings_length_lem blank [] (sift (marked ws) 0 0 (events_in (block_of 0 s t))) interned_none
      (plain_sift (marked ws) 0 0 (events_in (block_of 0 s t)) (plain_events (block_of 0 s t) _))
      ∙ omega arith
