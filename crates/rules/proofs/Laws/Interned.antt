-- The strings block that events leave: the distinct names in order of first use, each closed by NUL.
use Rattle.std.specs.Prelude.{◌≡◌, refl, true, false, ◌||◌, List, [], ◌∷◌, ◌++◌, ◌+◌, ◌<◌, ltb, length, take, drop}
use Rattle.std.proofs.Common.{sym, ap, ◌∙◌, append_assoc, append-nil, inl, inr, arith, length-append, take_at, drop_at}
use mathlib.Core.List.Memᴰ
use Rattle.rules.specs.Octets.{Bytes, nul_in, has_nul, closed, same, begins}
use Rattle.rules.specs.Events.{Event, opens, has, closes}
use Rattle.rules.specs.Writer.{name_from, name_offset, name_growth}
use Rattle.rules.specs.Listing.{◌∈◌, paths_bytes}
use Rattle.rules.specs.Exactly.{names_used, is_among, first_uses, InternedOnce}
use Rattle.rules.proofs.Laws.Tests.{by_test, both_ways, or_comm, or_assoc, ltb_cong}
use Rattle.rules.proofs.Laws.Octets.{begins_split, begins_append, same_eq, eq_same}
use Rattle.rules.proofs.Laws.Writer.{length_closed, name_here, name_past}
use Rattle.rules.proofs.Laws.ReadBack.{strings_of, writes}
use Rattle.rules.proofs.Laws.Trips.Places.{nul_here}

abbrev Plain : Bytes → Type 0
Plain n = has_nul n ≡ false

abbrev pub AllPlain : List Bytes → Type 0
AllPlain l = (n : Bytes) → n ∈ l → Plain n

closed_on : (m r : Bytes) → closed m ++ r ≡ m ++ 0 ∷ r
closed_on m r = append_assoc m (0 ∷ []) r

-- two names closed by NUL, of which one begins with the other, are one
one_name : (n m r t : Bytes) → Plain n → Plain m → m ++ 0 ∷ r ≡ n ++ 0 ∷ t → n ≡ m
one_name n m r t p q e =
    let l : length m ≡ length n = sym (nul_here m r q) ∙ ap nul_in e ∙ nul_here n t p in
    sym (take_at n (0 ∷ t) (length n) refl) ∙ ap (take (length n)) (sym e) ∙ take_at m (0 ∷ r) (length n) l

begins_name : (n m r : Bytes) → Plain n → Plain m → begins (closed n) (closed m ++ r) ≡ same n m
begins_name n m r p q = both_ways (begins (closed n) (closed m ++ r)) (same n m)
    (λ h. eq_same n m (one_name n m r (drop (length (closed n)) (closed m ++ r)) p q
    (sym (closed_on m r) ∙ begins_split (closed n) (closed m ++ r) h ∙ closed_on n (drop (length (closed n)) (closed m ++ r)))))
    (λ h. rw (same_eq n m h) (begins_append (closed m) r))

longer : (m r : Bytes) → length (closed m ++ r) ≡ length m + 1 + length r
longer m r = rw (length-append, length_closed)

found_first : (n m r : Bytes) → Plain n → Plain m → same n m ≡ true → ltb (name_offset n (closed m ++ r)) (length (closed m ++ r)) ≡ true
found_first n m r p q e =
    let l = longer m r in
    let h : 0 < length (closed m ++ r) = omega arith in
    rw (name_here n (closed m ++ r) h (begins_name n m r p q ∙ e)) (let z : ltb 0 (length (closed m ++ r)) ≡ ltb 0 1 = ltb_cong 0 (length (closed m ++ r)) 0 1 (λ _. omega arith) (λ _. h) in z)

found_later : (n m r : Bytes) → Plain n → Plain m → same n m ≡ false → ltb (name_offset n (closed m ++ r)) (length (closed m ++ r)) ≡ ltb (name_offset n r) (length r)
found_later n m r p q e =
    let l = longer m r in
    let u : nul_in (closed m ++ r) ≡ length m = ap nul_in (closed_on m r) ∙ nul_here m r q in
    let d : drop (length m + 1) (closed m ++ r) ≡ r = drop_at (closed m) r (length m + 1) (length_closed m) in
    let o : name_offset n (closed m ++ r) ≡ length m + 1 + name_offset n r =
    (rw (u, d) at (name_past n (closed m ++ r) (begins_name n m r p q ∙ e) (omega arith))) in
    ltb_cong (name_offset n (closed m ++ r)) (length (closed m ++ r)) (name_offset n r) (length r) (λ h. omega arith) (λ h. omega arith)

found : (n : Bytes) → Plain n → (l : List Bytes) → AllPlain l → ltb (name_offset n (paths_bytes l)) (length (paths_bytes l)) ≡ is_among n l
unfolding is_among paths_bytes name_from
found n p [] h = refl
found n p (m ∷ l) h = by_test (same n m)
    (λ e. rw e (found_first n m (paths_bytes l) p (h m (Memᴰ.head refl)) e))
    (λ e. rw e (found_later n m (paths_bytes l) p (h m (Memᴰ.head refl)) e ∙ found n p l (λ k i. h k (Memᴰ.tail i))))

-- one more at the end
paths_last : (l : List Bytes) (n : Bytes) → paths_bytes (l ++ n ∷ []) ≡ paths_bytes l ++ closed n
unfolding paths_bytes
paths_last [] n = append-nil (closed n)
paths_last (m ∷ l) n = rw (paths_last l n) (sym (append_assoc (closed m) (paths_bytes l) (closed n)))

among_last : (k : Bytes) (l : List Bytes) (n : Bytes) → is_among k (l ++ n ∷ []) ≡ (same k n || is_among k l)
unfolding is_among
among_last k [] n = refl
among_last k (m ∷ l) n =
    rw (among_last k l n)
    (sym (or_assoc (same k m) (same k n) (is_among k l)) ∙ rw (or_comm (same k m) (same k n)) (or_assoc (same k n) (same k m) (is_among k l)))

plain_last : (l : List Bytes) (n : Bytes) → AllPlain l → Plain n → AllPlain (l ++ n ∷ [])
plain_last l n h p k i = elim (Memᴰ.append_cases l i) [
  | inl a ↦ h k a
  | inr b ↦ elim (Memᴰ.cases_cons b) [ inl e ↦ rw e p | inr c ↦ absurd (Memᴰ.not-nil c) ]
]

-- a use of a name that is there, and of one that is not
grown_not : (n : Bytes) (l : List Bytes) → Plain n → AllPlain l → is_among n l ≡ true → paths_bytes l ++ name_growth n (paths_bytes l) ≡ paths_bytes l
unfolding name_growth
grown_not n l p h e = rw (found n p l h, e) (append-nil (paths_bytes l))

grown : (n : Bytes) (l : List Bytes) → Plain n → AllPlain l → is_among n l ≡ false → paths_bytes l ++ name_growth n (paths_bytes l) ≡ paths_bytes (l ++ n ∷ [])
unfolding name_growth
grown n l p h e = rw (found n p l h, e) (sym (paths_last l n))

first_none : (seen : List Bytes) → first_uses seen [] ≡ []
unfolding first_uses
first_none seen = refl

first_not : (seen : List Bytes) (n : Bytes) (ns : List Bytes) → is_among n seen ≡ true → first_uses seen (n ∷ ns) ≡ first_uses seen ns
unfolding first_uses
first_not seen n ns e = rw (e, first_uses)

first_new : (seen : List Bytes) (n : Bytes) (ns : List Bytes) → is_among n seen ≡ false → first_uses seen (n ∷ ns) ≡ n ∷ first_uses (n ∷ seen) ns
unfolding first_uses
first_new seen n ns e = rw (e, first_uses)

among_cons : (k n : Bytes) (l : List Bytes) → is_among k (n ∷ l) ≡ (same k n || is_among k l)
unfolding is_among
among_cons k n l = refl

-- `seen` and what stands in the block are the same names
uses : (es : List Event) (seen l : List Bytes) → ((k : Bytes) → is_among k seen ≡ is_among k l) → AllPlain l → AllPlain (names_used es)
    → strings_of (paths_bytes l) es ≡ paths_bytes (l ++ first_uses seen (names_used es))
unfolding strings_of names_used
uses [] seen l s h u = ap paths_bytes (sym (append-nil l) ∙ ap (λ (x : List Bytes). l ++ x) (sym (first_none seen)))
uses (opens place name ∷ es) seen l s h u = uses es seen l s h u
uses (closes place ∷ es) seen l s h u = uses es seen l s h u
uses (has p ∷ es) seen l s h u =
    let n : Bytes = p.name in
    let q : Plain n = u n (Memᴰ.head refl) in
    let t : AllPlain (names_used es) = λ k i. u k (Memᴰ.tail i) in
    by_test (is_among n seen)
    (λ e. rw (grown_not n l q h (sym (s n) ∙ e), first_not seen n (names_used es) e) (uses es seen l s h t))
    (λ e. rw (grown n l q h (sym (s n) ∙ e), first_new seen n (names_used es) e)
    (uses es (n ∷ seen) (l ++ n ∷ []) (λ k. among_cons k n seen ∙ rw (s k) (sym (among_last k l n))) (plain_last l n h q) t
    ∙ ap paths_bytes (append_assoc l (n ∷ []) (first_uses (n ∷ seen) (names_used es)))))

-- THE DISTINCT NAMES IN ORDER OF FIRST USE, EACH CLOSED BY NUL
pub interned_once : InternedOnce
unfolding paths_bytes
interned_once es h =
    ap (λ w. w.strings) (writes [] [] es) ∙ uses es [] [] (λ k. refl) (λ n i. absurd (Memᴰ.not-nil i)) h
