-- The laws of memory reservations. Judging neighbours in address order is judging every pair, whatever the entries are: that is
-- how code judges without sorting.
use Rattle.std.specs.Prelude.{◌≡◌, refl, Bool, true, false, ◌||◌, List, [], ◌∷◌, ◌++◌, ℕ, ◌+◌, ◌≤◌, ◌<◌, eqb, ltb, length, take, drop, get_or}
use Rattle.std.proofs.Common.{sym, ◌∙◌, le_of_lt, arith, le-leb, ltb-true, lt-ltb}
use Rattle.std.proofs.Math.Numerals.{add-one}
use Rattle.std.proofs.Math.Seq.{take-suc}
use Rattle.std.proofs.lemmas.Bool.{lt-leb, eqb-false}
use Rattle.rules.specs.Reservations.{Entry, invalid, any_invalid, insert, sorted_from, neighbours, overlapping}
use Rattle.rules.proofs.Laws.Octets.{drop_taken, drop_all}
use Rattle.rules.proofs.Laws.Tests.{by_le, never, or_false, or_right, not_passed, or_comm, or_assoc}
use Rattle.rules.specs.Laws.Reservations.{meets, any_meets}

-- ---- every pair

pub meets_up : (e f : Entry) → e.address ≤ f.address → meets e f ≡ ltb f.address (e.address + e.size)
unfolding meets
meets_up e f h = rw (le-leb e.address f.address h, meets)

pub meets_down : (e f : Entry) → f.address < e.address → meets e f ≡ ltb e.address (f.address + f.size)
unfolding meets
meets_down e f h = rw (lt-leb e.address f.address h, meets)

-- does one of the rest meet one given before it
unfoldable pub pairs_from : List Entry → List Entry → Bool
pairs_from seen [] = false
pairs_from seen (e ∷ es) = any_meets seen e || pairs_from (seen ++ e ∷ []) es

abbrev pub any_pair : List Entry → Bool
any_pair es = pairs_from [] es

-- ---- neighbours in address order

meets_last : (l : List Entry) (e f : Entry) → any_meets (l ++ e ∷ []) f ≡ (any_meets l f || meets e f)
unfolding any_meets
meets_last [] e f = or_comm (meets e f) false
meets_last (d ∷ l) e f = rw (meets_last l e f) (sym (or_assoc (meets d f) (any_meets l f) (meets e f)))

-- in address order, none below n
data Sorted : ℕ → List Entry → Type 0 where
  none : {n : ℕ} → Sorted n []
  more : {n : ℕ} {e : Entry} {es : List Entry} → n ≤ e.address → Sorted e.address es → Sorted n (e ∷ es)

insert_past : (e f : Entry) (fs : List Entry) → f.address ≤ e.address → insert e (f ∷ fs) ≡ f ∷ insert e fs
unfolding insert
insert_past e f fs h = rw (le-leb f.address e.address h, insert)

insert_here : (e f : Entry) (fs : List Entry) → e.address < f.address → insert e (f ∷ fs) ≡ e ∷ f ∷ fs
unfolding insert
insert_here e f fs h = rw (lt-leb f.address e.address h, insert)

insert_nil : (e : Entry) → insert e [] ≡ e ∷ []
unfolding insert
insert_nil e = refl

insert_sorted : {n : ℕ} (e : Entry) (l : List Entry) → n ≤ e.address → Sorted n l → Sorted n (insert e l)
insert_sorted e [] h none = rw (insert_nil e) (more h none)
insert_sorted e (f ∷ fs) h (more k s) = by_le f.address e.address
    (λ le. rw (insert_past e f fs le) (more k (insert_sorted e fs le s)))
    (λ lt. rw (insert_here e f fs lt) (more h (more (le_of_lt lt) s)))

insert_meets : (e : Entry) (l : List Entry) (f : Entry) → any_meets (insert e l) f ≡ (any_meets l f || meets e f)
unfolding any_meets
insert_meets e [] f = rw (insert_nil e) (or_comm (meets e f) false)
insert_meets e (d ∷ ds) f = by_le d.address e.address
    (λ le. rw (insert_past e d ds le, insert_meets e ds f) (sym (or_assoc (meets d f) (any_meets ds f) (meets e f))))
    (λ lt. rw (insert_here e d ds lt) (or_comm (meets e f) (meets d f || any_meets ds f)))

-- what is implied adds nothing
or_less : (a b : Bool) → (b ≡ true → a ≡ true) → (a || b) ≡ a
or_less true b h = refl
or_less false b h = not_passed b (λ e. never true refl (sym (h e)))

-- of entries that all come later, the first is the one to judge
first_later : (e f : Entry) (fs : List Entry) → e.address < f.address → Sorted f.address fs → any_meets (f ∷ fs) e ≡ ltb f.address (e.address + e.size)
unfolding any_meets
first_later e f [] h none = rw (meets_down f e h) (or_less _ false (λ t. never true refl (sym t)))
first_later e f (g ∷ gs) h (more k s) =
    rw (meets_down f e h, first_later e g gs (omega arith) s)
    (or_less _ _ (λ t. let b = ltb-true g.address (e.address + e.size) t in lt-ltb f.address (e.address + e.size) (omega arith)))

-- one more entry, in its place among sorted ones: d runs into e, and so into what stands between them
between : (a b n m : Bool) → (b ≡ true → a ≡ true) → (a || (n || m)) ≡ ((a || n) || (b || m))
between true b n m h = refl
between false true n m h = never true refl (sym (h refl))
between false false n m h = refl

in_front : (a b g n : Bool) → (a ≡ true → b ≡ true) → (b || (g || n)) ≡ ((a || n) || (b || g))
in_front a true g n h = sym (or_right (a || n) true refl)
in_front true false g n h = never true refl (sym (h refl))
in_front false false g n h = or_comm g n

near : (e f : Entry) (fs : List Entry) → neighbours (e ∷ f ∷ fs) ≡ (ltb f.address (e.address + e.size) || neighbours (f ∷ fs))
unfolding neighbours
near e f fs = refl

meets_cons : (d : Entry) (ds : List Entry) (e : Entry) → any_meets (d ∷ ds) e ≡ (meets d e || any_meets ds e)
unfolding any_meets
meets_cons d ds e = refl

insert_second : (e d x : Entry) (xs : List Entry) → d.address ≤ x.address → Sorted x.address xs
    → neighbours (insert e (x ∷ xs)) ≡ (neighbours (x ∷ xs) || any_meets (x ∷ xs) e)
    → neighbours (insert e (d ∷ x ∷ xs)) ≡ (neighbours (d ∷ x ∷ xs) || any_meets (d ∷ x ∷ xs) e)
insert_second e d x xs j s rest = by_le d.address e.address
    (λ le. by_le x.address e.address
    (λ past. rw (insert_past e d (x ∷ xs) le, insert_past e x xs past, near d x (insert e xs), ← insert_past e x xs past, rest, near d x xs, meets_cons d (x ∷ xs) e, meets_up d e le)
    (between _ _ _ _ (λ t. let b = ltb-true e.address (d.address + d.size) t in lt-ltb x.address (d.address + d.size) (omega arith))))
    (λ here. rw (insert_past e d (x ∷ xs) le, insert_here e x xs here, near d e (x ∷ xs), near e x xs, near d x xs, meets_cons d (x ∷ xs) e, meets_up d e le, first_later e x xs here s)
    (in_front _ _ _ _ (λ t. let b = ltb-true x.address (d.address + d.size) t in lt-ltb e.address (d.address + d.size) (omega arith)))))
    (λ lt. rw (insert_here e d (x ∷ xs) lt, near e d (x ∷ xs), first_later e d (x ∷ xs) lt (more j s)) (or_comm _ (neighbours (d ∷ x ∷ xs))))

insert_neighbours : {n : ℕ} (e : Entry) (l : List Entry) → Sorted n l → neighbours (insert e l) ≡ (neighbours l || any_meets l e)
unfolding neighbours any_meets
insert_neighbours e [] none = rw (insert_nil e)
insert_neighbours e (d ∷ []) (more k none) = by_le d.address e.address
    (λ le. rw (insert_past e d [] le, insert_nil e, meets_up d e le))
    (λ lt. rw (insert_here e d [] lt, meets_down d e lt))
insert_neighbours e (d ∷ x ∷ xs) (more k (more j s)) = insert_second e d x xs j s (insert_neighbours e (x ∷ xs) (more j s))

-- the sort, one entry after the other
sorted_pairs : (done seen es : List Entry) → Sorted 0 done → ((f : Entry) → any_meets done f ≡ any_meets seen f)
    → neighbours (sorted_from done es) ≡ (neighbours done || pairs_from seen es)
unfolding sorted_from pairs_from
sorted_pairs done seen [] s same = or_comm false (neighbours done)
sorted_pairs done seen (e ∷ es) s same =
    sorted_pairs (insert e done) (seen ++ e ∷ []) es (insert_sorted e done (omega arith) s) (λ f. insert_meets e done f ∙ rw (same f) (sym (meets_last seen e f)))
    ∙ rw (insert_neighbours e done s, same e) (or_assoc (neighbours done) (any_meets seen e) (pairs_from (seen ++ e ∷ []) es))

pub overlapping_pairs : (es : List Entry) → overlapping es ≡ any_pair es
unfolding overlapping neighbours
overlapping_pairs es = sorted_pairs [] [] es none (λ f. refl)

-- ---- loops over the first n entries

module _ (es : List Entry) (n i : ℕ) (z : Entry) (h : i < n) (k : n ≤ length es) where
  pub invalid_step : any_invalid (drop i (take n es)) ≡ (invalid (get_or es i z) || any_invalid (drop (i + 1) (take n es)))
  unfolding any_invalid
  invalid_step = rw (drop_taken es n i z h k)

  pub meets_step : (e : Entry) → any_meets (drop i (take n es)) e ≡ (meets (get_or es i z) e || any_meets (drop (i + 1) (take n es)) e)
  unfolding any_meets
  meets_step e = rw (drop_taken es n i z h k)

  pub pairs_step : pairs_from (take i es) (drop i (take n es)) ≡ (any_meets (take i es) (get_or es i z) || pairs_from (take (i + 1) es) (drop (i + 1) (take n es)))
  unfolding pairs_from
  pairs_step = rw (drop_taken es n i z h k, add-one, take-suc es i z (omega arith))

module _ (es : List Entry) (n i : ℕ) (h : n ≤ i) where
  pub invalid_end : any_invalid (drop i (take n es)) ≡ false
  unfolding any_invalid
  invalid_end = rw (drop_all es n i h)

  pub meets_end : (e : Entry) → any_meets (drop i (take n es)) e ≡ false
  unfolding any_meets
  meets_end e = rw (drop_all es n i h)

  pub pairs_end : (seen : List Entry) → pairs_from seen (drop i (take n es)) ≡ false
  unfolding pairs_from
  pairs_end seen = rw (drop_all es n i h)

-- ---- what it is to meet

-- a byte of an entry
abbrev pub Holds : Entry → ℕ → Type 0
Holds e b = (e.address ≤ b) × (b < e.address + e.size)

-- two that share a byte meet, in either order
pub share_meets : (e f : Entry) (b : ℕ) → Holds e b → Holds f b → meets e f ≡ true
share_meets e f b h k = by_le e.address f.address
    (λ le. meets_up e f le ∙ lt-ltb f.address (e.address + e.size) (omega arith))
    (λ lt. meets_down e f lt ∙ lt-ltb e.address (f.address + f.size) (omega arith))

has_size : (e : Entry) → invalid e ≡ false → 0 < e.size
unfolding invalid
has_size e h = let z = eqb-false e.size 0 (or_false (eqb e.size 0) _ h).0 in omega arith

-- and two valid ones that meet share one: the first byte of the one that begins later
pub meets_share : (e f : Entry) → invalid e ≡ false → invalid f ≡ false → meets e f ≡ true → (b : ℕ) × Holds e b × Holds f b
meets_share e f v w m =
    let p = has_size e v in
    let q = has_size f w in
    by_le e.address f.address
    (λ le. let t = ltb-true f.address (e.address + e.size) (sym (meets_up e f le) ∙ m) in
    (f.address, (omega arith, omega arith), (omega arith, omega arith)))
    (λ lt. let t = ltb-true e.address (f.address + f.size) (sym (meets_down e f lt) ∙ m) in
    (e.address, (omega arith, omega arith), (omega arith, omega arith)))
