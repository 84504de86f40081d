-- A chunk of names in byte order: how it is searched, and how it grows.
use mathlib.Core.Path.{◌≡◌, refl, sym, ap, ap₂, ◌∙◌, subst}
use mathlib.Core.Logic.{◌⊎◌, inl, inr}
use mathlib.Core.Bool.{Bool, true, false, ◌||◌}
use mathlib.Core.List.{List, [], ◌∷◌}
use Prim.Native.Nat.{ℕ, zero, suc, ◌+◌, ◌-◌, ◌≤◌, ◌<◌}
use native.Mathlib.Omega.{arith}
use lib.Dec.{eqb}
use lib.ListN.{length, get_or, take, drop}
use lib.Seq.{ext_get_or, take-nil}
use borrow.Author.Tests.{eq-eqb, ne_eqb, lt-ltb, le-ltb, eqb-true, eqb-false}
use Rattle.rules.specs.Ceilings.{work_words}
use Rattle.rules.specs.Octets.{Bytes, before, same, zeros, lay}
use Rattle.rules.specs.Events.{Property, string_at}
use Rattle.rules.specs.Outcome.{refuses, passes}
use Rattle.rules.specs.Tree.{named, doubled_props}
use Rattle.rules.proofs.Laws.Tests.{by_test, by_le, never, both_ways, not_passed, or_cases, or_left, or_right}
use Rattle.rules.proofs.Laws.Octets.{same_eq, eq_same}
use Rattle.rules.specs.Laws.Kept.{Only}
use Rattle.rules.proofs.Laws.Kept.{only_zeros, zeros_at}
use Rattle.rules.proofs.Laws.Order.{before_irrefl, before_trans, before_total}
use Rattle.doubled.specs.Sorted.{chunk_start, chunk_room, key_at, key_below, Ordered, Fresh, Finds, Inserted, Framed}
use Rattle.doubled.specs.Passes.{props_at}
use Rattle.doubled.specs.Props.{Full, Twin, Builds, Clear}
use Rattle.std.specs.Prelude.{Result, Ok, Err}
use Rattle.std.specs.Result.{is_ok}
use Rattle.std.specs.Ordering.{is_lt, is_gt, ordering_index, nat_cmp}
use Rattle.std.specs.declared.cmp.Ordering.{Ordering}
use Rattle.std.specs.declared.cmp.Ordering.TheVariants.{Less, Equal, Greater}
use Rattle.std.specs.Cmp.Lexicographic.{slice_cmp}
use Rattle.std.specs.List.Sorted.{IsBinarySearchResult, IsSearchInRange, IsNonDecreasingBy, IsPartitionPoint}
use Rattle.std.proofs.lemmas.List.{length-take-le, get_or-take, get_or-drop}
use Rattle.std.proofs.lemmas.Grind.{get_or_default_zero}
use lib.ListN.{length-drop}
use Rattle.doubled.specs.declared.props.Built as builts
use Rattle.doubled.specs.declared.props.Built.TheVariants as built
use Rattle.doubled.proofs.Doubles.{Next, judged_none, props_fault, props_go}

-- ---- byte order

-- the order of slices is this one, as it is asked of their bytes
order_less : (a b : Bytes) → before a b ≡ is_lt (slice_cmp nat_cmp a b)
unfolding before
order_less [] [] = refl
order_less [] (y ∷ b) = refl
order_less (x ∷ a) [] = refl
order_less (x ∷ a) (y ∷ b) =
    by_le y x
    (λ h. by_test (eqb x y) (λ e. rw (le-ltb x y h, e) (order_less a b)) (λ e. rw (le-ltb x y h, e)))
    (λ h. rw (lt-ltb x y h))

order_greater : (a b : Bytes) → before b a ≡ is_gt (slice_cmp nat_cmp a b)
unfolding before
order_greater [] [] = refl
order_greater [] (y ∷ b) = refl
order_greater (x ∷ a) [] = refl
order_greater (x ∷ a) (y ∷ b) =
    by_le y x
    (λ h. by_test (eqb x y)
    (λ e. let p : y ≡ x = sym (eqb-true x y e) in rw (le-ltb x y h, e, le-ltb y x (omega arith), eq-eqb y x p) (order_greater a b))
    (λ e. let ne = eqb-false x y e in rw (le-ltb x y h, e, lt-ltb y x (omega arith))))
    (λ h. rw (lt-ltb x y h, le-ltb y x (omega arith), ne_eqb y x (λ e. omega arith)))

order_equal : (a b : Bytes) → slice_cmp nat_cmp a b ≡ Equal → a ≡ b
order_equal a b e = before_total a b (order_less a b ∙ ap is_lt e) (order_greater a b ∙ ap is_gt e)

order_behind : (a x : Bytes) → before x a ≡ true → slice_cmp nat_cmp a x ≡ Greater
order_behind a x h = by (slice_cmp nat_cmp a x) (sym (order_greater a x) ∙ h)
  where
    by : (o : Ordering) → is_gt o ≡ true → o ≡ Greater
    by Less e = never true refl (sym e)
    by Equal e = never true refl (sym e)
    by Greater e = refl

-- what comes before another stands no later to x
order_rises : (a b x : Bytes) → before a b ≡ true → ordering_index (slice_cmp nat_cmp a x) ≤ ordering_index (slice_cmp nat_cmp b x)
order_rises a b x h = by (slice_cmp nat_cmp a x) refl
  where
    last : before x b ≡ true → (o : Ordering) → ordering_index o ≤ ordering_index (slice_cmp nat_cmp b x)
    last k Less = omega arith
    last k Equal = rw (order_behind b x k) (omega arith)
    last k Greater = rw (order_behind b x k) (omega arith)

    by : (o : Ordering) → slice_cmp nat_cmp a x ≡ o → ordering_index o ≤ ordering_index (slice_cmp nat_cmp b x)
    by Less e = omega arith
    by Equal e = last (ap (λ (l : Bytes). before l b) (sym (order_equal a x e)) ∙ h) Equal
    by Greater e = last (before_trans x a b (order_greater a x ∙ ap is_gt e) h) Greater

-- ---- searching

-- how the name that a word says stands to x
abbrev pub stands : (strings x : Bytes) → ℕ → Ordering
stands strings x v = slice_cmp nat_cmp (string_at strings v) x

module _ (strings : Bytes) (w : List ℕ) where
  abbrev key : ℕ → Bytes
  key i = key_at strings w i

  key_hit : (n i : ℕ) (x : Bytes) → i < n → same x (key i) ≡ true → key_below strings w n x ≡ true
  unfolding key_below
  key_hit zero i x h e = absurd (let z : ⊥ = omega arith in z)
  key_hit (suc n) i x h e = by_test (eqb i n)
      (λ t. or_left (same x (key n)) _ (ap (λ (j : ℕ). same x (key j)) (sym (eqb-true i n t)) ∙ e))
      (λ t. or_right (same x (key n)) _ (key_hit n i x (let ne = eqb-false i n t in omega arith) e))

  -- one of them, where x is among them
  key_find : (n : ℕ) (x : Bytes) → key_below strings w n x ≡ true → (i : ℕ) × (i < n) × (same x (key i) ≡ true)
  unfolding key_below
  key_find zero x e = never true refl (sym e)
  key_find (suc n) x e = elim (or_cases (same x (key n)) (key_below strings w n x) e) [
    | inl t ↦ (n, omega arith, t)
    | inr t ↦ let r = key_find n x t in (r.0, omega (arith, r.1), r.2)
  ]

  module _ (n : ℕ) (x : Bytes) (room : chunk_start + n ≤ length w) (o : Ordered strings w n) where
    abbrev words : List ℕ
    words = take (chunk_start + n - chunk_start) (drop chunk_start w)

    count : length words ≡ n
    count = length-take-le (chunk_start + n - chunk_start) (drop chunk_start w) (omega (arith, length-drop chunk_start w)) ∙ omega arith

    said : (i d : ℕ) → i < n → string_at strings (get_or words i d) ≡ key i
    said i d h = ap (string_at strings) (get_or_default_zero words i d (omega (arith, count)) ∙ get_or-take (chunk_start + n - chunk_start) (drop chunk_start w) i 0 (omega arith) ∙ get_or-drop chunk_start w i 0)

    stood : (i d : ℕ) → i < n → stands strings x (get_or words i d) ≡ slice_cmp nat_cmp (key i) x
    stood i d h = ap (λ (l : Bytes). slice_cmp nat_cmp l x) (said i d h)

    rising : IsNonDecreasingBy (λ (v : ℕ). ordering_index (stands strings x v)) words
    rising i j d h k =
        let m : j < n = omega (arith, count) in
        rw (stood i d (omega arith), stood j d m)
        (by_test (eqb i j)
        (λ e. let p : i ≡ j = eqb-true i j e in rw p (omega arith))
        (λ e. order_rises (key i) (key j) x (o i j (let ne = eqb-false i j e in omega arith) m)))

    pub finds_by : (r : Result ℕ ℕ) → IsSearchInRange r (length words) → IsBinarySearchResult (stands strings x) words r → Finds strings w n x r
    finds_by (Ok k) b h =
        let m : k < n = omega (arith, count) in
        key_hit n k x m (eq_same x (key k) (sym (order_equal (key k) x (sym (stood k 0 m) ∙ h 0))))
    finds_by (Err k) b h =
        record {
          missing = not_passed (key_below strings w n x) (λ t. let f = key_find n x t in absent f.0 f.1 (same_eq x (key f.0) f.2));
          few = omega (arith, count);
          lower = lower;
          upper = upper;
        }
      where
        point : IsPartitionPoint (λ (v : ℕ). stands strings x v ≡ Less) (λ (v : ℕ). stands strings x v ≡ Greater) words k
        point = h rising

        lower : (i : ℕ) → i < k → before (key i) x ≡ true
        lower i q =
            let m : i < n = omega (arith, count) in
            order_less (key i) x ∙ ap is_lt (sym (stood i 0 m) ∙ point.0 i 0 (omega arith) q)

        upper : (i : ℕ) → k ≤ i → i < n → before x (key i) ≡ true
        upper i q m = order_greater (key i) x ∙ ap is_gt (sym (stood i 0 m) ∙ point.1 i 0 q (omega (arith, count)))

        absent : (i : ℕ) → i < n → x ≡ key i → ⊥
        absent i m e = by_le k i
            (λ q. before_irrefl x (ap (before x) e ∙ upper i q m))
            (λ q. before_irrefl x (ap (λ (l : Bytes). before l x) e ∙ lower i q))

-- ---- a chunk that grows

-- the n names are in order, and are those of the properties seen
pub record Chunk (strings : Bytes) (w : List ℕ) (n : ℕ) (seen : List Property) : Type 0 where
  pub ordered : Ordered strings w n
  pub holds : (x : Bytes) → named x seen ≡ key_below strings w n x

pub chunk_start_lem : (strings : Bytes) (w : List ℕ) → Chunk strings w 0 []
unfolding named key_below
chunk_start_lem strings w = record { ordered = λ i j h k. absurd (omega arith); holds = λ x. refl }

module _ (strings : Bytes) (w : List ℕ) (n : ℕ) (k offset : ℕ) (u : List ℕ) (f : Fresh strings w n (string_at strings offset) k) (e : Inserted w n k offset u) where
  abbrev x : Bytes
  x = string_at strings offset

  low : (i : ℕ) → i < k → key_at strings u i ≡ key_at strings w i
  low i h = ap (string_at strings) (e.below i h)

  middle : key_at strings u k ≡ x
  middle = ap (string_at strings) e.here

  high : (i : ℕ) → k ≤ i → i < n → key_at strings u (i + 1) ≡ key_at strings w i
  high i h l = ap (string_at strings) (e.above i h l)

  -- the same with the index at hand
  high_at : (j : ℕ) → k < j → j < n + 1 → key_at strings u j ≡ key_at strings w (j - 1)
  high_at j h l = let q : j - 1 + 1 ≡ j = omega arith in ap (key_at strings u) (sym q) ∙ high (j - 1) (omega arith) (omega arith)

  -- where an index stands to k
  by_order : {X : Type 0} (i : ℕ) → (i < k → X) → (i ≡ k → X) → (k < i → X) → X
  by_order i a b c = by_le k i (λ h. by_test (eqb i k) (λ t. b (eqb-true i k t)) (λ t. let ne = eqb-false i k t in c (omega arith))) (λ h. a h)

  ordered_more : Ordered strings w n → Ordered strings u (n + 1)
  ordered_more o i j h l = by_order j
      (λ p. both (low i (omega arith)) (low j p) (o i j h (omega (arith, f.few))))
      (λ p. both (low i (omega arith)) (ap (key_at strings u) p ∙ middle) (f.lower i (omega arith)))
      (λ p. by_order i
      (λ q. both (low i q) (high_at j p l) (o i (j - 1) (omega arith) (omega arith)))
      (λ q. both (ap (key_at strings u) q ∙ middle) (high_at j p l) (f.upper (j - 1) (omega arith) (omega arith)))
      (λ q. both (high_at i q (omega arith)) (high_at j p l) (o (i - 1) (j - 1) (omega arith) (omega arith))))
    where
      both : {a b c d : Bytes} → a ≡ c → b ≡ d → before c d ≡ true → before a b ≡ true
      both p q r = ap₂ before p q ∙ r

  -- y is among them afterwards exactly if it is the new one or was there
  after_from : (y : Bytes) → key_below strings u (n + 1) y ≡ true → (same y x || key_below strings w n y) ≡ true
  after_from y t =
      let r = key_find strings u (n + 1) y t in
      let i : ℕ = r.0 in
      let s : same y (key_at strings u i) ≡ true = r.2 in
      by_order i
      (λ p. or_right (same y x) _ (key_hit strings w n i y (omega (arith, f.few)) (ap (same y) (sym (low i p)) ∙ s)))
      (λ p. or_left (same y x) _ (ap (same y) (sym (ap (key_at strings u) p ∙ middle)) ∙ s))
      (λ p. or_right (same y x) _ (key_hit strings w n (i - 1) y (omega (arith, r.1)) (ap (same y) (sym (high_at i p r.1)) ∙ s)))

  after_new : (y : Bytes) → same y x ≡ true → key_below strings u (n + 1) y ≡ true
  after_new y t = key_hit strings u (n + 1) k y (omega (arith, f.few)) (ap (same y) middle ∙ t)

  after_old : (y : Bytes) → key_below strings w n y ≡ true → key_below strings u (n + 1) y ≡ true
  after_old y t =
      let r = key_find strings w n y t in
      let i : ℕ = r.0 in
      by_le k i
      (λ p. key_hit strings u (n + 1) (i + 1) y (omega (arith, r.1)) (ap (same y) (high i p r.1) ∙ r.2))
      (λ p. key_hit strings u (n + 1) i y (omega (arith, r.1)) (ap (same y) (low i p) ∙ r.2))

  pub chunk_more : (seen : List Property) (q : Property) → q.name ≡ x → Chunk strings w n seen → Chunk strings u (n + 1) (q ∷ seen)
  unfolding named
  chunk_more seen q m c =
      record {
        ordered = ordered_more c.ordered;
        holds = λ y. ap₂ (λ (a b : Bool). a || b) (ap (same y) m) (c.holds y)
            ∙ both_ways (same y x || key_below strings w n y) (key_below strings u (n + 1) y)
            (λ t. elim (or_cases (same y x) (key_below strings w n y) t) [ inl a ↦ after_new y a | inr a ↦ after_old y a ])
            (after_from y);
      }

-- ---- building

-- n of the properties are in the chunk, and what is left is judged with them
pub record Filled (s strings : Bytes) (from left n here : ℕ) (w : List ℕ) : Type 0 where
  pub seen : ℕ → List Property
  pub chunk : (p : ℕ) → Chunk strings w n (seen p)
  pub judged : (p : ℕ) → doubled_props [] (take left (props_at s strings p from)) ≡ doubled_props (seen p) (take (left - n) (props_at s strings p here))

pub filled_start : (s strings : Bytes) (from left : ℕ) (w : List ℕ) → Filled s strings from left 0 from w
filled_start s strings from left w =
    let e : left ≡ left - 0 = omega arith in
    record {
      seen = λ p. [];
      chunk = λ p. chunk_start_lem strings w;
      judged = λ p. ap (λ (k : ℕ). doubled_props [] (take k (props_at s strings p from))) e;
    }

module _ (s strings : Bytes) (from left n here : ℕ) (w : List ℕ) (f : Filled s strings from left n here w) where
  -- nothing is left
  pub filled_done : left ≤ n → (p : ℕ) → doubled_props [] (take left (props_at s strings p from)) ≡ passes
  filled_done h p =
      let e : left - n ≡ 0 = omega arith in
      f.judged p ∙ ap (λ (k : ℕ). doubled_props (f.seen p) (take k (props_at s strings p here))) e ∙ judged_none (f.seen p)

  pub filled_none : ((p : ℕ) → props_at s strings p here ≡ []) → (p : ℕ) → doubled_props [] (take left (props_at s strings p from)) ≡ passes
  filled_none h p =
      f.judged p
      ∙ ap (doubled_props (f.seen p)) (ap (take (left - n)) (h p) ∙ take-nil (left - n))
      ∙ judged_none (f.seen p)

  module _ (l : n < left) (at name next : ℕ) (k : Next s strings here at name next) where
    abbrev q : ℕ → Property
    q p = record { place = p + at; name = string_at strings name; value = k.value }

    more : (p : ℕ) → take (left - n) (props_at s strings p here) ≡ q p ∷ take (left - (n + 1)) (props_at s strings p next)
    more p = let e : left - n ≡ suc (left - (n + 1)) = omega arith in ap₂ (λ (i : ℕ) (ps : List Property). take i ps) e (k.list p)

    pub filled_twice : key_below strings w n (string_at strings name) ≡ true → (p : ℕ) → doubled_props [] (take left (props_at s strings p from)) ≡ refuses 10 (p + at)
    filled_twice t p =
        f.judged p
        ∙ ap (doubled_props (f.seen p)) (more p)
        ∙ props_fault (f.seen p) (q p) _ ((f.chunk p).holds (string_at strings name) ∙ t)

    pub filled_more : (i : ℕ) (u : List ℕ) → Fresh strings w n (string_at strings name) i → Inserted w n i name u → Filled s strings from left (n + 1) next u
    filled_more i u g e =
        record {
          seen = λ p. q p ∷ f.seen p;
          chunk = λ p. chunk_more strings w n i name u g e (f.seen p) (q p) refl (f.chunk p);
          judged = λ p. f.judged p ∙ ap (doubled_props (f.seen p)) (more p) ∙ props_go (f.seen p) (q p) _ ((f.chunk p).holds (string_at strings name) ∙ g.missing);
        }

-- a word more leaves what is outside the first m as it was
pub framed_more : (w v u : List ℕ) (m n at offset : ℕ) → n < m → Framed w m v → Inserted v n at offset u → Framed w m u
framed_more w v u m n at offset h f e = record { outside = λ i k. e.outside i (beyond i k) ∙ f.outside i k }
  where
    beyond : (i : ℕ) → (i < chunk_start) ⊎ (chunk_start + m ≤ i) → (i < chunk_start) ⊎ (chunk_start + n < i)
    beyond i (inl k) = inl k
    beyond i (inr k) = inr (omega arith)

pub framed_same : (w : List ℕ) (n : ℕ) → Framed w n w
framed_same w n = record { outside = λ i k. refl }

pub framed_then : (w v u : List ℕ) (m n : ℕ) → m ≤ n → Framed w n v → Framed v m u → Framed w n u
framed_then w v u m n h f g = record { outside = λ i k. g.outside i (beyond i k) ∙ f.outside i k }
  where
    beyond : (i : ℕ) → (i < chunk_start) ⊎ (chunk_start + n ≤ i) → (i < chunk_start) ⊎ (chunk_start + m ≤ i)
    beyond i (inl k) = inl k
    beyond i (inr k) = inr (omega arith)

-- ---- what the functions answer

pub finds_taken : (strings : Bytes) (w : List ℕ) (n : ℕ) (x y : Bytes) (r : Result ℕ ℕ) (k : ℕ) → x ≡ y → r ≡ Ok k → Finds strings w n x r → key_below strings w n y ≡ true
finds_taken strings w n x y r k e f h = ap (key_below strings w n) (sym e) ∙ subst (Finds strings w n x) f h

pub finds_free : (strings : Bytes) (w : List ℕ) (n : ℕ) (x y : Bytes) (r : Result ℕ ℕ) (k : ℕ) → x ≡ y → r ≡ Err k → Finds strings w n x r → Fresh strings w n y k
finds_free strings w n x y r k e f h = subst (λ (z : Bytes). Fresh strings w n z k) e (subst (Finds strings w n x) f h)

-- the same by its test alone
pub finds_some : (strings : Bytes) (w : List ℕ) (n : ℕ) (x y : Bytes) (r : Result ℕ ℕ) → x ≡ y → is_ok r ≡ true → Finds strings w n x r → key_below strings w n y ≡ true
finds_some strings w n x y (Ok k) e f h = ap (key_below strings w n) (sym e) ∙ h
finds_some strings w n x y (Err k) e f h = never true refl (sym f)

pub finds_none : (strings : Bytes) (w : List ℕ) (n : ℕ) (x y : Bytes) (r : Result ℕ ℕ) → x ≡ y → is_ok r ≡ false → Finds strings w n x r → key_below strings w n y ≡ false
finds_none strings w n x y (Ok k) e f h = never true refl f
finds_none strings w n x y (Err k) e f h = ap (key_below strings w n) (sym e) ∙ h.missing

pub full_at : (s strings : Bytes) (from left n here : ℕ) (w : List ℕ) → n ≡ chunk_room → n ≤ left → here ≤ length s → Filled s strings from left n here w → Full s strings from left here w
full_at s strings from left n here w e l h f = go (subst (λ (k : ℕ). Filled s strings from left k here w) e f)
  where
    go : Filled s strings from left chunk_room here w → Full s strings from left here w
    go g =
        record {
          within = h;
          few = omega arith;
          ordered = (g.chunk 0).ordered;
          seen = g.seen;
          holds = λ p. (g.chunk p).holds;
          judged = g.judged;
        }

module _ (s strings : Bytes) (from left : ℕ) (w : List ℕ) (r : builts.Built) (b : Builds s strings from left w r) where
  pub builds_twice : (at : ℕ) → r ≡ built.Twice at → Twin s strings from left at
  builds_twice at e = subst (Builds s strings from left w) e b

  pub builds_done : r ≡ built.Done → (p : ℕ) → doubled_props [] (take left (props_at s strings p from)) ≡ passes
  builds_done e = subst (Builds s strings from left w) e b

  pub builds_full : (next : ℕ) → r ≡ built.Full next → Full s strings from left next w
  builds_full next e = subst (Builds s strings from left w) e b

-- zeros that were used and cleared are as before
pub cleared_back : (w v u : List ℕ) (n : ℕ) → n ≤ chunk_room → Clear w → length v ≡ length w → Framed w n v → u ≡ lay v chunk_start (zeros n) → u ≡ w
unfolding work_words
cleared_back w v u n m c l f e =
    let o : Only chunk_start (chunk_start + n) v u = rw e (only_zeros v chunk_start n (omega arith) (omega arith)) in
    ext_get_or 0 u w (o.size ∙ l) (λ i h. by_le chunk_start i
    (λ p. by_le (chunk_start + n) i
    (λ q. o.behind i q ∙ f.outside i (inr q))
    (λ q. let k : ℕ = i - chunk_start in
    let x : i ≡ chunk_start + k = omega arith in
    ap (λ (j : ℕ). get_or u j 0) x
    ∙ ap (λ (z : List ℕ). get_or z (chunk_start + k) 0) e
    ∙ zeros_at v chunk_start n k (omega (arith, c.room)) (omega arith)
    ∙ sym (ap (λ (j : ℕ). get_or w j 0) x ∙ c.zeros k (omega arith))))
    (λ p. o.before i p ∙ f.outside i (inl p)))
