-- The names met so far: the table of them, and the search over the tokens before.
use mathlib.Core.Path.{◌≡◌, refl, sym, ap, ◌∙◌}
use mathlib.Core.Logic.{inl, inr}
use mathlib.Core.Bool.{Bool, true, false, ◌||◌}
use mathlib.Core.List.{List, [], ◌∷◌, ◌++◌, append-nil, reverse, reverse-cons}
use Prim.Native.Nat.{ℕ, zero, suc, ◌+◌, ◌-◌, ◌≤◌, ◌<◌}
use native.Mathlib.Omega.{arith}
use native.Mathlib.Numerals.{add-one}
use lib.Dec.{eqb, ltb}
use lib.ListN.{length, get_or, take, drop, length-drop, drop_of_length-le}
use lib.Seq.{length-take-le, take-suc}
use borrow.Author.Tests.{lt-ltb, le-ltb, ltb-true, ltb-false, eqb-true}
use Rattle.rules.specs.Ceilings.{node_ceiling, node_words, work_words}
use Rattle.rules.specs.Space.{table_words, marks_at, list_at, stack_at}
use Rattle.std.specs.List.{list_any, zip}
use Rattle.std.proofs.lemmas.List.{get_or-drop, take_all, length-reverse}
use Rattle.std.proofs.lemmas.List.Folds.{list_any-append}
use Rattle.rules.specs.Octets.{part, Bytes, nul_in, lay, same}
use Rattle.rules.specs.Events.{string_at}
use Rattle.rules.specs.declared.Kind.{Kind}
use Rattle.rules.specs.declared.Kind.TheVariants.{Begin, EndNode, Prop, Nop}
use Rattle.rules.proofs.Laws.Tests.{by_test, by_le, never, or_cases, or_left, or_right, not_passed, or_nothing, or_comm, or_assoc}
use Rattle.rules.proofs.Laws.Octets.{same_eq, eq_same, nul_le, length_lay, lay_one_same, lay_one_other}
use Rattle.rules.proofs.Laws.Kept.{list_behind, stack_behind, only_none, only_one}
use Rattle.std.specs.Prelude.{Option, Some, None, is_some}
use Rattle.guest.specs.declared.measured.Sum.{Sum}
use Rattle.guest.specs.Walked.{marked, copies, Above}
use Rattle.guest.specs.Measured.{is_in, prop_of, name_at, is_named, less_one, in_table, table_room, Tabled, growth_of, enter_count, enter_words, Entered}

-- ---- one of names

pub in_append : (x : Bytes) (a b : List Bytes) → is_in x (a ++ b) ≡ (is_in x a || is_in x b)
unfolding is_in
in_append x [] b = refl
in_append x (y ∷ a) b = by_test (same x y) (λ e. rw e) (λ e. rw e (in_append x a b))

in_one : (x y : Bytes) → is_in x (y ∷ []) ≡ same x y
unfolding is_in
in_one x y = or_nothing (same x y)

pub in_snoc : (x : Bytes) (a : List Bytes) (y : Bytes) → is_in x (a ++ y ∷ []) ≡ (is_in x a || same x y)
in_snoc x a y = in_append x a (y ∷ []) ∙ ap (λ (t : Bool). is_in x a || t) (in_one x y)

-- what is there stays there
in_more : (x : Bytes) (a : List Bytes) (y : Bytes) → is_in x a ≡ true → is_in x (a ++ y ∷ []) ≡ true
in_more x a y h = in_snoc x a y ∙ or_left (is_in x a) (same x y) h

-- ---- the search over the tokens before

pub search_none : (x : Bytes) (n : ℕ) → is_in x (take n []) ≡ false
unfolding is_in
search_none x zero = refl
search_none x (suc n) = refl

pub search_done : (x : Bytes) (n : ℕ) (xs : List Bytes) → n ≤ 0 → is_in x (take n xs) ≡ false
unfolding is_in
search_done x zero xs h = refl
search_done x (suc n) xs h = absurd (omega arith)

pub search_hit : (strings : Bytes) (p : Option ℕ) (x : Bytes) (n : ℕ) (xs : List Bytes) → 0 < n → is_named strings p x ≡ true
    → is_in x (take n (name_at strings p ++ xs)) ≡ true
unfolding is_in
search_hit strings (Some o) x zero xs h e = absurd (omega arith)
search_hit strings (Some o) x (suc n) xs h e = rw e
search_hit strings None x n xs h e = never false e refl

pub search_miss : (strings : Bytes) (p : Option ℕ) (x : Bytes) (n : ℕ) (xs : List Bytes) → 0 < n → is_named strings p x ≡ false
    → is_in x (take n (name_at strings p ++ xs)) ≡ is_in x (take (less_one p n) xs)
unfolding is_in
search_miss strings (Some o) x zero xs h e = absurd (omega arith)
search_miss strings (Some o) x (suc n) xs h e = let z : suc n - 1 ≡ n = omega arith in rw (e, z)
search_miss strings None x n xs h e = refl

-- how many are left behind a token
pub less_some : (p : Option ℕ) (left r : ℕ) → is_some p ≡ true → r ≡ left - 1 → r ≡ less_one p left
less_some (Some o) left r e f = f
less_some None left r e f = absurd (cc)

pub less_none : (p : Option ℕ) (left r : ℕ) → is_some p ≡ false → r ≡ left → r ≡ less_one p left
less_none (Some o) left r e f = absurd (cc)
less_none None left r e f = f

-- ---- the table

pub table_step : (strings : Bytes) (ws : List ℕ) (n m : ℕ) (x : Bytes) → n ≡ m + 1
    → in_table strings ws n x ≡ (same x (string_at strings (get_or ws (stack_at + m) 0)) || in_table strings ws m x)
unfolding in_table
table_step strings ws n m x e = ap (λ (k : ℕ). in_table strings ws k x) (e ∙ add-one m)

-- a word behind those in use
table_lay : (strings : Bytes) (ws : List ℕ) (at o n : ℕ) (x : Bytes) → stack_at + n ≤ at → in_table strings (lay ws at (o ∷ [])) n x ≡ in_table strings ws n x
unfolding in_table
table_lay strings ws at o zero x h = refl
table_lay strings ws at o (suc n) x h =
    rw (lay_one_other ws at o 0 (stack_at + n) (λ e. omega arith), table_lay strings ws at o n x (omega arith))

pub space : stack_at + table_room ≡ work_words
unfolding table_room stack_at list_at marks_at table_words node_ceiling node_words work_words
space = omega arith

module _ (strings : Bytes) (ws : List ℕ) (n : ℕ) (done : List Bytes) (t : Tabled strings ws n done) where
  -- a name that was met before
  pub tabled_known : (x : Bytes) → is_in x done ≡ true → Tabled strings ws n (done ++ x ∷ [])
  tabled_known x h = record {
    few = t.few;
    room = t.room;
    met = λ y e. in_more y done x (t.met y e);
    all = λ l y e. elim (or_cases (is_in y done) (same y x) (sym (in_snoc y done x) ∙ e)) [
      | inl f ↦ t.all l y f
      | inr f ↦ t.all l y (ap (λ (z : Bytes). is_in z done) (same_eq y x f) ∙ h)
    ];
  }

  -- a new one, where there is no more room
  tabled_full : (x : Bytes) → table_room ≤ n → Tabled strings ws n (done ++ x ∷ [])
  tabled_full x h = record { few = t.few; room = t.room; met = λ y e. in_more y done x (t.met y e); all = λ l y e. absurd (omega arith) }

  -- a new one, where there is
  module _ (x : Bytes) (o : ℕ) (q : string_at strings o ≡ x) (h : n < table_room) where
    inside : stack_at + n < length ws
    inside = omega (arith, t.room, space)

    now_in : (y : Bytes) → in_table strings (lay ws (stack_at + n) (o ∷ [])) (n + 1) y ≡ (same y x || in_table strings ws n y)
    now_in y =
        table_step strings (lay ws (stack_at + n) (o ∷ [])) (n + 1) n y refl
        ∙ rw (lay_one_same ws (stack_at + n) o 0 inside, q, table_lay strings ws (stack_at + n) o n y (omega arith))

    tabled_room : Tabled strings (lay ws (stack_at + n) (o ∷ [])) (n + 1) (done ++ x ∷ [])
    tabled_room = record {
      few = omega arith;
      room = rw (length_lay ws (stack_at + n) (o ∷ [])) t.room;
      met = λ y e. elim (or_cases (same y x) (in_table strings ws n y) (sym (now_in y) ∙ e)) [
        | inl f ↦ in_snoc y done x ∙ or_right (is_in y done) (same y x) f
        | inr f ↦ in_more y done x (t.met y f)
      ];
      all = λ l y e. now_in y ∙ elim (or_cases (is_in y done) (same y x) (sym (in_snoc y done x) ∙ e)) [
        | inl f ↦ or_right (same y x) (in_table strings ws n y) (t.all h y f)
        | inr f ↦ or_left (same y x) (in_table strings ws n y) f
      ];
    }

  -- entered, one way or the other
  pub tabled_new : (x : Bytes) (o : ℕ) → string_at strings o ≡ x → Tabled strings (enter_words ws n o) (enter_count n) (done ++ x ∷ [])
  tabled_new x o q = by_test (ltb n table_room)
      (λ e. rw e (tabled_room x o q (ltb-true n table_room e)))
      (λ e. rw e (tabled_full x (ltb-false n table_room e)))

-- ---- what is kept

pub kept_enter : (ws : List ℕ) (n o : ℕ) → Above ws (enter_words ws n o)
kept_enter ws n o = by_test (ltb n table_room)
    (λ e. rw e (only_one ws (stack_at + n) o (omega arith) (omega (arith, space, ltb-true n table_room e))))
    (λ e. rw e (only_none ws))

-- the marks stand in front of the stack
mark_kept : (ws vs : List ℕ) → Above ws vs → (i : ℕ) → marked vs i ≡ marked ws i
unfolding marked
mark_kept ws vs k i = by_test (ltb i node_ceiling)
    (λ e. rw (e, k.before (marks_at + i) (omega (arith, ltb-true i node_ceiling e, list_behind, stack_behind))))
    (λ e. rw e)

pub kept_marked : (ws vs : List ℕ) → Above ws vs → marked vs ≡ marked ws
kept_marked ws vs k = λ i j. mark_kept ws vs k j i

-- ---- what a name adds

pub length_string : (strings : Bytes) (o : ℕ) → length (string_at strings o) ≡ nul_in (drop o strings)
unfolding string_at
length_string strings o = length-take-le (nul_in (drop o strings)) (drop o strings) (nul_le (drop o strings))

pub growth_known : (x : Bytes) (done : List Bytes) → is_in x done ≡ true → growth_of done (x ∷ []) ≡ 0
unfolding growth_of
growth_known x done e = rw e

pub growth_new : (x : Bytes) (done : List Bytes) → is_in x done ≡ false → growth_of done (x ∷ []) ≡ length x + 1
unfolding growth_of
growth_new x done e = rw e (omega arith)

string_past : (strings : Bytes) (o : ℕ) → length strings ≤ o → string_at strings (length strings) ≡ string_at strings o
unfolding string_at
string_past strings o h = rw (drop_of_length-le strings {i = o} h, drop_of_length-le strings {i = length strings} (omega arith))

-- the offset, or the block's length where it lies past the end
pub string_within : (strings : Bytes) (o m : ℕ) → (o < length strings → m ≡ o) → (length strings ≤ o → m ≡ length strings) → string_at strings m ≡ string_at strings o
string_within strings o m f g = by_le (length strings) o
    (λ h. ap (string_at strings) (g h) ∙ string_past strings o h)
    (λ h. ap (string_at strings) (f h))

-- ---- the search in the table

-- the words of the table, taken out of the work space
words_any : (strings : Bytes) (ws : List ℕ) (n : ℕ) (x : Bytes) → stack_at + n ≤ length ws
    → list_any (λ (o : ℕ). same x (string_at strings o)) (part ws stack_at n) ≡ in_table strings ws n x
unfolding in_table
words_any strings ws zero x h = refl
words_any strings ws (suc n) x h =
    let e : get_or (drop stack_at ws) n 0 ≡ get_or ws (stack_at + n) 0 = get_or-drop stack_at ws n 0 in
    ap (list_any (λ (o : ℕ). same x (string_at strings o))) (take-suc (drop stack_at ws) n 0 (omega (arith, length-drop stack_at ws)))
    ∙ list_any-append (λ (o : ℕ). same x (string_at strings o)) (take n (drop stack_at ws)) (get_or (drop stack_at ws) n 0 ∷ [])
    ∙ rw (e, words_any strings ws n x (omega arith), or_nothing) (or_comm (in_table strings ws n x) (same x (string_at strings (get_or ws (stack_at + n) 0))))

pub table_any : (strings : Bytes) (ws : List ℕ) (m n : ℕ) (x : Bytes) (at : ℕ) → m ≡ n → at ≡ stack_at → stack_at + n ≤ length ws
    → list_any (λ (o : ℕ). same x (string_at strings o)) (part ws at m) ≡ in_table strings ws n x
table_any strings ws m n x at e f h = rw (e, f) (words_any strings ws n x h)

-- a word of the table that is this offset is an offset of its name
words_hit : (strings : Bytes) (o : ℕ) (ws : List ℕ) → list_any (λ (w : ℕ). eqb w o) ws ≡ true
    → list_any (λ (w : ℕ). same (string_at strings o) (string_at strings w)) ws ≡ true
words_hit strings o [] h = h
words_hit strings o (w ∷ ws) h = elim (or_cases (eqb w o) (list_any (λ (v : ℕ). eqb v o) ws) h) [
  | inl e ↦ or_left _ _ (eq_same _ _ (ap (string_at strings) (sym (eqb-true w o e))))
  | inr e ↦ or_right _ _ (words_hit strings o ws e)
]

pub table_hit : (strings : Bytes) (ws : List ℕ) (m n o at : ℕ) → m ≡ n → at ≡ stack_at → stack_at + n ≤ length ws
    → list_any (λ (w : ℕ). eqb w o) (part ws at m) ≡ true → true ≡ in_table strings ws n (string_at strings o)
table_hit strings ws m n o at e f h g = sym (words_hit strings o (part ws at m) g) ∙ table_any strings ws m n (string_at strings o) at e f h

-- a search from both ends at once

or_pairs : (a b c d : Bool) → ((a || b) || (c || d)) ≡ ((a || c) || (b || d))
or_pairs true b c d = refl
or_pairs false true c d = sym (or_right c true refl)
or_pairs false false c d = refl

or_twice : (a b : Bool) → ((a || a) || b) ≡ (a || b)
or_twice true b = refl
or_twice false b = refl

module _ (f : ℕ → Bool) where
  pairs_any : (xs ys : List ℕ) → length xs ≡ length ys → list_any (λ (p : ℕ × ℕ). f p.0 || f p.1) (zip xs ys) ≡ (list_any f xs || list_any f ys)
  pairs_any [] [] h = refl
  pairs_any [] (y ∷ ys) h = absurd (omega arith)
  pairs_any (x ∷ xs) [] h = absurd (omega arith)
  pairs_any (x ∷ xs) (y ∷ ys) h =
      ap (λ (t : Bool). (f x || f y) || t) (pairs_any xs ys (omega arith)) ∙ or_pairs (f x) (f y) (list_any f xs) (list_any f ys)

  back_any : (xs : List ℕ) → list_any f (reverse xs) ≡ list_any f xs
  back_any [] = refl
  back_any (x ∷ xs) =
      ap (list_any f) (reverse-cons x xs) ∙ list_any-append f (reverse xs) (x ∷ [])
      ∙ rw (back_any xs, or_nothing) (or_comm (list_any f xs) (f x))

  -- a part from the front and a part to the end that leave nothing out
  parts_any : (xs : List ℕ) (a b : ℕ) → b ≤ a → (list_any f (take a xs) || list_any f (drop b xs)) ≡ list_any f xs
  parts_any [] zero zero h = refl
  parts_any [] zero (suc b) h = refl
  parts_any [] (suc a) zero h = refl
  parts_any [] (suc a) (suc b) h = refl
  parts_any (x ∷ xs) zero zero h = refl
  parts_any (x ∷ xs) zero (suc b) h = absurd (omega arith)
  parts_any (x ∷ xs) (suc a) zero h =
      or_pairs (f x) (list_any f (take a xs)) (f x) (list_any f xs)
      ∙ or_twice (f x) (list_any f (take a xs) || list_any f xs)
      ∙ ap (λ (t : Bool). f x || t) (parts_any xs a 0 (omega arith))
  parts_any (x ∷ xs) (suc a) (suc b) h =
      or_assoc (f x) (list_any f (take a xs)) (list_any f (drop b xs)) ∙ ap (λ (t : Bool). f x || t) (parts_any xs a b (omega arith))

  ends_any : (xs : List ℕ) (k h m : ℕ) → k + h ≡ length xs → h ≤ k → m ≡ k
      → list_any (λ (p : ℕ × ℕ). f p.0 || f p.1) (zip (take k xs) (reverse (take m (drop h xs)))) ≡ list_any f xs
  ends_any xs k h m e g q =
      let long = length-drop h xs in
      let all : take m (drop h xs) ≡ drop h xs = take_all m (drop h xs) (omega (arith, long)) in
      pairs_any (take k xs) (reverse (take m (drop h xs))) (omega (arith, length-take-le k xs (omega arith), length-reverse (take m (drop h xs)), ap length all, long))
      ∙ ap (λ (t : Bool). list_any f (take k xs) || t) (back_any (take m (drop h xs)) ∙ ap (list_any f) all)
      ∙ parts_any xs k h g

pub table_ends : (strings : Bytes) (ws : List ℕ) (m n : ℕ) (x : Bytes) (at k h j : ℕ) → m ≡ n → at ≡ stack_at → stack_at + n ≤ length ws
    → k + h ≡ n → h ≤ k → j ≡ k
    → list_any (λ (p : ℕ × ℕ). same x (string_at strings p.0) || same x (string_at strings p.1)) (zip (take k (part ws at m)) (reverse (take j (drop h (part ws at m))))) ≡ in_table strings ws n x
table_ends strings ws m n x at k h j e f l p g q =
    let long : length (part ws at m) ≡ m = length-take-le m (drop at ws) (omega (arith, length-drop at ws)) in
    ends_any (λ (o : ℕ). same x (string_at strings o)) (part ws at m) k h j (omega (arith, long)) g q ∙ table_any strings ws m n x at e f l

-- ---- entering

pub enter_room : (ws vs : List ℕ) (n o : ℕ) → n < table_room → vs ≡ lay ws (stack_at + n) (o ∷ []) → (n + 1 ≡ enter_count n) × (vs ≡ enter_words ws n o)
enter_room ws vs n o h e = (rw (lt-ltb n table_room h), rw (lt-ltb n table_room h) e)

pub enter_full : (ws : List ℕ) (n o : ℕ) → table_room ≤ n → (n ≡ enter_count n) × (ws ≡ enter_words ws n o)
enter_full ws n o h = (rw (le-ltb n table_room h), rw (le-ltb n table_room h))

-- ---- known or not

module _ (strings : Bytes) (ws : List ℕ) (n : ℕ) (done : List Bytes) (t : Tabled strings ws n done) (x : Bytes) where
  pub known_not : (r : Bool) → r ≡ in_table strings ws n x → r ≡ false → n < table_room → false ≡ is_in x done
  known_not r e f h = sym (not_passed (is_in x done) (λ g. never (in_table strings ws n x) (t.all h x g) (sym e ∙ f)))

-- ---- the sums behind a name

module _ (t : Bytes) (ws : List ℕ) (done : List Bytes) (sum : Sum) (tb : Tabled t ws sum.names done) where
  pub entered_none : Entered t ws ws done sum sum None
  unfolding growth_of
  entered_none = record { strings = omega arith; props = omega arith; tabled = rw append-nil tb; kept = only_none ws }

  pub entered_known : (offset : ℕ) → is_in (string_at t offset) done ≡ true
      → Entered t ws ws done sum (record { structure = sum.structure; strings = sum.strings; props = sum.props + 1; names = sum.names }) (Some offset)
  entered_known offset h = record {
    strings = omega (arith, growth_known (string_at t offset) done h);
    props = refl;
    tabled = tabled_known t ws sum.names done tb (string_at t offset) h;
    kept = only_none ws;
  }

  pub entered_new : (offset : ℕ) → is_in (string_at t offset) done ≡ false → (len : ℕ) → len ≡ nul_in (drop offset t)
      → (o : ℕ) → string_at t o ≡ string_at t offset → (names : ℕ) (vs : List ℕ) → names ≡ enter_count sum.names → vs ≡ enter_words ws sum.names o
      → Entered t ws vs done sum (record { structure = sum.structure; strings = sum.strings + len + 1; props = sum.props + 1; names = names }) (Some offset)
  entered_new offset h len l o q names vs n v = record {
    strings = omega (arith, growth_new (string_at t offset) done h, length_string t offset, l);
    props = refl;
    tabled = rw (n, v) (tabled_new t ws sum.names done tb (string_at t offset) o q);
    kept = rw v (kept_enter ws sum.names o);
  }

-- a token that is not copied has no name
pub not_copied : (k : ℕ → Bool) (n s : ℕ) (kind : Kind) → copies k n s kind ≡ false → prop_of s kind ≡ None
not_copied k n s (Begin len) h = refl
not_copied k n s EndNode h = refl
not_copied k n s (Prop len name value) h = rw h
not_copied k n s Nop h = refl

pub nul_small : (t : Bytes) (o n : ℕ) → n ≡ nul_in (drop o t) → n ≤ length t
nul_small t o n e = omega (arith, e, nul_le (drop o t), length-drop o t)

-- the structure's part of the sums does not matter to the names
abbrev pub grown : Sum → ℕ → Sum
grown sum x = record { structure = x; strings = sum.strings; props = sum.props; names = sum.names }

module _ (t : Bytes) (ws vs : List ℕ) (done : List Bytes) (sum r : Sum) (p : Option ℕ) (x : ℕ) where
  pub entered_before : Entered t ws vs done sum r p → Entered t ws vs done sum (grown r x) p
  entered_before e = record { strings = e.strings; props = e.props; tabled = e.tabled; kept = e.kept }

pub growth_one : (t : Bytes) (done : List Bytes) (o : ℕ) → growth_of done (string_at t o ∷ []) ≤ length t + 1
growth_one t done o = by_test (is_in (string_at t o) done)
    (λ e. omega (arith, growth_known (string_at t o) done e))
    (λ e. omega (arith, growth_new (string_at t o) done e, length_string t o, nul_small t o (nul_in (drop o t)) refl))
