-- The laws of the tests of names: a walk over a name, what the characters of a valid name are, and a rule for characters that
-- is computed over a range of them.
use Rattle.std.specs.Prelude.{◌≡◌, refl, ◌⊎◌, Bool, true, false, ◌&&◌, ◌||◌, List, [], ◌∷◌, ℕ, zero, suc, ◌+◌, ◌-◌, ◌≤◌, ◌<◌, eqb, leb, ltb, length, take, drop}
use Rattle.std.proofs.Common.{sym, ◌∙◌, inl, inr, arith, add-one, drop_of_length-le, length-drop, length-take-le, get_or-take, get_or-drop}
use Rattle.std.proofs.Math.Bool.{not}
use Rattle.std.proofs.Math.Seq.{drop-cons}
use borrow.Author.Tests.{eq-eqb, ne_eqb, eqb-true, eqb-false, leb-true, not-true}
use Rattle.rules.specs.Ceilings.{node_name_ceiling, property_name_ceiling}
use Rattle.rules.specs.Octets.{Bytes, byte_at, has_nul}
use Rattle.rules.specs.Names.{within, node_char, property_char, at_sign, node_name_valid, property_name_valid, node_name_reads}
use Rattle.rules.specs.Lists.{one_of, every}
use Rattle.rules.proofs.Laws.Octets.{to_le, to_byte, has_nul_not}
use Rattle.rules.proofs.Laws.Tests.{by_test, by_le, never, and_true, or_cases, or_right, or_nothing, true_and}

-- ---- a rule for characters over a range of them

-- f passes at n numbers from `low` on
unfoldable pub steady : (ℕ → Bool) → ℕ → ℕ → Bool
steady f low zero = true
steady f low (suc n) = f low && steady f (suc low) n

-- as computed: it passes at each of them
pub all_in : (f : ℕ → Bool) (low n c : ℕ) → steady f low n ≡ true → low ≤ c → c < low + n → f c ≡ true
unfolding steady
all_in f low zero c t h k = absurd (omega arith)
all_in f low (suc n) c t h k =
    let u = and_true (f low) (steady f (suc low) n) t in
    by_test (eqb low c)
    (λ e. rw (eqb-true low c e) at u.0)
    (λ e. let d : (low ≡ c → ⊥) = eqb-false low c e in all_in f (suc low) n c u.1 (omega arith) (omega arith))

-- and so it fails at each of them
pub none_in : (f : ℕ → Bool) (low n c : ℕ) → steady (λ b. not (f b)) low n ≡ true → low ≤ c → c < low + n → f c ≡ false
none_in f low n c t h k = not-true (f c) (all_in (λ b. not (f b)) low n c t h k)

-- a property name may hold what a node name may, and two more
pub property_more : (c : ℕ) → (c ≡ 35) ⊎ (c ≡ 63) → property_char c ≡ true
unfolding property_char one_of
property_more c (inl e) = rw e (or_right (node_char 35) true refl)
property_more c (inr e) = rw e (or_right (node_char 63) true refl)

pub property_other : (c : ℕ) → ((c ≡ 35) ⊎ (c ≡ 63) → ⊥) → property_char c ≡ node_char c
unfolding property_char one_of
property_other c h = rw (ne_eqb c 35 (λ e. h (inl e)), ne_eqb c 63 (λ e. h (inr e))) (or_nothing (node_char c))

-- ---- the walk over a name

module _ (f : ℕ → Bool) (s : Bytes) (i : ℕ) where
  every_step : i < length s → every f (drop i s) ≡ f (byte_at s i) && every f (drop (i + 1) s)
  unfolding every
  every_step h = rw (add-one, drop-cons s i 0)

  pub every_hit : i < length s → f (byte_at s i) ≡ true → every f (drop i s) ≡ every f (drop (i + 1) s)
  every_hit h e = rw (every_step h, e)

  pub every_miss : i < length s → f (byte_at s i) ≡ false → every f (drop i s) ≡ false
  every_miss h e = rw (every_step h, e)

  pub every_end : length s ≤ i → every f (drop i s) ≡ true
  unfolding every
  every_end h = rw (drop_of_length-le s h)

-- ---- the rules, where the tests before have told the length

pub node_empty : (s : Bytes) → length s ≡ 0 → node_name_valid s ≡ true
unfolding node_name_valid
node_empty s h = rw (eq-eqb (length s) 0 h)

-- at the place n of the first @
pub node_rule : (s : Bytes) (n : ℕ) → (length s ≡ 0 → ⊥) → n ≡ at_sign s
    → node_name_valid s ≡ within 1 node_name_ceiling n && every node_char (take n s) && every node_char (drop (n + 1) s)
unfolding node_name_valid
node_rule s n h e = rw (add-one, e, ne_eqb (length s) 0 h, length-take-le (at_sign s) s (to_le 64 s))

pub node_reads : (s : Bytes) → (length s ≡ 0 → ⊥) → node_name_reads s ≡ node_name_valid s
unfolding node_name_reads
node_reads s h = rw (ne_eqb (length s) 0 h)

pub node_reads_not : (s : Bytes) → length s ≡ 0 → node_name_reads s ≡ false
unfolding node_name_reads
node_reads_not s h = rw (eq-eqb (length s) 0 h)

-- ---- what the characters of a valid name are

-- ASCII, no NUL, no `/`
unfoldable pub plain : ℕ → Bool
plain c = ltb c 128 && not (eqb c 0) && not (eqb c 47)

module _ (c : ℕ) (h : plain c ≡ true) where
  pub plain_no_nul : c ≡ 0 → ⊥
  unfolding plain
  plain_no_nul = eqb-false c 0 (not-true (eqb c 0) (and_true (ltb c 128) _ (and_true (ltb c 128 && not (eqb c 0)) _ h).0).1)

pub within_true : (low high c : ℕ) → within low high c ≡ true → (low ≤ c) × (c ≤ high)
within_true low high c h =
    let u = and_true (leb low c) (leb c high) h in
    (leb-true low c u.0, leb-true c high u.1)

-- a test that all of a list pass
pub one_of_every : (f : ℕ → Bool) (c : ℕ) (xs : List ℕ) → every f xs ≡ true → one_of c xs ≡ true → f c ≡ true
unfolding one_of every
one_of_every f c [] t h = never true refl (sym h)
one_of_every f c (x ∷ xs) t h =
    let u = and_true (f x) (every f xs) t in
    elim (or_cases (eqb c x) (one_of c xs) h) [ inl e ↦ rw (eqb-true c x e) u.0 | inr k ↦ one_of_every f c xs u.1 k ]

-- a test that all characters of a node name pass
node_char_by : (f : ℕ → Bool) (c : ℕ) → steady f 48 10 ≡ true → steady f 65 26 ≡ true → steady f 97 26 ≡ true
    → every f (44 ∷ 46 ∷ 95 ∷ 43 ∷ 45 ∷ []) ≡ true → node_char c ≡ true → f c ≡ true
unfolding node_char
node_char_by f c digits upper lower signs h =
    let range : (low n : ℕ) → steady f low (suc n) ≡ true → within low (low + n) c ≡ true → f c ≡ true = λ low n t w. let b = within_true low (low + n) c w in all_in f low (suc n) c t b.0 (omega arith) in
    elim (or_cases (within 48 57 c || within 65 90 c || within 97 122 c) _ h) [
      | inr e ↦ one_of_every f c (44 ∷ 46 ∷ 95 ∷ 43 ∷ 45 ∷ []) signs e
      | inl h ↦ elim (or_cases (within 48 57 c || within 65 90 c) _ h) [
        | inr e ↦ range 97 25 lower e
        | inl h ↦ elim (or_cases (within 48 57 c) _ h) [ inl e ↦ range 48 9 digits e | inr e ↦ range 65 25 upper e ]
      ]
    ]

pub node_char_plain : (c : ℕ) → node_char c ≡ true → plain c ≡ true
unfolding plain steady every
node_char_plain c h = node_char_by plain c refl refl refl refl h

pub property_char_plain : (c : ℕ) → property_char c ≡ true → plain c ≡ true
unfolding property_char plain every
property_char_plain c h = elim (or_cases (node_char c) _ h) [
  | inl e ↦ node_char_plain c e
  | inr e ↦ one_of_every plain c (63 ∷ 35 ∷ []) refl e
]

pub every_at : (f : ℕ → Bool) (s : Bytes) → every f s ≡ true → (i : ℕ) → i < length s → f (byte_at s i) ≡ true
unfolding every
every_at f [] h i k = absurd (omega arith)
every_at f (b ∷ bs) h zero k = (and_true (f b) (every f bs) h).0
every_at f (b ∷ bs) h (suc i) k = every_at f bs (and_true (f b) (every f bs) h).1 i (omega arith)

pub every_all : (f : ℕ → Bool) (s : Bytes) → ((i : ℕ) → i < length s → f (byte_at s i) ≡ true) → every f s ≡ true
unfolding every
every_all f [] h = refl
every_all f (b ∷ bs) h = true_and (f b) (every f bs) (h 0 (omega arith)) (every_all f bs (λ i k. h (suc i) (omega arith)))

plain_at : plain 64 ≡ true
unfolding plain
plain_at = refl

pub node_name_plain : (s : Bytes) → node_name_valid s ≡ true → (i : ℕ) → i < length s → plain (byte_at s i) ≡ true
node_name_plain s h i k =
    let n : ℕ = at_sign s in
    let u = and_true (within 1 node_name_ceiling n && every node_char (take n s)) _ (sym (node_rule s n (λ e. omega arith) refl) ∙ h) in
    by_le (n + 1) i
    (λ behind. let j : ℕ = i - (n + 1) in
    let e : n + 1 + j ≡ i = omega arith in
    let t = every_at node_char (drop (n + 1) s) u.1 j (omega (arith, length-drop (n + 1) s)) in
    node_char_plain (byte_at s i) (rw (get_or-drop (n + 1) s j 0, e) at t))
    (λ near. by_le n i
    (λ here. let e : i ≡ n = omega arith in rw (e, to_byte 64 s (omega arith)) plain_at)
    (λ front. let t = every_at node_char (take n s) (and_true (within 1 node_name_ceiling n) _ u.0).1 i (omega (arith, length-take-le n s (to_le 64 s))) in
    node_char_plain (byte_at s i) (rw (get_or-take n s i 0 front) at t)))

pub property_name_plain : (s : Bytes) → property_name_valid s ≡ true → (i : ℕ) → i < length s → plain (byte_at s i) ≡ true
unfolding property_name_valid
property_name_plain s h i k =
    property_char_plain (byte_at s i) (every_at property_char s (and_true (within 1 property_name_ceiling (length s)) _ h).1 i k)

-- so a valid name has no NUL
pub plain_closed : (s : Bytes) → ((i : ℕ) → i < length s → plain (byte_at s i) ≡ true) → has_nul s ≡ false
plain_closed s h = has_nul_not s (λ i k. plain_no_nul (byte_at s i) (h i k))
