-- The pass of refusal 12 on the table that the walk leaves: it judges as the definition does, and completes the rows.
use mathlib.Core.Path.{◌≡◌, refl, sym, ap, ap₂, ◌∙◌}
use mathlib.Core.Bool.{Bool, false, ◌||◌}
use mathlib.Core.List.{List, [], ◌∷◌, ◌++◌, append_assoc}
use mathlib.Core.Option.{Option, none, some}
use Prim.Native.Nat.{ℕ, zero, suc, ◌+◌, ◌*◌, ◌/◌, ◌≤◌, ◌<◌}
use native.Mathlib.Omega.{arith}
use lib.Dec.{eqb}
use lib.ListN.{length, get_or, set, length-append, length-set, get_or-append}
use lib.Seq.{get_or-append-add, get_or-set_same, get_or-set_other, set_at}
use borrow.Author.Tests.{lt-ltb}
use Rattle.rules.specs.Ceilings.{work_words, node_words}
use Rattle.rules.specs.Octets.{word_at}
use Rattle.rules.specs.Lists.{one_of}
use Rattle.rules.specs.Outcome.{Verdict, gives, refuses}
use Rattle.rules.specs.Events.{Property}
use Rattle.rules.specs.Tree.{Node, Tree, phandle_prop, shared_from, shared_judged}
use Rattle.rules.specs.Reader.{row_of, rows_of, space_of}
use Rattle.rules.proofs.Laws.Tests.{by_test, or_nothing, or_comm, eqb_sym}
use Rattle.rules.specs.Laws.Reader.{start_of, starts_of}
use Rattle.rules.proofs.Laws.Reader.{starts_length, space_length, space_get, space_set, space_space}
use Rattle.rules.specs.Laws.Constants.{NODE_WORDS}
use Rattle.passes.specs.Rows.{row_has, row_below, row_given, rows_from}

-- ---- two words of a row are written

row_filled : (before after : List ℕ) (m a b v : ℕ) → m ≡ length before
    → set (set (before ++ (start_of a b ++ after)) (m + 2) 1) (m + 3) v ≡ before ++ ((a ∷ b ∷ 1 ∷ v ∷ []) ++ after)
row_filled before after m a b v e =
    let l₂ : length (before ++ a ∷ b ∷ []) ≡ m + 2 = omega (arith, length-append before (a ∷ b ∷ [])) in
    let l₃ : length (before ++ a ∷ b ∷ 1 ∷ []) ≡ m + 3 = omega (arith, length-append before (a ∷ b ∷ 1 ∷ [])) in
    ap (λ (x : List ℕ). set (set x (m + 2) 1) (m + 3) v) (sym (append_assoc before (a ∷ b ∷ []) (0 ∷ 0 ∷ after)))
    ∙ ap (λ (x : List ℕ). set x (m + 3) v) (set_at (before ++ a ∷ b ∷ []) 0 (0 ∷ after) 1 (m + 2) l₂ ∙ append_assoc before (a ∷ b ∷ []) (1 ∷ 0 ∷ after))
    ∙ ap (λ (x : List ℕ). set x (m + 3) v) (sym (append_assoc before (a ∷ b ∷ 1 ∷ []) (0 ∷ after)))
    ∙ set_at (before ++ a ∷ b ∷ 1 ∷ []) 0 after v (m + 3) l₃
    ∙ append_assoc before (a ∷ b ∷ 1 ∷ []) (v ∷ after)

-- ---- what rows say, after two words behind them are written

has_same : (w : List ℕ) (j m v a b x y : ℕ) → j < m → NODE_WORDS * m ≤ a → NODE_WORDS * m ≤ b → row_has (set (set w a x) b y) j v ≡ row_has w j v
unfolding row_has node_words
has_same w j m v a b x y h p q =
    let l : length (set (set w a x) b y) ≡ length w = length-set (set w a x) b y ∙ length-set w a x in
    let g : (k : ℕ) → k < NODE_WORDS * m → get_or (set (set w a x) b y) k 0 ≡ get_or w k 0 = λ k r.
    get_or-set_other (set w a x) b k y 0 (λ e. omega arith) ∙ get_or-set_other w a k x 0 (λ e. omega arith) in
    rw (l, g (NODE_WORDS * j + 2) (omega arith), g (NODE_WORDS * j + 3) (omega arith))

below_same : (w : List ℕ) (i m v a b x y : ℕ) → i ≤ m → NODE_WORDS * m ≤ a → NODE_WORDS * m ≤ b → row_below (set (set w a x) b y) i v ≡ row_below w i v
unfolding row_below
below_same w zero m v a b x y h p q = refl
below_same w (suc i) m v a b x y h p q =
    ap₂ (λ (s t : Bool). s || t) (below_same w i m v a b x y (omega arith) p q) (has_same w i m v a b x y (omega arith) p q)

-- a row without a phandle, and with one
has_none : (w : List ℕ) (i v : ℕ) → NODE_WORDS * i + NODE_WORDS ≤ length w → get_or w (NODE_WORDS * i + 2) 0 ≡ 0 → row_has w i v ≡ false
unfolding row_has node_words
has_none w i v h e = rw (lt-ltb i (length w / 4) (omega arith), e)

has_some : (w : List ℕ) (i u v : ℕ) → NODE_WORDS * i + NODE_WORDS ≤ length w → get_or w (NODE_WORDS * i + 2) 0 ≡ 1 → get_or w (NODE_WORDS * i + 3) 0 ≡ u → row_has w i v ≡ eqb u v
unfolding row_has node_words
has_some w i u v h e f = rw (lt-ltb i (length w / 4) (omega arith), e, f)

given_is : (w : List ℕ) (i v : ℕ) → NODE_WORDS * i + NODE_WORDS ≤ length w → row_given w i v ≡ set (set w (NODE_WORDS * i + 2) 1) (NODE_WORDS * i + 3) v
unfolding row_given node_words
given_is w i v h = rw (lt-ltb i (length w / 4) (omega arith))

-- a row, by what the node's properties say
row_none : (n : Node) → phandle_prop n.props ≡ none → row_of n ≡ start_of n.place n.parent
unfolding row_of
row_none n e = rw (e, row_of)

row_some : (n : Node) (p : Property) → phandle_prop n.props ≡ some p → row_of n ≡ n.place ∷ n.parent ∷ 1 ∷ word_at p.value 0 ∷ []
unfolding row_of
row_some n p e = rw (e, row_of)

-- ---- the pass

-- what is left: the words, or nothing that matters
abbrev pub Rest : (d words : List ℕ) → Verdict → List ℕ → Type 0
Rest d words (gives u) x = x ≡ space_of words d
Rest d words (refuses number place) x = space_of [] x ≡ space_of [] d

-- the rows before i are done, and say which phandles have been seen
pub record Rowed (d w done : List ℕ) (i : ℕ) (seen : List ℕ) (ns : List Node) : Type 0 where
  pub here : w ≡ space_of (done ++ starts_of ns) d
  pub long : length done ≡ NODE_WORDS * i
  pub fits : NODE_WORDS * (i + length ns) ≤ work_words
  pub told : (v : ℕ) → row_below w i v ≡ one_of v seen

abbrev Result : (d w done : List ℕ) (i : ℕ) (seen : List ℕ) (ns : List Node) → Type 0
Result d w done i seen ns = ((rows_from w i ns).0 ≡ shared_from seen ns) × Rest d (done ++ rows_of ns) (rows_from w i ns).0 (rows_from w i ns).1

module _ (d : List ℕ) (room : work_words ≤ length d) where
  module _ (w done : List ℕ) (i : ℕ) (seen : List ℕ) (n : Node) (ns : List Node) (r : Rowed d w done i seen (n ∷ ns)) where
    abbrev words : List ℕ
    words = done ++ starts_of (n ∷ ns)

    short : length (done ++ starts_of (n ∷ ns)) ≤ work_words
    short = omega (arith, length-append done (starts_of (n ∷ ns)), starts_length (n ∷ ns), r.long, r.fits)

    long_words : length words ≡ NODE_WORDS * (i + suc (length ns))
    long_words = omega (arith, length-append done (starts_of (n ∷ ns)), starts_length (n ∷ ns), r.long)

    as_long : length w ≡ length d
    as_long = ap length r.here ∙ space_length (done ++ starts_of (n ∷ ns)) d short room

    inside : NODE_WORDS * i + NODE_WORDS ≤ length w
    inside = omega (arith, as_long, r.fits)

    -- the row as the walk left it
    read_row : (k : ℕ) → k < NODE_WORDS → get_or w (NODE_WORDS * i + k) 0 ≡ get_or (start_of n.place n.parent) k 0
    unfolding starts_of
    read_row k h =
        let e : NODE_WORDS * i + k ≡ length done + k = omega (arith, r.long) in
        ap (λ (x : List ℕ). get_or x (NODE_WORDS * i + k) 0) r.here
        ∙ space_get (done ++ starts_of (n ∷ ns)) d (NODE_WORDS * i + k) (omega (arith, r.fits)) short
        ∙ ap (λ (j : ℕ). get_or (done ++ starts_of (n ∷ ns)) j 0) e
        ∙ get_or-append-add done (starts_of (n ∷ ns)) k 0
        ∙ get_or-append (start_of n.place n.parent) (starts_of ns) 0 k h

    -- no phandle: the row is as it should be
    on_none : phandle_prop n.props ≡ none → Rowed d w (done ++ row_of n) (suc i) seen ns
    unfolding starts_of row_below
    on_none e =
        let row = row_none n e in
        record {
          here = r.here ∙ ap (λ (x : List ℕ). space_of x d) (sym (append_assoc done (start_of n.place n.parent) (starts_of ns)) ∙ ap (λ (x : List ℕ). (done ++ x) ++ starts_of ns) (sym row));
          long = omega (arith, length-append done (row_of n), r.long, ap length row);
          fits = omega (arith, r.fits);
          told = λ v. ap₂ (λ (s t : Bool). s || t) (r.told v) (has_none w i v inside (read_row 2 (omega arith))) ∙ or_nothing (one_of v seen);
        }

    -- a phandle that is new
    on_some : (p : Property) → phandle_prop n.props ≡ some p
        → Rowed d (row_given w i (word_at p.value 0)) (done ++ row_of n) (suc i) (word_at p.value 0 ∷ seen) ns
    unfolding starts_of row_below one_of
    on_some p e =
        let u : ℕ = word_at p.value 0 in
        let row = row_some n p e in
        let w' : List ℕ = set (set w (NODE_WORDS * i + 2) 1) (NODE_WORDS * i + 3) u in
        let l : length w' ≡ length w = length-set (set w (NODE_WORDS * i + 2) 1) (NODE_WORDS * i + 3) u ∙ length-set w (NODE_WORDS * i + 2) 1 in
        let marked : get_or w' (NODE_WORDS * i + 2) 0 ≡ 1 =
        get_or-set_other (set w (NODE_WORDS * i + 2) 1) (NODE_WORDS * i + 3) (NODE_WORDS * i + 2) u 0 (λ k. omega arith) ∙ get_or-set_same w (NODE_WORDS * i + 2) 1 0 (omega (arith, inside)) in
        let given : get_or w' (NODE_WORDS * i + 3) 0 ≡ u = get_or-set_same (set w (NODE_WORDS * i + 2) 1) (NODE_WORDS * i + 3) u 0 (omega (arith, inside, length-set w (NODE_WORDS * i + 2) 1)) in
        rw (given_is w i u inside)
        (record {
          here =
              ap (λ (x : List ℕ). set (set x (NODE_WORDS * i + 2) 1) (NODE_WORDS * i + 3) u) r.here
              ∙ ap (λ (x : List ℕ). set x (NODE_WORDS * i + 3) u) (space_set words d (NODE_WORDS * i + 2) 1 (omega (arith, long_words)) short)
              ∙ space_set (set words (NODE_WORDS * i + 2) 1) d (NODE_WORDS * i + 3) u (omega (arith, long_words, length-set words (NODE_WORDS * i + 2) 1)) (omega (arith, short, length-set words (NODE_WORDS * i + 2) 1))
              ∙ ap (λ (x : List ℕ). space_of x d)
              (row_filled done (starts_of ns) (NODE_WORDS * i) n.place n.parent u (sym r.long)
              ∙ ap (λ (x : List ℕ). done ++ (x ++ starts_of ns)) (sym row)
              ∙ sym (append_assoc done (row_of n) (starts_of ns)));
          long = omega (arith, length-append done (row_of n), r.long, ap length row);
          fits = omega (arith, r.fits);
          told = λ v.
              ap₂ (λ (s t : Bool). s || t) (below_same w i i v (NODE_WORDS * i + 2) (NODE_WORDS * i + 3) 1 u (omega arith) (omega arith) (omega arith) ∙ r.told v)
              (has_some w' i u v (omega (arith, l, inside)) marked given ∙ eqb_sym u v)
              ∙ or_comm (one_of v seen) (eqb v u);
        })

  -- a node, given what its properties say and what follows
  node_shared : (w done : List ℕ) (i : ℕ) (seen : List ℕ) (n : Node) (ns : List Node) → Rowed d w done i seen (n ∷ ns)
      → ((w' done' : List ℕ) (seen' : List ℕ) → Rowed d w' done' (suc i) seen' ns → Result d w' done' (suc i) seen' ns)
      → (o : Option Property) → phandle_prop n.props ≡ o → Result d w done i seen (n ∷ ns)
  unfolding rows_from shared_from rows_of
  node_shared w done i seen n ns r ih none e =
      rw (e, rows_from, shared_from) (rw (← append_assoc done (row_of n) (rows_of ns)) (ih w (done ++ row_of n) seen (on_none w done i seen n ns r e)))
  node_shared w done i seen n ns r ih (some p) e = by_test (row_below w i (word_at p.value 0))
      (λ h. rw (e, rows_from, shared_from, h, sym (r.told (word_at p.value 0)) ∙ h)
      (refl, ap (space_of []) r.here ∙ space_space [] (done ++ starts_of (n ∷ ns)) d (omega arith) (short w done i seen n ns r)))
      (λ h. rw (e, rows_from, shared_from, h, sym (r.told (word_at p.value 0)) ∙ h)
      (rw (← append_assoc done (row_of n) (rows_of ns))
      (ih (row_given w i (word_at p.value 0)) (done ++ row_of n) (word_at p.value 0 ∷ seen) (on_some w done i seen n ns r p e))))

  pub rows_shared : (w done : List ℕ) (i : ℕ) (seen : List ℕ) (ns : List Node) → Rowed d w done i seen ns → Result d w done i seen ns
  unfolding rows_from shared_from rows_of starts_of
  rows_shared w done i seen [] r = (refl, r.here)
  rows_shared w done i seen (n ∷ ns) r =
      node_shared w done i seen n ns r (λ w' done' seen' r'. rows_shared w' done' (suc i) seen' ns r') (phandle_prop n.props) refl

  -- THE TABLE IS COMPLETE
  pub shared_table : (t : Tree) (w : List ℕ) → NODE_WORDS * length t ≤ work_words → w ≡ space_of (starts_of t) d
      → ((rows_from w 0 t).0 ≡ shared_judged t) × Rest d (rows_of t) (rows_from w 0 t).0 (rows_from w 0 t).1
  unfolding shared_judged row_below one_of
  shared_table t w h e = rows_shared w [] 0 [] t (record { here = e; long = refl; fits = omega arith; told = λ v. refl })
