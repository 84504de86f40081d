-- The laws of what the reader leaves in its work space: words, then zeros, then what was there.
use Rattle.std.specs.Prelude.{◌≡◌, refl, List, [], ◌∷◌, ◌++◌, ℕ, zero, suc, ◌+◌, ◌-◌, ◌*◌, ◌≤◌, ◌<◌, length, get_or, drop, set}
use Rattle.std.proofs.Common.{sym, ap, ◌∙◌, append_assoc, zero-add, arith, length-append, length-drop, length-set, drop_at}
use Rattle.std.proofs.Math.Nat.{sub-zero}
use Rattle.std.proofs.lemmas.List.{get_or-replicate, set_at, set-append_left}
use Rattle.std.proofs.Math.ListN.{get_or-append}
use Rattle.rules.specs.Ceilings.{work_words, node_ceiling}
use Rattle.rules.specs.Octets.{Bytes, zeros, put, lay}
use Rattle.rules.specs.Events.{Property, Event, opens, has, closes}
use Rattle.rules.specs.Tree.{Tree, top, rest, nodes_from}
use Rattle.rules.specs.Reader.{space_of}
use Rattle.rules.proofs.Laws.Octets.{length_zeros, lay_put}
use Rattle.rules.specs.Laws.Constants.{NODE_WORDS}
use Rattle.rules.specs.Laws.Reader.{start_of, starts_of}

-- ---- the work space

space_is : (ws d : List ℕ) → length ws ≤ work_words → space_of ws d ≡ ws ++ (zeros (work_words - length ws) ++ drop work_words d)
unfolding space_of put
space_is ws d h =
    let l : length (ws ++ zeros (work_words - length ws)) ≡ work_words = simp (length-append, length_zeros) (omega arith) in
    rw (l, zero-add) (append_assoc ws (zeros (work_words - length ws)) (drop work_words d))

pub space_length : (ws d : List ℕ) → length ws ≤ work_words → work_words ≤ length d → length (space_of ws d) ≡ length d
space_length ws d h k = rw (space_is ws d h) (simp (length-append, length_zeros, length-drop) (omega arith))

-- a work space forgets what it held
pub space_space : (ws vs d : List ℕ) → length ws ≤ work_words → length vs ≤ work_words → space_of ws (space_of vs d) ≡ space_of ws d
space_space ws vs d h k =
    let l : length (vs ++ zeros (work_words - length vs)) ≡ work_words = simp (length-append, length_zeros) (omega arith) in
    let e : drop work_words (space_of vs d) ≡ drop work_words d =
    rw (space_is vs d k, ← append_assoc vs (zeros (work_words - length vs)) (drop work_words d)) (drop_at (vs ++ zeros (work_words - length vs)) (drop work_words d) work_words l) in
    space_is ws (space_of vs d) h ∙ rw e (sym (space_is ws d h))

-- the words are as they were written, and every other of the first is 0
get_zeros : (ws : List ℕ) (m k : ℕ) (t : List ℕ) → k < length ws + m → get_or (ws ++ (zeros m ++ t)) k 0 ≡ get_or ws k 0
get_zeros [] m k t h = get_or-append (zeros m) t 0 k (simp length_zeros (omega arith)) ∙ get_or-replicate m k 0 0 (omega arith)
get_zeros (x ∷ ws) m zero t h = refl
get_zeros (x ∷ ws) m (suc k) t h = get_zeros ws m k t (omega arith)

pub space_get : (ws d : List ℕ) (k : ℕ) → k < work_words → length ws ≤ work_words → get_or (space_of ws d) k 0 ≡ get_or ws k 0
space_get ws d k h l = rw (space_is ws d l) (get_zeros ws (work_words - length ws) k (drop work_words d) (omega arith))

-- a word among the words is written anew
pub space_set : (ws d : List ℕ) (k a : ℕ) → k < length ws → length ws ≤ work_words → set (space_of ws d) k a ≡ space_of (set ws k a) d
space_set ws d k a h l =
    rw (space_is ws d l)
    (set-append_left ws (zeros (work_words - length ws) ++ drop work_words d) k a h
    ∙ ap (λ (m : ℕ). set ws k a ++ (zeros (work_words - m) ++ drop work_words d)) (sym (length-set ws k a))
    ∙ sym (space_is (set ws k a) d (omega (arith, length-set ws k a))))

-- one word more
push : (n m : ℕ) (ws t : List ℕ) (a : ℕ) → m ≡ length ws → set (ws ++ (zeros (suc n) ++ t)) m a ≡ (ws ++ a ∷ []) ++ (zeros n ++ t)
push n m ws t a e = set_at ws 0 (zeros n ++ t) a m (sym e) ∙ sym (append_assoc ws (a ∷ []) (zeros n ++ t))

pub space_push : (ws d : List ℕ) (m a : ℕ) → m ≡ length ws → m < work_words → set (space_of ws d) m a ≡ space_of (ws ++ a ∷ []) d
space_push ws d m a e h =
    let l : length (ws ++ a ∷ []) ≡ length ws + 1 = length-append ws (a ∷ []) in
    let k : work_words - length ws ≡ suc (work_words - length (ws ++ a ∷ [])) = omega arith in
    rw (space_is ws d (omega arith))
    (ap (λ (j : ℕ). set (ws ++ (zeros j ++ drop work_words d)) m a) k
    ∙ push (work_words - length (ws ++ a ∷ [])) m ws (drop work_words d) a e
    ∙ sym (space_is (ws ++ a ∷ []) d (omega arith)))

-- a zero behind the words is there already
pub space_zero : (ws d : List ℕ) → length ws < work_words → space_of (ws ++ 0 ∷ []) d ≡ space_of ws d
space_zero ws d h =
    let l : length (ws ++ 0 ∷ []) ≡ length ws + 1 = length-append ws (0 ∷ []) in
    let k : work_words - length ws ≡ suc (work_words - length (ws ++ 0 ∷ [])) = omega arith in
    space_is (ws ++ 0 ∷ []) d (omega arith)
    ∙ append_assoc ws (0 ∷ []) (zeros (work_words - length (ws ++ 0 ∷ [])) ++ drop work_words d)
    ∙ ap (λ (j : ℕ). ws ++ (zeros j ++ drop work_words d)) (sym k)
    ∙ sym (space_is ws d (omega arith))

-- a cleared work space
pub space_clear : (d : List ℕ) → work_words ≤ length d → lay d 0 (zeros work_words) ≡ space_of [] d
unfolding space_of
space_clear d h = rw sub-zero (lay_put d 0 (zeros work_words) (omega (arith, length_zeros work_words)))

-- ---- rows

pub starts_length : (t : Tree) → length (starts_of t) ≡ NODE_WORDS * length t
unfolding starts_of
starts_length [] = refl
starts_length (n ∷ ns) = omega (arith, starts_length ns)

-- the rows of a tree, event by event
pub starts_opens : (stack : List ℕ) (next place : ℕ) (name : Bytes) (es : List Event)
    → starts_of (nodes_from stack next (opens place name ∷ es)) ≡ start_of place (top stack) ++ starts_of (nodes_from (next ∷ stack) (suc next) es)
unfolding nodes_from starts_of
starts_opens stack next place name es = refl

pub starts_has : (stack : List ℕ) (next : ℕ) (p : Property) (es : List Event) → starts_of (nodes_from stack next (has p ∷ es)) ≡ starts_of (nodes_from stack next es)
unfolding nodes_from
starts_has stack next p es = refl

pub starts_closes : (stack : List ℕ) (next place : ℕ) (es : List Event) → starts_of (nodes_from stack next (closes place ∷ es)) ≡ starts_of (nodes_from (rest stack) next es)
unfolding nodes_from
starts_closes stack next place es = refl

pub starts_none : (stack : List ℕ) (next : ℕ) → starts_of (nodes_from stack next []) ≡ []
unfolding nodes_from starts_of
starts_none stack next = refl

-- there is room for a row of each node
pub table_fits : NODE_WORDS * node_ceiling ≤ work_words
unfolding node_ceiling work_words
table_fits = omega arith

-- two words make a row
pub space_row : (ws d : List ℕ) (m a b : ℕ) → m ≡ length ws → m + NODE_WORDS ≤ work_words → set (set (space_of ws d) m a) (m + 1) b ≡ space_of (ws ++ start_of a b) d
space_row ws d m a b e h =
    let l₁ : length (ws ++ a ∷ []) ≡ length ws + 1 = length-append ws (a ∷ []) in
    let l₂ : length (ws ++ a ∷ b ∷ []) ≡ length ws + 2 = length-append ws (a ∷ b ∷ []) in
    let l₃ : length (ws ++ a ∷ b ∷ 0 ∷ []) ≡ length ws + 3 = length-append ws (a ∷ b ∷ 0 ∷ []) in
    ap (λ (x : List ℕ). set x (m + 1) b) (space_push ws d m a e (omega arith))
    ∙ space_push (ws ++ a ∷ []) d (m + 1) b (omega arith) (omega arith)
    ∙ ap (λ (x : List ℕ). space_of x d) (append_assoc ws (a ∷ []) (b ∷ []))
    ∙ sym (space_zero (ws ++ a ∷ b ∷ []) d (omega arith))
    ∙ ap (λ (x : List ℕ). space_of x d) (append_assoc ws (a ∷ b ∷ []) (0 ∷ []))
    ∙ sym (space_zero (ws ++ a ∷ b ∷ 0 ∷ []) d (omega arith))
    ∙ ap (λ (x : List ℕ). space_of x d) (append_assoc ws (a ∷ b ∷ 0 ∷ []) (0 ∷ []))
