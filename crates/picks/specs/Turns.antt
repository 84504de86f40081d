-- One node's turn: how it stands, and its mark, of the words as they stand; and what holds before node i has its turn.
use Rattle.std.specs.Prelude.{◌≡◌, List, [], ◌∷◌, ℕ, ◌+◌, ◌≤◌, ◌<◌, eqb, ltb, get_or, if◌then◌else◌}
use Rattle.rules.specs.Ceilings.{work_words}
use Rattle.rules.specs.Octets.{lay}
use Rattle.rules.specs.Blob.{Block}
use Rattle.rules.specs.Lists.{one_of, any}
use Rattle.rules.specs.Tree.{Tree, node, below, frame}
use Rattle.rules.specs.Copy.{null, is_cpus, stranger, picked}
use Rattle.rules.specs.Space.{marks_at, stack_at, names_at, list_in}
use Rattle.rules.specs.Laws.Kept.{Kept, Only}
use Rattle.rules.specs.Laws.Tabled.{tree_in}
use Rattle.picks.specs.Marks.{marked, Listed, Noted}
use Rattle.picks.specs.declared.standing.Standing.{Standing}
use Rattle.picks.specs.declared.standing.Standing.TheVariants.{Plain}
use Rattle.picks.specs.Standings.{word_of, standing_in, next, taken, standing_of}

-- how the parent stands, whose number is smaller; the root has none
abbrev pub parent_standing : Block → List ℕ → (count i : ℕ) → Standing
parent_standing b ws count i = let p : ℕ = (node (tree_in b ws count) i).parent in if ltb p i then standing_in (get_or ws (stack_at + p) 0) else Plain

abbrev pub standing_at : Block → List ℕ → (count : ℕ) (excl ids : List ℕ) (i : ℕ) → Standing
standing_at b ws count excl ids i =
    next (null ids) (is_cpus (frame (tree_in b ws count)) i) (stranger (tree_in b ws count) ids i) (one_of i excl) (marked ws marks_at i) (parent_standing b ws count i)

abbrev pub mark_at : List ℕ → (i : ℕ) → Standing → ℕ
mark_at ws i s = if taken (eqb i 0) s (marked ws names_at i) then 1 else 0

abbrev pub turned : Block → List ℕ → (count : ℕ) (excl ids : List ℕ) (i : ℕ) → List ℕ
turned b ws count excl ids i =
    let s : Standing = standing_at b ws count excl ids i in
    lay (lay ws (stack_at + i) (word_of s ∷ [])) (marks_at + i) (mark_at ws i s ∷ [])

-- the mark of a node, by the rule
abbrev pub pick_of : Tree → (excl ids ls : List ℕ) → ℕ → ℕ
pick_of t excl ids ls x = if picked (record { conf = []; excl = excl; ids = ids }) (frame t) (stranger t ids) ls x then 1 else 0

-- before node i has its turn; t is the tree
pub record Coded (t : Tree) (count : ℕ) (excl ids ls : List ℕ) (ws vs : List ℕ) (i : ℕ) : Type 0 where
  pub only : Only marks_at work_words ws vs
  pub list : Listed ws vs
  pub standings : (x : ℕ) → x < i → get_or vs (stack_at + x) 0 ≡ word_of (standing_of (frame t) (stranger t ids) ids excl ls x)
  pub picks : (x : ℕ) → x < i → get_or vs (marks_at + x) 0 ≡ pick_of t excl ids ls x
  pub own : (x : ℕ) → i ≤ x → x < count → marked vs marks_at x ≡ one_of x ls
  pub over : (x : ℕ) → x < count → marked vs names_at x ≡ any (below t x) ls

-- all have had theirs
pub record Picks (b : Block) (count n : ℕ) (excl ids : List ℕ) (ws vs : List ℕ) : Type 0 where
  pub only : Only marks_at work_words ws vs
  pub list : Listed ws vs
  pub picks : (x : ℕ) → x < count → get_or vs (marks_at + x) 0 ≡ pick_of (tree_in b ws count) excl ids (list_in ws n) x

-- of words in which nodes are noted
abbrev pub Each : Block → (count : ℕ) (excl ids : List ℕ) (vs us : List ℕ) → Type 0
Each b count excl ids vs us = (ws : List ℕ) (n : ℕ) → Kept b ws count → Noted count ws vs (list_in ws n) → Picks b count n excl ids ws us
