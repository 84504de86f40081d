-- What the parts of the reader promise of the whole blob, and of the table in the work space.
use Rattle.std.specs.Prelude.{◌≡◌, List, [], ℕ, ◌≤◌, length, Result, Ok, Err}
use Rattle.rules.specs.Ceilings.{work_words}
use Rattle.rules.specs.Outcome.{gives, passes, ◌then◌}
use Rattle.rules.specs.Blob.{Block}
use Rattle.rules.specs.Events.{shape_judged, events_in}
use Rattle.rules.specs.Tree.{Tree, nodes_of, doubled_judged, words_judged, shared_judged}
use Rattle.rules.specs.Reader.{rows_of, space_of}
use Rattle.rules.specs.Laws.Reader.{starts_of}
use Rattle.reader.specs.declared.Refusal.{Refusal}
use Rattle.reader.specs.Answers.{meaning}

abbrev pub block_tree : Block → Tree
block_tree b = nodes_of (events_in b)

-- What is left in the work space: the words, or nothing that matters. Beyond the work space all stays.
abbrev pub Leaves : Result ℕ Refusal → (words old new : List ℕ) → Type 0
Leaves (Ok count) words old new = new ≡ space_of words old
Leaves (Err refusal) words old new = space_of [] new ≡ space_of [] old

-- the shape has passed, and the work space holds what the walk left
pub record Tabled (b : Block) (work : List ℕ) (count : ℕ) : Type 0 where
  pub shape : shape_judged b ≡ passes
  pub counted : count ≡ length (block_tree b)
  pub room : work_words ≤ length work
  pub table : work ≡ space_of (starts_of (block_tree b)) work

-- 10 to 12, and the table
pub record Paired (b : Block) (old new : List ℕ) (answer : Result ℕ Refusal) : Type 0 where
  pub judged : meaning answer ≡ (doubled_judged (block_tree b) then words_judged (block_tree b) then shared_judged (block_tree b) then gives (length (block_tree b)))
  pub table : Leaves answer (rows_of (block_tree b)) old new

-- 6 to 12, and the table
pub record Judged (b : Block) (old new : List ℕ) (answer : Result ℕ Refusal) : Type 0 where
  pub judged : meaning answer
      ≡ (shape_judged b then doubled_judged (block_tree b) then words_judged (block_tree b) then shared_judged (block_tree b) then gives (length (block_tree b)))
  pub table : Leaves answer (rows_of (block_tree b)) old new
