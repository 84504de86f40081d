-- What is lent together, as the definitions have it: the block and the tree that a contract speaks of.
use Prim.Native.Nat.{ℕ}
use Rattle.rules.specs.Blob.{Block, block_of}
use Rattle.rules.specs.Tree.{Tree}
use Rattle.rules.specs.Laws.Tabled.{tree_in}
use Rattle.rules.specs.declared.Block.{Block as LentBlock}
use Rattle.rules.specs.declared.Tree.{Tree as LentTree}
use Rattle.std.specs.Prelude.{List}

-- a block, its parts as they are lent
abbrev pub block_lent : LentBlock → Block
block_lent b = block_of b.place b.structure.now b.strings.now

-- the tree that a table in these words says, the table's words as the code changes them
abbrev pub tree_with : LentBlock → (words : List ℕ) (count : ℕ) → Tree
tree_with b words count = tree_in (block_lent b) words count

-- a tree, its block and its table as they are lent
abbrev pub tree_lent : LentTree → Tree
tree_lent t = tree_with t.block t.work.now t.count
