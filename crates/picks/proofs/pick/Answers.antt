-- `pick` meets its contract.
use Rattle.std.specs.Prelude.{if◌then◌else◌}
use mathlib.Core.Bool.{Bool, true, false}
use mir.Val.{bool_byte}
use mathlib.Core.Path.{◌≡◌, refl, ap, ◌∙◌}
use Prim.Native.Nat.{ℕ}
use native.Mathlib.Omega.{arith}
use lib.Dec.{eqb}
use Rattle.rules.specs.Laws.Lent.{block_lent}
use Rattle.rules.proofs.Laws.Kept.{node_word, word_in_part, put_in_part}
use Rattle.rules.proofs.Laws.Constants.{marks_at_lem, stack_at_lem, names_at_lem}
use Rattle.picks.proofs.Coding.{turned_is}
use Rattle.picks.proofs.pick.Goals as goal

-- a test as a word
as_word : (b : Bool) → bool_byte b ≡ (if b then 1 else 0)
as_word true = refl
as_word false = refl

pub overflow_add-i : goal.overflow_add-i
overflow_add-i c = omega (arith, node_word)

pub overflow_add-i-2 : goal.overflow_add-i-2
overflow_add-i-2 c = omega (arith, node_word)

pub overflow_add-i-3 : goal.overflow_add-i-3
overflow_add-i-3 c = omega (arith, node_word)

pub returns : goal.returns
returns c =
    let a = c.args in
    turned_is (block_lent a.block.now) a.work.now a.count a.excl.now a.ids.now a.i c.of-standing.result c.of-standing.ensures
    _ (ap (λ (y : ℕ). eqb y 1) (word_in_part names_at_lem a.work.now a.i c.word_of-over.result c.word_of-over.ensures))
    c.from-mark.result (c.from-mark.ensures ∙ ap bool_byte c.is_taken.ensures ∙ as_word _)
    c.from.result c.from.ensures
    c.put_word_of.new.d (put_in_part stack_at_lem a.work.now c.put_word_of.new.d a.i c.from.result c.put_word_of.ensures)
    _ (put_in_part marks_at_lem c.put_word_of.new.d _ a.i c.from-mark.result c.put_word_of-2.ensures)
