-- `property_reads` meets its contract: the name is shorter than what is left where a NUL closes it.
use native.Mathlib.Omega.{arith}
use mathlib.Core.Path.{ap, ◌∙◌}
use lib.ListN.{length, drop, length-drop, length-take}
use borrow.Author.Tests.{lt-ltb, le-ltb}
use Rattle.rules.specs.Octets.{nul_in}
use Rattle.rules.specs.Events.{string_at, property_reads}
use Rattle.rules.proofs.Laws.Octets.{nul_le}
use Rattle.shape.proofs.property_reads.Goals as goal

pub returns-then-name-saturating_sub : goal.returns-then-name-saturating_sub
unfolding property_reads string_at
returns-then-name-saturating_sub c =
    let s = drop c.args.offset c.args.strings.now in
    rw (lt-ltb (nul_in s) (length s) (omega (arith, ap length c.string_at-name.ensures, length-take (nul_in s) s, length-drop c.args.offset c.args.strings.now, nul_le s)))
    (c.property_name_reads.ensures ∙ rw c.string_at-name.ensures)

pub returns-else-name-saturating_sub : goal.returns-else-name-saturating_sub
unfolding property_reads string_at
returns-else-name-saturating_sub c =
    let s = drop c.args.offset c.args.strings.now in
    rw (le-ltb (nul_in s) (length s) (omega (arith, ap length c.string_at-name.ensures, length-take (nul_in s) s, length-drop c.args.offset c.args.strings.now, nul_le s)), le-ltb _ _ c.if-name-saturating_sub.false)
