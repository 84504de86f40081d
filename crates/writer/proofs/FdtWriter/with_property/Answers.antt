-- `FdtWriter::with_property` meets its contract.
use mathlib.Core.Path.{refl, sym}
use native.Mathlib.Omega.{arith}
use native.Mathlib.Nat.{add-zero}
use borrow.Author.Tests.{lt-ltb}
use Rattle.rules.specs.Ceilings.{blob_ceiling}
use Rattle.rules.proofs.Laws.Octets.{lay_nil}
use borrow.Author.Rules.{rules}
use Rattle.writer.proofs.FdtWriter.with_property.Goals as goal

pub overflow_add-self : goal.overflow_add-self
unfolding blob_ceiling
overflow_add-self c = search rules

pub returns-then-offset-self : goal.returns-then-offset-self
returns-then-offset-self c = rw (lt-ltb c.args.offset c.args.self.strings_len c.if-offset-self.true, add-zero) (record { state = refl; names = sym (lay_nil c.args.strings.now c.args.self.strings_len) })

pub overflow_add-self-3 : goal.overflow_add-self-3
unfolding blob_ceiling
overflow_add-self-3 c = omega (arith, c.requires)
