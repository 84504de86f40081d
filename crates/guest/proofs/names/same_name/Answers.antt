-- `same_name` meets its contract: the same offset has the same name.
use mathlib.Core.Path.{sym, ap, ◌∙◌}
use Prim.Native.Nat.{ℕ}
use borrow.Author.Tests.{eq-eqb}
use Rattle.rules.specs.Events.{string_at}
use Rattle.rules.proofs.Laws.Octets.{eq_same}
use Rattle.guest.proofs.names.same_name.Goals as goal

pub returns-then-a-b : goal.returns-then-a-b
returns-then-a-b c = eq-eqb _ _ c.if-a-b.true ∙ sym (eq_same _ _ (ap (λ (o : ℕ). string_at c.args.strings.now o) c.if-a-b.true))
