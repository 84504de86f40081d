-- `words` meets its contract. The invariant: what is left, laid in from the place reached on, makes all.
use mathlib.Core.Path.{◌≡◌}
use lib.ListN.{drop}
use Rattle.rules.specs.Octets.{lay}
use Rattle.append.proofs.words.Given as goal

abbrev pub invariant-loop-word : goal.invariant-loop-word
invariant-loop-word g l = lay l.initial.data l.at (g.T.Word.bytes l.words) ≡ lay l.data l.p (g.T.Word.bytes (drop l.word-index l.words))
