-- `bad_list` meets its contract: the last byte decides.
use mathlib.Core.Path.{◌≡◌, refl, sym, ap, ◌∙◌}
use mathlib.Core.Bool.{not}
use mathlib.Core.List.{[], ◌∷◌}
use Prim.Native.Nat.{ℕ, ◌-◌}
use native.Mathlib.Omega.{arith}
use lib.Dec.{eqb}
use lib.ListN.{length, get_or}
use Rattle.std.specs.Prelude.{Option}
use Rattle.std.specs.Option.{unwrap_or}
use Rattle.std.proofs.lemmas.Option.{unwrap_or-slice_get}
use Rattle.rules.specs.Octets.{Bytes}
use Rattle.rules.specs.Writer.{bad_list}
use Rattle.rules.proofs.Laws.Writer.{bad_none, bad_last}
use Rattle.judge.proofs.bad_list.Goals as goal

bad_end : (s : Bytes) → bad_list s ≡ not (eqb (get_or s (length s - 1) 0) 0)
bad_end [] = bad_none [] refl
bad_end (b ∷ s) = bad_last (b ∷ s) (omega arith)

pub returns : goal.returns
returns c =
    let s = c.args.s.now in
    let e : c.unwrap_or.result ≡ get_or s (length s - 1) 0 = c.unwrap_or.ensures ∙ ap (λ (o : Option ℕ). unwrap_or o 0) (c.copied.ensures ∙ c.last.ensures.value) ∙ unwrap_or-slice_get s (length s - 1) 0 in
    ap (λ (b : ℕ). not (eqb b 0)) e ∙ sym (bad_end s)
