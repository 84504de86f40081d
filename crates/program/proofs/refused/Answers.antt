-- `refused` meets its contract.
use mathlib.Core.Path.{◌≡◌, ap, ap₂, ◌∙◌}
use Prim.Native.Nat.{min}
use Rattle.std.proofs.Common.{arith, rules}
use lib.ListN.{length}
use Rattle.rules.specs.Octets.{Bytes, lay}
use Rattle.rules.specs.Program.{printed_refusal}
use Rattle.printed.specs.Text.{refusal_short}
use Rattle.program.specs.Run.{refused_text, refused_ran}
use Rattle.program.proofs.refused.Goals as goal

pub returns : goal.returns
returns c =
    let told = c.told-number.result in
    let e : printed_refusal told.number told.place ≡ refused_text c.args.refusal = ap₂ printed_refusal c.told-number.ensures.number c.told-number.ensures.place in
    record {
      value = ap refused_ran (c.refusal.ensures.value ∙ ap (λ (text : Bytes). min (length text) (length c.args.text.now)) e);
      text_after = c.refusal.ensures.out_after ∙ ap (lay c.args.text.now 0) e;
      text_short = omega (arith, ap length e, refusal_short told.number told.place (search rules) (search rules));
    }
