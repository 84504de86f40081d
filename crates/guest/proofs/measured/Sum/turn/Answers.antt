-- `turn` meets its contract: a token that is not copied adds nothing.
use mathlib.Core.Path.{◌≡◌, sym, ◌∙◌}
use mathlib.Core.Bool.{true, false}
use Prim.Native.Nat.{◌+◌}
use native.Mathlib.Omega.{arith}
use lib.ListN.{take}
use Rattle.rules.specs.Ceilings.{blob_ceiling}
use Rattle.guest.specs.Walked.{marked, copies}
use Rattle.guest.specs.Measured.{names_in}
use Rattle.guest.proofs.Noted.{entered_none, entered_before, not_copied}
use Rattle.guest.proofs.measured.Sum.turn.Goals as goal

pub returns-then-not-copies : goal.returns-then-not-copies
returns-then-not-copies c =
    let e : copies (marked c.args.work.now) c.args.walk.next c.args.walk.skipped c.args.kind ≡ false = sym c.copies.ensures ∙ c.if-not-copies.true in
    (rw e (omega arith), rw (not_copied (marked c.args.work.now) c.args.walk.next c.args.walk.skipped c.args.kind e) (entered_none c.args.block.now.strings.now c.args.work.now (take c.args.self.props (names_in c.args.block.now.structure.now c.args.block.now.strings.now c.args.work.now)) c.args.self c.requires.collected))

pub overflow_add-grown : goal.overflow_add-grown
unfolding blob_ceiling
overflow_add-grown c = omega (arith, c.requires.structure_len_bound)

pub returns-in-None : goal.returns-in-None
returns-in-None c =
    let e : copies (marked c.args.work.now) c.args.walk.next c.args.walk.skipped c.args.kind ≡ true = sym c.copies.ensures ∙ c.if-not-copies.false in
    (rw e, rw (sym c.property_of.ensures ∙ c.in-None.is) (entered_before _ _ _ _ _ c.args.self _ (c.args.self.structure + c.args.extent) (entered_none c.args.block.now.strings.now c.args.work.now (take c.args.self.props (names_in c.args.block.now.structure.now c.args.block.now.strings.now c.args.work.now)) c.args.self c.requires.collected)))
