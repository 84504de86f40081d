-- `entered` meets its contract: a name met before adds nothing, a new one its length and NUL.
use mathlib.Core.Path.{refl, sym, ◌∙◌}
use native.Mathlib.Omega.{arith}
use lib.ListN.{take}
use Rattle.rules.specs.Ceilings.{blob_ceiling}
use Rattle.guest.specs.Measured.{names_in}
use Rattle.guest.proofs.Noted.{entered_known, entered_new, nul_small, string_within}
use Rattle.guest.proofs.measured.Sum.entered.Goals as goal

pub overflow_add-props : goal.overflow_add-props
unfolding blob_ceiling
overflow_add-props c = omega (arith, c.requires.structure_len_bound.2)

pub overflow_cast-place : goal.overflow_cast-place
unfolding blob_ceiling
overflow_cast-place c = omega (arith, c.requires.structure_len_bound, c.min-place.ensures)

pub overflow_add-result : goal.overflow_add-result
unfolding blob_ceiling
overflow_add-result c = omega (arith, c.requires.structure_len_bound, c.requires.structure_len_bound.2, nul_small c.args.block.now.strings.now c.args.offset c.nul-len.result c.nul-len.ensures)

pub overflow_add-result-2 : goal.overflow_add-result-2
unfolding blob_ceiling
overflow_add-result-2 c = omega (arith, c.requires.structure_len_bound, c.requires.structure_len_bound.2, nul_small c.args.block.now.strings.now c.args.offset c.nul-len.result c.nul-len.ensures)

pub returns-then-known : goal.returns-then-known
returns-then-known c = (refl, entered_known c.args.block.now.strings.now c.args.work.now (take c.args.self.props (names_in c.args.block.now.structure.now c.args.block.now.strings.now c.args.work.now)) c.args.self c.requires.collected c.args.offset (sym c.known.ensures ∙ c.if-known.true))

pub returns : goal.returns
returns c = (refl, entered_new c.args.block.now.strings.now c.args.work.now (take c.args.self.props (names_in c.args.block.now.structure.now c.args.block.now.strings.now c.args.work.now)) c.args.self c.requires.collected c.args.offset (sym c.known.ensures ∙ c.if-known.false) c.nul-len.result c.nul-len.ensures c.min-place.result (string_within c.args.block.now.strings.now c.args.offset c.min-place.result (λ h. omega (arith, c.min-place.ensures)) (λ h. omega (arith, c.min-place.ensures))) c.enter-names.result c.enter-names.new.work c.enter-names.ensures.count c.enter-names.ensures.words)
