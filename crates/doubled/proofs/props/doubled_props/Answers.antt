-- `doubled_props` meets its contract.
use mathlib.Core.Path.{refl}
use native.Mathlib.Omega.{arith}
use Rattle.rules.specs.Ceilings.{work_words}
use Rattle.doubled.specs.Sorted.{taken}
use Rattle.doubled.proofs.Chunks.{cleared_back}
use Rattle.doubled.proofs.props.doubled_props.Goals as goal

pub returns-then-work-lt-WORK_WORDS : goal.returns-then-work-lt-WORK_WORDS
unfolding work_words
returns-then-work-lt-WORK_WORDS c = record { judged = λ h. absurd (omega arith); inside = tt; kept = λ c. refl }

pub chunks-found-requires : goal.chunks-found-requires
unfolding work_words
chunks-found-requires c = (c.requires, omega arith, c.count-all.ensures c.args.block.now.strings.now)

pub returns : goal.returns
returns c = record { judged = λ h. c.chunks-found.ensures.judged; inside = c.chunks-found.ensures.inside; kept = λ z. cleared_back c.args.work.now c.chunks-found.new.work c.clear_from.new.d (taken c.count-all.result) (omega arith) z c.chunks-found.auto.work c.chunks-found.ensures.framed (rw c.taken.ensures at c.clear_from.ensures) }
