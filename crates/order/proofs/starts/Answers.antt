use mathlib.Core.Path.{◌≡◌, refl, subst}
use Prim.Native.Nat.{ℕ}
use native.Mathlib.Omega.{arith}
use Rattle.rules.specs.Laws.Lent.{block_lent}
use Rattle.rules.proofs.Laws.Constants.{work_words_lem}
use Rattle.order.specs.Starts.{Placed}
use Rattle.order.proofs.Turns.{placed_start, placed_done}
use Rattle.order.proofs.starts.Goals as goal

pub returns-then-work-lt-WORK_WORDS : goal.returns-then-work-lt-WORK_WORDS
returns-then-work-lt-WORK_WORDS c = record { few = omega arith; started = λ a. absurd (omega (arith, a.kept.room, work_words_lem)) }

pub loop-i-init : goal.loop-i-init
loop-i-init c = record { few = omega arith; same = refl; placed = λ a. placed_start (block_lent c.args.block.now) c.args.work.now c.args.count c.args.conf.now a }

pub turn-n-requires : goal.turn-n-requires
turn-n-requires c = (omega arith, omega arith, c.requires, omega (arith, work_words_lem))

pub returns : goal.returns
returns c =
    let e : c.loop-i.i ≡ 0 = omega arith in
    record {
      few = omega arith;
      started = λ a.
          placed_done (block_lent c.args.block.now) c.args.work.now c.args.count c.args.conf.now a c.loop-i.n c.loop-i.work
          (subst (λ (k : ℕ). Placed (block_lent c.args.block.now) c.args.work.now c.args.count c.args.conf.now k c.loop-i.n c.loop-i.work) e (c.loop-i.invariant.placed a));
    }
