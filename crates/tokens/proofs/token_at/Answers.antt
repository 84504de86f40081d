-- `token_at` meets its contract: a case for each tag.
use Prim.Native.Nat.{◌+◌}
use native.Mathlib.Omega.{arith}
use lib.ListN.{length}
use borrow.Author.Tests.{le-leb, lt-leb, ne_eqb}
use Rattle.rules.specs.Tokens.{tagged, token_at}
use Rattle.tokens.proofs.token_at.Goals as goal

pub returns-then-structure-lt4 : goal.returns-then-structure-lt4
unfolding token_at
returns-then-structure-lt4 c = simp (lt-leb (c.args.at + 4) (length c.args.structure.now) (omega arith))

pub returns-in-1 : goal.returns-in-1
unfolding token_at tagged
returns-in-1 c = simp (le-leb (c.args.at + 4) (length c.args.structure.now) (omega arith), ← c.word-tag.ensures, c.in-1.is) c.begin_at.ensures

pub returns-in-2 : goal.returns-in-2
unfolding token_at tagged
returns-in-2 c = simp (le-leb (c.args.at + 4) (length c.args.structure.now) (omega arith), ← c.word-tag.ensures, c.in-2.is)

pub returns-in-3 : goal.returns-in-3
unfolding token_at tagged
returns-in-3 c = simp (le-leb (c.args.at + 4) (length c.args.structure.now) (omega arith), ← c.word-tag.ensures, c.in-3.is) c.prop_at.ensures

pub returns-in-4 : goal.returns-in-4
unfolding token_at tagged
returns-in-4 c = simp (le-leb (c.args.at + 4) (length c.args.structure.now) (omega arith), ← c.word-tag.ensures, c.in-4.is)

pub returns-in-9 : goal.returns-in-9
unfolding token_at tagged
returns-in-9 c = simp (le-leb (c.args.at + 4) (length c.args.structure.now) (omega arith), ← c.word-tag.ensures, c.in-9.is)

pub returns-in_default : goal.returns-in_default
unfolding token_at tagged
returns-in_default c =
    simp (
      le-leb (c.args.at + 4) (length c.args.structure.now) (omega arith),
      ← c.word-tag.ensures,
      ne_eqb _ _ c.in_default.in_default-own.rest.0.0.0.0.1,
      ne_eqb _ _ c.in_default.in_default-own.rest.0.0.0.1,
      ne_eqb _ _ c.in_default.in_default-own.rest.0.0.1,
      ne_eqb _ _ c.in_default.in_default-own.rest.0.1,
      ne_eqb _ _ c.in_default.in_default-own.rest.1,
    )
