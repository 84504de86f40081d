-- `long` meets its contract.
use Rattle.std.proofs.Common.{arith, add-zero, add_assoc}
use Rattle.rules.specs.Octets.{word_at, long_at}
use Rattle.octets.proofs.long.Goals as goal

pub returns : goal.returns
unfolding word_at long_at
returns c =
    let b = c.bytes.ensures in
    let at = c.args.at in
    rw (add_assoc at 4 1, add_assoc at 4 2, add_assoc at 4 3) (omega (arith, c.from_be_bytes.ensures, rw add-zero at (b 0 (omega arith)), b 1 (omega arith), b 2 (omega arith), b 3 (omega arith), b 4 (omega arith), b 5 (omega arith), b 6 (omega arith), b 7 (omega arith)))
