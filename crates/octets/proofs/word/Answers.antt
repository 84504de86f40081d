use Rattle.std.proofs.Common.{arith, add-zero}
use Rattle.rules.specs.Octets.{word_at}
use Rattle.octets.proofs.word.Goals as goal

pub returns : goal.returns
unfolding word_at
returns c =
    let b = c.bytes.ensures in
    omega (arith, c.from_be_bytes.ensures, rw add-zero at (b 0 (omega arith)), b 1 (omega arith), b 2 (omega arith), b 3 (omega arith))
