-- `refusal` meets its contract: five pieces, one behind the other.
use mathlib.Core.List.{◌++◌}
use Rattle.std.proofs.Common.{rules}
use Rattle.rules.specs.Octets.{ascii}
use Rattle.rules.specs.Program.{decimal, newline, printed_refusal}
use Rattle.printed.proofs.Laying.{then, front}
use Rattle.printed.proofs.refusal.Goals as goal

pub returns : goal.returns
unfolding printed_refusal ascii
returns c =
    let n = decimal c.args.number in
    let p = decimal c.args.place in
    let four = then p newline c.number-2.ensures.laid c.bytes-3.ensures.laid in
    let three = then (ascii " at ") (p ++ newline) c.bytes-2.ensures.laid four in
    let two = then n (ascii " at " ++ (p ++ newline)) c.number.ensures.laid three in
    let one = then (ascii "refused ") (n ++ (ascii " at " ++ (p ++ newline))) c.bytes.ensures.laid two in
    record { value = front (printed_refusal c.args.number c.args.place) one; out_after = search (rules, one.left) }
