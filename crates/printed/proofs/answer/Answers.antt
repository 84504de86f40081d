-- `answer` meets its contract: seven pieces, one behind the other.
use mathlib.Core.List.{◌++◌}
use Rattle.std.proofs.Common.{rules}
use Rattle.rules.specs.Octets.{Bytes, ascii}
use Rattle.rules.specs.Program.{decimal, newline}
use Rattle.printed.specs.Text.{in_lines, answer_text}
use Rattle.printed.proofs.Laying.{then, front}
use Rattle.printed.proofs.answer.Goals as goal

pub returns : goal.returns
unfolding answer_text ascii
returns c =
    let n = decimal c.args.paths in
    let list = in_lines c.args.list.now in
    let g = decimal c.args.guest in
    let fifth : Bytes = ascii "guest " ++ (g ++ newline) in
    let six = then g newline c.number-2.ensures.laid c.bytes-4.ensures.laid in
    let five = then (ascii "guest ") (g ++ newline) c.bytes-3.ensures.laid six in
    let four = then list fifth c.lines.ensures.laid five in
    let three = then newline (list ++ fifth) c.bytes-2.ensures.laid four in
    let two = then n (newline ++ (list ++ fifth)) c.number.ensures.laid three in
    let one = then (ascii "paths ") (n ++ (newline ++ (list ++ fifth))) c.bytes.ensures.laid two in
    record { value = front (answer_text c.args.paths c.args.list.now c.args.guest) one; out_after = search (rules, one.left) }
