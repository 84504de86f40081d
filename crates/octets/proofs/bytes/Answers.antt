-- `bytes` meets its contract where fewer than N stand there: each is read by itself.
use Rattle.std.proofs.Common.{◌≡◌, ◌+◌, ◌∙◌, rules, arith, get_or-drop}
use Rattle.rules.specs.Octets.{byte_at}
use Rattle.octets.proofs.Slices.{from_fn_gives}
use Rattle.octets.proofs.bytes.Goals as goal

pub returns : goal.returns
returns g c = λ k h.
    from_fn_gives _ (λ i. byte_at c.args.s.now (c.args.at + i)) _ _ _ _
    (λ i y q w.
    let read : y ≡ byte_at c.rest-left.result.now i = search rules in
    (search rules, read ∙ rw c.rest-left.ensures (get_or-drop c.args.at c.args.s.now i 0)))
    c.from_fn.ensures.items.each k 0 (omega arith) (omega arith)
