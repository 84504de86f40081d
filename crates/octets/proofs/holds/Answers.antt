use Rattle.std.proofs.Common.{ap, sym, ◌∙◌, arith}
use Rattle.rules.specs.Octets.{begins}
use Rattle.rules.proofs.Laws.Octets.{holds_here, holds_more, holds_end, take_rest}
use Rattle.octets.proofs.holds.Goals as goal

pub returns-then-begins : goal.returns-then-begins
returns-then-begins c =
    let s = c.args.s.now in
    let b = sym (c.begins.ensures ∙ ap (begins c.args.p.now) (take_rest c.loop-i.i s)) ∙ c.if-begins.true in
    sym (c.loop-i.invariant ∙ holds_here c.args.p.now s c.loop-i.i (omega arith) b)

pub loop-i-preserved : goal.loop-i-preserved
loop-i-preserved c =
    let s = c.args.s.now in
    let b = sym (c.begins.ensures ∙ ap (begins c.args.p.now) (take_rest c.loop-i.i s)) ∙ c.if-begins.false in
    c.loop-i.invariant ∙ holds_more c.args.p.now s c.loop-i.i (omega arith) b

pub returns : goal.returns
returns c = c.is_empty.ensures ∙ sym (c.loop-i.invariant ∙ holds_end c.args.p.now c.args.s.now c.loop-i.i (omega arith))
