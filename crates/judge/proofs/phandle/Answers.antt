-- `phandle` meets its contract: its own tests, those of a property, and room in the table.
use mathlib.Core.Path.{◌≡◌, sym, ◌∙◌}
use mathlib.Core.Bool.{false}
use native.Mathlib.Omega.{arith}
use lib.Dec.{ltb}
use lib.ListN.{length, take}
use borrow.Author.Tests.{le-ltb}
use Rattle.std.proofs.lemmas.Result.{err_from_is_err_and}
use Rattle.rules.specs.Octets.{ascii}
use Rattle.rules.specs.Lists.{one_of}
use Rattle.rules.specs.Writer.{impossible, phandle_judged}
use Rattle.judge.specs.Meaning.{state_of}
use Rattle.judge.specs.Judged.{phandle_placed}
use Rattle.judge.proofs.Phandles.{phandle_not, phandle_full, phandle_at}
use Rattle.std.proofs.Common.{rules, tests}
use Rattle.judge.proofs.phandle.Goals as goal

pub returns-then-impossible : goal.returns-then-impossible
unfolding phandle_placed phandle_judged
returns-then-impossible c = search (rules, tests)

pub returns-then-phandles-n : goal.returns-then-phandles-n
unfolding phandle_placed phandle_judged
returns-then-phandles-n c = search (rules, tests)

pub returns-then-noted : goal.returns-then-noted
unfolding phandle_placed phandle_judged
returns-then-noted c = search (rules, tests)

pub returns-then-phandles-n-2 : goal.returns-then-phandles-n-2
unfolding ascii
returns-then-phandles-n-2 c =
    let t1 : impossible (state_of c.args.w) c.args.data_lent (length c.args.strings.now) ≡ false = sym c.impossible.ensures ∙ c.if-impossible.false in
    let t2 : ltb (length c.args.phandles.now) c.args.w.phandles_len ≡ false = le-ltb (length c.args.phandles.now) c.args.w.phandles_len c.if-phandles-n.false in
    let t3 : one_of c.args.val (take c.args.w.phandles_len c.args.phandles.now) ≡ false = sym c.noted.ensures ∙ c.if-noted.false in
    phandle_full (state_of c.args.w) c.args.data_lent c.args.strings.now c.args.phandles.now c.args.val t1 t2 t3 _ c.property.ensures _ c.in_ok-offset.was c.if-phandles-n-2.true

pub returns-in_err-offset : goal.returns-in_err-offset
unfolding ascii
returns-in_err-offset c =
    let t1 : impossible (state_of c.args.w) c.args.data_lent (length c.args.strings.now) ≡ false = sym c.impossible.ensures ∙ c.if-impossible.false in
    let t2 : ltb (length c.args.phandles.now) c.args.w.phandles_len ≡ false = le-ltb (length c.args.phandles.now) c.args.w.phandles_len c.if-phandles-n.false in
    let t3 : one_of c.args.val (take c.args.w.phandles_len c.args.phandles.now) ≡ false = sym c.noted.ensures ∙ c.if-noted.false in
    let p = err_from_is_err_and c.from_residual.result c.from_residual.ensures.1 in
    rw (p.1, p.2) (phandle_not (state_of c.args.w) c.args.data_lent c.args.strings.now c.args.phandles.now c.args.val t1 t2 t3 _ c.property.ensures _ c.in_err-offset.was)

pub returns : goal.returns
unfolding ascii
returns c =
    let t1 : impossible (state_of c.args.w) c.args.data_lent (length c.args.strings.now) ≡ false = sym c.impossible.ensures ∙ c.if-impossible.false in
    let t2 : ltb (length c.args.phandles.now) c.args.w.phandles_len ≡ false = le-ltb (length c.args.phandles.now) c.args.w.phandles_len c.if-phandles-n.false in
    let t3 : one_of c.args.val (take c.args.w.phandles_len c.args.phandles.now) ≡ false = sym c.noted.ensures ∙ c.if-noted.false in
    phandle_at (state_of c.args.w) c.args.data_lent c.args.strings.now c.args.phandles.now c.args.val t1 t2 t3 _ c.property.ensures _ c.in_ok-offset.was (omega (arith, c.if-phandles-n-2.false, c.if-phandles-n.false))
