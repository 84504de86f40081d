-- `line_said` meets its contract: a NUL, and then the first two bytes.
use mathlib.Core.Path.{◌≡◌, ap, ◌∙◌}
use mathlib.Core.Bool.{false}
use Rattle.std.proofs.Common.{arith, rules}
use Rattle.std.specs.Prelude.{MatchOption}
use Prim.Native.Nat.{◌-◌}
use lib.ListN.{length, drop, length-drop}
use lib.Seq.{take_all}
use borrow.Author.Tests.{lt-ltb, le-ltb}
use Rattle.rules.specs.Octets.{has_nul}
use Rattle.rules.specs.Program.{decimal_said}
use Rattle.request.specs.declared.Said.TheVariants.{Names, Other}
use Rattle.request.proofs.Entered.{said_decimal}
use Rattle.request.proofs.Spoken.{says_nul, says_short, says_other, says_c, says_x, says_i}
use Rattle.request.proofs.line_said.Goals as goal

pub returns-then-nul-text : goal.returns-then-nul-text
returns-then-nul-text c = says_nul c.args.text.now (rw (← c.nul.ensures, lt-ltb _ _ c.if-nul-text.true))

pub returns-in-99 : goal.returns-in-99
returns-in-99 c =
    let t = c.args.text.now in
    let n : has_nul t ≡ false = rw (← c.nul.ensures, le-ltb _ _ c.if-nul-text.false) in
    says_c t n (omega arith) (omega arith) (omega arith)

pub returns-in-120 : goal.returns-in-120
returns-in-120 c =
    let t = c.args.text.now in
    let n : has_nul t ≡ false = rw (← c.nul.ensures, le-ltb _ _ c.if-nul-text.false) in
    says_x t n (omega arith) (omega arith) (omega arith)

pub returns-in-105 : goal.returns-in-105
returns-in-105 c =
    let t = c.args.text.now in
    let n : has_nul t ≡ false = rw (← c.nul.ensures, le-ltb _ _ c.if-nul-text.false) in
    let h : MatchOption c.decimal.result (c.map_or.result ≡ Other) (λ id. c.map_or.result ≡ Names id) = search rules in
    said_decimal c.decimal.result c.map_or.result t h ∙ c.decimal.ensures ∙ ap decimal_said (take_all (length t - 2) (drop 2 t) (omega (arith, length-drop 2 t))) ∙ says_i t n (omega arith) (omega arith) (omega arith)

pub returns-in_default : goal.returns-in_default
returns-in_default c =
    let t = c.args.text.now in
    let n : has_nul t ≡ false = rw (← c.nul.ensures, le-ltb _ _ c.if-nul-text.false) in
    says_short t n c.in_default.len_below

pub returns-in_default-2 : goal.returns-in_default-2
returns-in_default-2 c =
    let t = c.args.text.now in
    let n : has_nul t ≡ false = rw (← c.nul.ensures, le-ltb _ _ c.if-nul-text.false) in
    says_other t n (λ p q. omega arith) (λ p q. omega arith) (λ p q. omega arith)

pub returns-in_default-3 : goal.returns-in_default-3
returns-in_default-3 c =
    let t = c.args.text.now in
    let n : has_nul t ≡ false = rw (← c.nul.ensures, le-ltb _ _ c.if-nul-text.false) in
    says_other t n (λ p q. omega arith) (λ p q. omega arith) (λ p q. omega arith)

pub returns-in_default-4 : goal.returns-in_default-4
returns-in_default-4 c =
    let t = c.args.text.now in
    let n : has_nul t ≡ false = rw (← c.nul.ensures, le-ltb _ _ c.if-nul-text.false) in
    says_other t n (λ p q. omega arith) (λ p q. omega arith) (λ p q. omega arith)

pub returns-in_default-5 : goal.returns-in_default-5
returns-in_default-5 c =
    let t = c.args.text.now in
    let n : has_nul t ≡ false = rw (← c.nul.ensures, le-ltb _ _ c.if-nul-text.false) in
    says_other t n (λ p q. omega arith) (λ p q. omega arith) (λ p q. omega arith)
