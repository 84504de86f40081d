-- Two answers that say the same are the same: the meaning of an answer gives it back.
use mathlib.Core.Path.{◌≡◌, refl, sym, ap, ◌∙◌}
use Rattle.std.specs.Prelude.{Result, Ok, Err}
use Rattle.rules.specs.Octets.{Bytes}
use Rattle.rules.specs.Outcome.{Verdict, gives, refuses}
use Rattle.rules.specs.Program.{configures, excludes, names, other, line_said}
use Rattle.rules.specs.Program as program
use Rattle.request.specs.declared.Fault.{Fault}
use Rattle.request.specs.declared.Said.{Said}
use Rattle.request.specs.declared.Said.TheVariants.{Configures, Excludes, Names, Other}
use Rattle.request.specs.Answers.{meaning, said}

judged_of : Verdict → Result (Unit {0}) Fault
judged_of (gives u) = Ok u
judged_of (refuses number at) = Err (record { at = at })

judged_of_lem : (a : Result (Unit {0}) Fault) → judged_of (meaning a) ≡ a
unfolding judged_of
judged_of_lem (Ok u) = refl
judged_of_lem (Err fault) = refl

pub meaning_injective : (a c : Result (Unit {0}) Fault) → meaning a ≡ meaning c → a ≡ c
meaning_injective a c e = sym (judged_of_lem a) ∙ ap judged_of e ∙ judged_of_lem c

said_of : program.Said → Said
said_of (configures path) = Configures
said_of (excludes path) = Excludes
said_of (names id) = Names id
said_of other = Other

said_of_lem : (a : Said) (text : Bytes) → said_of (said a text) ≡ a
unfolding said_of
said_of_lem Configures text = refl
said_of_lem Excludes text = refl
said_of_lem (Names id) text = refl
said_of_lem Other text = refl

-- any two answers that the promise of `line_said` allows are equal
pub one_said : (a c : Said) (text : Bytes) → said a text ≡ line_said text → said c text ≡ line_said text → a ≡ c
one_said a c text p q = sym (said_of_lem a text) ∙ ap said_of (p ∙ sym q) ∙ said_of_lem c text
