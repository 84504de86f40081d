-- The program's outcome where its guest may have any room, what is printed of it, and what a call answers. With the program's own
-- room they are those of rules: Program.
use Rattle.std.specs.Prelude.{◌≡◌, refl, List, ℕ, ◌+◌, ◌≤◌, min, length, take, Some, None, Result, Ok, Err}
use Rattle.std.proofs.Common.{sym, ap, ◌∙◌, zero-add, arith}
use Rattle.std.proofs.Math.Option.{none, some}
use Rattle.rules.specs.Ceilings.{program_ceiling, work_words}
use Rattle.rules.specs.Octets.{Bytes, part, put, lay}
use Rattle.rules.specs.Outcome.{Outcome, Verdict, passes, refuses, ◌then◌}
use Rattle.rules.specs.References.{Rules, edition1}
use Rattle.rules.specs.Derivation.{derive}
use Rattle.rules.specs.Derivation as derivation
use Rattle.rules.specs.Program.{input_judged, host_judged, request_in, Printed, printed, printed_refusal, program_outcome, program}
use Rattle.rules.proofs.Laws.Octets.{take_put, lay_put}
use Rattle.printed.specs.Text.{answer_text}
use Rattle.derive.specs.Answers as derived
use Rattle.derive.specs.declared.Derived.{Derived}
use Rattle.derive.specs.declared.Refusal as derivation_refusal
use Rattle.program.specs.declared.Ran.{Ran}
use Rattle.program.specs.declared.Refusal.{Refusal}
use Rattle.program.specs.declared.Refusal.TheVariants.{Input, Host, Derivation}

-- room for every text: a list, and two lines with a number each
abbrev pub text_room : ℕ
text_room = program_ceiling + 64

unfoldable pub outcome_in : Rules → (host input : Bytes) → (guestRoom : ℕ) → Outcome derivation.Derived
outcome_in r host input guestRoom =
    input_judged input then host_judged host then derive r host (request_in input) work_words program_ceiling guestRoom

unfoldable pub printed_in : Rules → (host input : Bytes) → (guestRoom : ℕ) → Printed
printed_in r host input guestRoom = printed r host input (outcome_in r host input guestRoom)

-- what is printed and written of a host and an input, where this guest is lent
abbrev pub printed_for : (host input guest : Bytes) → Printed
printed_for host input guest = printed_in edition1 host input (length guest)

-- what is answered of it, the text being laid into a buffer with this room
unfoldable pub answered : Printed → (room : ℕ) → Ran
answered p room = elim p.guest [
  | none ↦ record { text = min (length p.text) room; guest = None }
  | some g ↦ record { text = min (length p.text) room; guest = Some (length g) }
]

-- what the lent guest becomes
unfoldable pub guest_left : Printed → Bytes → Bytes
guest_left p old = elim p.guest [ none ↦ old | some g ↦ put old 0 g ]

-- ---- in the program's own rooms

-- what was laid into the front stands there
pub front : {A : Type 0} (old xs : List A) → take (length xs) (put old 0 xs) ≡ xs
front old xs = ap (λ (i : ℕ). take i (put old 0 xs)) (sym (zero-add (length xs))) ∙ take_put old 0 xs (omega arith)

pub printed_program : (r : Rules) (host input : Bytes) → printed_in r host input program_ceiling ≡ program r host input
unfolding printed_in outcome_in program program_outcome
printed_program r host input = refl

-- a text that the buffer has room for stands whole at its front
pub text_whole : (p : Printed) (old new : Bytes) → length p.text ≤ length old → new ≡ lay old 0 p.text → take (min (length p.text) (length old)) new ≡ p.text
text_whole p old new h e =
    let n : min (length p.text) (length old) ≡ length p.text = omega arith in
    rw (n, e, lay_put old 0 p.text (omega arith)) (front old p.text)

-- and so does a guest
pub guest_whole : (p : Printed) (old g : Bytes) → p.guest ≡ some g → take (length g) (guest_left p old) ≡ g
unfolding guest_left
guest_whole p old g e = rw e (front old g)

-- ---- refusals

abbrev pub number_of : Refusal → ℕ
number_of (Input fault) = 41
number_of Host = 3
number_of (Derivation r) = derived.number_of r

abbrev pub place_of : Refusal → ℕ
place_of (Input fault) = fault.at
place_of Host = 0
place_of (Derivation r) = derived.place_of r

-- the paper's number and place
abbrev pub meaning : Result (Unit {0}) Refusal → Verdict
meaning (Ok u) = passes
meaning (Err r) = refuses (number_of r) (place_of r)

-- a refusal in print, and what is told of it, the text taking n bytes
abbrev pub refused_text : Refusal → Bytes
refused_text r = printed_refusal (number_of r) (place_of r)

abbrev pub refused_ran : (n : ℕ) → Ran
refused_ran n = record { text = n; guest = None }

-- ---- the derivation's answer in print

-- the text, where the list's bytes stand at the front of `list`
abbrev pub text_of : Result Derived derivation_refusal.Refusal → (list : Bytes) → Bytes
text_of (Ok d) list = answer_text d.paths (part list 0 d.list) d.guest
text_of (Err r) list = refused_text (Derivation r)

-- what is told of it, the text taking n bytes
abbrev pub ran_of : Result Derived derivation_refusal.Refusal → (n : ℕ) → Ran
ran_of (Ok d) n = record { text = n; guest = Some d.guest }
ran_of (Err r) n = refused_ran n
