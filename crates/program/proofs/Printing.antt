-- The derivation's answer in print, case by case.
use mathlib.Core.Path.{◌≡◌, ap}
use Prim.Native.Nat.{ℕ, ◌+◌, ◌^◌, ◌≤◌, ◌<◌, min}
use native.Mathlib.Omega.{arith}
use lib.ListN.{length, length-take}
use Rattle.std.specs.Prelude.{Result, Ok, Err, Some}
use Rattle.rules.specs.Octets.{Bytes, part, lay}
use Rattle.printed.specs.Text.{answer_text, answer_short}
use Rattle.derive.specs.declared.Derived.{Derived}
use Rattle.derive.specs.declared.Refusal as derivation_refusal
use Rattle.program.specs.declared.Ran.{Ran}
use Rattle.program.specs.declared.Refusal.TheVariants.{Derivation}
use Rattle.program.specs.Run.{refused_text, refused_ran, text_of, ran_of}

-- an answer's text is laid into a buffer
abbrev pub Printing : Result Derived derivation_refusal.Refusal → (list was : Bytes) → Ran → (left : Bytes) → Type 0
Printing a list was ran left =
    (ran ≡ ran_of a (min (length (text_of a list)) (length was))) × (left ≡ lay was 0 (text_of a list)) × (length (text_of a list) ≤ length list + 64)

part_short : (list : Bytes) (n : ℕ) → length (part list 0 n) ≤ length list
part_short list n = omega (arith, length-take n list)

module _ (a : Result Derived derivation_refusal.Refusal) (list was left : Bytes) where
  pub print_derived : (d : Derived) → a ≡ Ok d → d.paths < 2 ^ 64 → d.guest < 2 ^ 64 → (bytes : Bytes) → bytes ≡ part list 0 d.list
      → (n : ℕ) → n ≡ min (length (answer_text d.paths bytes d.guest)) (length was) → left ≡ lay was 0 (answer_text d.paths bytes d.guest)
      → Printing a list was (record { text = n; guest = Some d.guest }) left
  print_derived d e hp hg bytes f n k m =
      rw (e, ← f) (ap (λ (i : ℕ). record { text = i; guest = Some d.guest }) k, m, omega (arith, answer_short d.paths bytes d.guest hp hg, ap length f, part_short list d.list))

  pub print_refused : (r : derivation_refusal.Refusal) → a ≡ Err r → (ran : Ran) → ran ≡ refused_ran (min (length (refused_text (Derivation r))) (length was))
      → left ≡ lay was 0 (refused_text (Derivation r)) → length (refused_text (Derivation r)) ≤ 64 → Printing a list was ran left
  print_refused r e ran k m short = rw e (k, m, omega (arith, short))
