-- Demand 1 of a refusal: outputs keep their old bytes, and the work space ends as 01 says.
use Rattle.std.specs.Prelude.{◌≡◌, List, [], ℕ, ◌+◌, length, take, drop}
use Rattle.std.proofs.Common.{sym, ap, ◌∙◌, arith, lt-ltb, le-ltb}
use Rattle.std.proofs.Math.Nat.{sub-zero}
use Rattle.rules.specs.Ceilings.{work_words}
use Rattle.rules.specs.Octets.{zeros, put}
use Rattle.rules.specs.Reader.{space_of, read_work}
use Rattle.rules.specs.Derivation.{derive_list, derive_guest, derive_work}
use Rattle.rules.specs.Demands.{OutputsKept, SpaceCleared, TableCleared}
use Rattle.rules.proofs.Laws.Octets.{take_put, drop_put, length_zeros}

pub outputs_kept : OutputsKept
unfolding derive_list derive_guest
outputs_kept r host q words list guest number place e = (rw e, rw e)

-- zeros laid into the front of a buffer
zeros_front : (d : List ℕ) (n : ℕ) → take n (put d 0 (zeros n)) ≡ zeros n
zeros_front d n =
    let e : 0 + length (zeros n) ≡ n = omega (arith, length_zeros n) in
    ap (λ (k : ℕ). take k (put d 0 (zeros n))) (sym e) ∙ take_put d 0 (zeros n) (omega arith)

zeros_behind : (d : List ℕ) (n : ℕ) → drop n (put d 0 (zeros n)) ≡ drop n d
zeros_behind d n =
    let e : 0 + length (zeros n) + 0 ≡ n = omega (arith, length_zeros n) in
    rw e at (drop_put d 0 (zeros n) 0 (omega arith))

-- the work space with no words in it
cleared_words : (work : List ℕ) → take work_words (space_of [] work) ≡ zeros work_words
unfolding space_of
cleared_words work = rw sub-zero (zeros_front work work_words)

cleared_rest : (work : List ℕ) → drop work_words (space_of [] work) ≡ drop work_words work
unfolding space_of
cleared_rest work = rw sub-zero (zeros_behind work work_words)

pub space_cleared : SpaceCleared
unfolding derive_work
space_cleared work = (λ h. rw (lt-ltb (length work) work_words h), λ h. rw (le-ltb (length work) work_words h) (cleared_words work, cleared_rest work))

pub table_cleared : TableCleared
unfolding read_work
table_cleared blob work =
    (λ h. rw (lt-ltb (length work) work_words h), λ number place h e. rw (le-ltb (length work) work_words h, e) (cleared_words work, cleared_rest work))
