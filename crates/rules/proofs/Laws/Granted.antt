-- What is answered was granted: host and request passed 1 to 12 and 41 to 44, and the guest is within the ceiling.
use Rattle.std.specs.Prelude.{◌≡◌, ℕ, min, ◌≤◌, length}
use Rattle.std.proofs.Common.{sym, ◌∙◌, arith, lt-ltb, le-ltb}
use Rattle.rules.specs.Ceilings.{blob_ceiling}
use Rattle.rules.specs.Outcome.{passes}
use Rattle.rules.specs.Reader.{tree_read, blob_judged, space_judged}
use Rattle.rules.specs.Derivation.{request_judged, list_of, guest_of, room_judged, derive}
use Rattle.rules.specs.Demands.{AnswerGranted}
use Rattle.rules.proofs.Laws.Tests.{by_le}
use Rattle.rules.proofs.Laws.Verdicts.{gives_refuses, then_passes}

roomy_small : (L G lr gr : ℕ) → room_judged L G lr gr ≡ passes → G ≤ blob_ceiling
unfolding room_judged
roomy_small L G lr gr e = by_le L lr
    (λ h. by_le G (min gr blob_ceiling) (λ k. omega arith) (λ k. gives_refuses tt 46 G (sym (rw (le-ltb lr L h, lt-ltb (min gr blob_ceiling) G k)) ∙ e)))
    (λ h. gives_refuses tt 45 L (sym (rw (lt-ltb lr L h)) ∙ e))

-- WHAT IS ANSWERED WAS GRANTED
pub answer_granted : AnswerGranted
unfolding derive
answer_granted r host q words lr gr d e =
    let a = then_passes (space_judged words) _ d e in
    let b = then_passes (blob_judged host) _ d a.1 in
    let k = then_passes (request_judged (tree_read host) q) _ d b.1 in
    let m = then_passes (room_judged (length (list_of r host q)) (length (guest_of r host q)) lr gr) _ d k.1 in
    (record { read = b.0; request = k.0 }, roomy_small _ _ lr gr m.0)
