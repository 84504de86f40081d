-- The header's judgement, test by test as the code makes them.
use mathlib.Core.Path.{◌≡◌, refl}
use mathlib.Core.Bool.{not}
use mathlib.Core.List.{[], ◌∷◌}
use lib.Dec.{eqb, ltb}
use lib.ListN.{length}
use Rattle.rules.specs.Octets.{Bytes, word_at}
use Rattle.rules.specs.Outcome.{first}
use Rattle.rules.specs.Blob.{header_in, misplaced, header_judged}
use Rattle.header.specs.Header.{mistotalled, misversioned}

pub in_order : (b : Bytes)
    → header_judged b
    ≡ first
    (record { fails = ltb (length b) 40; number = 1; place = 0 }
    ∷ record { fails = not (eqb (word_at b 0) 0xd00dfeed); number = 2; place = 0 }
    ∷ record { fails = mistotalled b; number = 3; place = 0 }
    ∷ record { fails = misversioned b; number = 4; place = 0 }
    ∷ record { fails = misplaced b; number = 5; place = 0 }
    ∷ [])
unfolding header_judged header_in mistotalled misversioned
in_order b = refl
