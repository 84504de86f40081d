-- Demand 2 of the guest: read, it is 01's filtered copy.
use Rattle.std.specs.Prelude.{◌≡◌, refl, false, List, []}
use Rattle.std.proofs.Common.{◌∙◌, arith}
use Rattle.rules.specs.Reservations.{any_invalid}
use Rattle.rules.specs.Events.{Event}
use Rattle.rules.specs.Tree.{frame}
use Rattle.rules.specs.Reader.{events_read, tree_read}
use Rattle.rules.specs.Copy.{guest_events, guest_bytes}
use Rattle.rules.specs.Derivation.{asked, guest_of}
use Rattle.rules.specs.Demands.{GuestIsCopy}
use Rattle.rules.proofs.Laws.Moved.{moved_plain, moved_parents}
use Rattle.rules.proofs.Laws.Guest.{guest_fits, guest_plain, guest_parents}
use Rattle.rules.proofs.Laws.BlobBack.{reads_back, nodes_back}

none_invalid : any_invalid [] ≡ false
unfolding any_invalid
none_invalid = refl

-- THE GUEST IS THE FILTERED COPY
pub guest_is_copy : GuestIsCopy
unfolding guest_of guest_bytes
guest_is_copy r host q g h =
    let es : List Event = guest_events r (asked (frame (tree_read host)) q) (tree_read host) (events_read host) in (
      reads_back [] 0 es none_invalid (omega arith) (guest_fits r host q g) h,
      moved_plain (nodes_back [] 0 es none_invalid (omega arith) (guest_fits r host q g) h) ∙ guest_plain r host q g,
      moved_parents (nodes_back [] 0 es none_invalid (omega arith) (guest_fits r host q g) h) ∙ guest_parents r host q g,
    )
