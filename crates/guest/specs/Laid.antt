-- What the copy leaves in the guest: the structure grows from where the reservations end, and the strings from where the structure
-- will end with its END.
use Rattle.std.specs.Prelude.{◌≡◌, Bool, true, false, ◌++◌, ℕ, ◌+◌, ◌≤◌, length, drop}
use Rattle.rules.specs.Octets.{Bytes, part}
use Rattle.rules.specs.Events.{Event}
use Rattle.rules.specs.Writer.{property_bytes, name_offset, name_growth}
use Rattle.rules.specs.Written.{Blocks, write_event}
use Rattle.rules.specs.declared.Kind.{Kind}
use Rattle.rules.specs.declared.Kind.TheVariants.{Begin, EndNode, Prop, Nop}
use Rattle.guest.specs.declared.Size.{Size}
use Rattle.guest.specs.declared.laid.Guest.{Guest}

-- the blocks that stand in the guest so far; `n` is where the strings begin
abbrev pub blocks_in : (n : ℕ) → Bytes → Size → Blocks
blocks_in n g done = record { structure = part g 56 done.structure; strings = part g n done.strings }

-- how long they are
abbrev pub size_of : Blocks → Size
size_of w = record { structure = length w.structure; strings = length w.strings }

-- an event, where it is copied
abbrev pub wrote : Bool → Blocks → Event → Blocks
wrote true w e = write_event w e
wrote false w e = w

-- with one property more
abbrev pub with_property : Blocks → (name value : Bytes) → Blocks
with_property w name value =
    record { structure = w.structure ++ property_bytes (name_offset name w.strings) value; strings = w.strings ++ name_growth name w.strings }

-- blocks for which there is room
pub record Fits (n : ℕ) (g : Bytes) (w : Blocks) : Type 0 where
  pub structure : 56 + length w.structure ≤ n
  pub strings : n + length w.strings ≤ length g

-- how far they have come fits
pub record Begun (n : ℕ) (g : Bytes) (done : Size) : Type 0 where
  pub structure : 56 + done.structure ≤ n
  pub strings : n + done.strings ≤ length g

-- the blocks stand in the guest, and what is behind them stays
pub record Lays (n : ℕ) (g h : Bytes) (r : Size) (w : Blocks) : Type 0 where
  pub blocks : blocks_in n h r ≡ w
  pub structure : r.structure ≡ length w.structure
  pub strings : r.strings ≡ length w.strings
  pub behind : (m : ℕ) → n + length w.strings ≤ m → drop m h ≡ drop m g
  pub size : length h ≡ length g

-- ---- the guest as the code has it: its bytes, where its strings begin, and how far its blocks have come

abbrev pub blocks_of : Guest → Blocks
blocks_of g = blocks_in g.strings_at g.bytes.now g.size

abbrev pub Begins : Guest → Type 0
Begins g = Begun g.strings_at g.bytes.now g.size

abbrev pub FitsIn : Guest → Blocks → Type 0
FitsIn g w = Fits g.strings_at g.bytes.now w

abbrev pub Laid : (g h : Guest) → Blocks → Type 0
Laid g h w = (h.strings_at ≡ g.strings_at) × Lays g.strings_at g.bytes.now h.bytes.now h.size w

-- a NOP says nothing
abbrev pub spoken : Kind → Bool
spoken (Begin len) = true
spoken EndNode = true
spoken (Prop len name value) = true
spoken Nop = false
