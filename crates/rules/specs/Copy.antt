-- 01, "The filtered copy": which nodes are copied, and the guest. `crate_guest_fdt` of the source.
use Rattle.std.specs.Prelude.{Bool, true, false, not, ◌&&◌, ◌||◌, List, [], ◌∷◌, ℕ, suc, eqb, length, if◌then◌else◌}
use Rattle.std.proofs.Math.Option.{Option, none, some}
use Rattle.rules.specs.Octets.{Bytes, number, ascii, same, begins}
use Rattle.rules.specs.Lists.{one_of, any, keep}
use Rattle.rules.specs.Events.{Event, opens, has, closes}
use Rattle.rules.specs.Tree.{Node, Tree, node, value_of, Frame, frame, numbers, top, rest}
use Rattle.rules.specs.References.{Rules}
use Rattle.rules.specs.Listing.{within, listed}
use Rattle.rules.specs.Written.{blob_of}

-- what is asked, as nodes
pub record Asked : Type 0 where
  pub conf : List ℕ
  pub excl : List ℕ
  pub ids : List ℕ

-- ---- the CPU rule

-- `/cpus`
unfoldable pub is_cpus : Frame → ℕ → Bool
is_cpus f i = not (eqb i 0) && eqb (f.up i) 0 && same (f.name i) (ascii "cpus")

-- "each CPU child (a direct child named `cpu` or beginning `cpu@`)"
unfoldable pub cpu_child : Frame → ℕ → Bool
cpu_child f i = is_cpus f (f.up i) && (same (f.name i) (ascii "cpu") || begins (ascii "cpu@") (f.name i))

abbrev pub register_of : Option Bytes → Option ℕ
register_of none = none
register_of (some v) = if eqb (length v) 4 || eqb (length v) 8 then some (number v) else none

-- "`reg`, read as one number"; none where it "is missing or not 4 or 8 bytes"
unfoldable pub reg_of : Node → Option ℕ
reg_of n = register_of (value_of (ascii "reg") n.props)

abbrev pub is_id : List ℕ → Option ℕ → Bool
is_id ids none = false
is_id ids (some n) = one_of n ids

-- "each CPU child ... whose `reg`, read as one number, is not an id"
unfoldable pub stranger : Tree → (ids : List ℕ) → ℕ → Bool
stranger t ids i = cpu_child (frame t) i && not (is_id ids (reg_of (node t i)))

-- ---- what is copied

abbrev pub null : List ℕ → Bool
null [] = true
null (x ∷ xs) = false

-- "a listed node, an ancestor of one, or a node below one"
unfoldable pub near : Frame → List ℕ → ℕ → Bool
near f ls i = any (λ (j : ℕ). eqb i j || f.below j i || f.below i j) ls

-- "the root; `/cpus` nodes by the CPU rule only; elsewhere, ..., if itself neither excluded nor below an exclusion". CPU rule: "with
-- no ids, nothing at or below `/cpus`. Otherwise `/cpus` and all below it, save" the strangers "and all below" them.
unfoldable pub picked : Asked → Frame → (strange : ℕ → Bool) → (ls : List ℕ) → ℕ → Bool
picked q f strange ls i =
    eqb i 0
    || elim (within f (keep (is_cpus f) (numbers f)) i) [
      | true ↦ not (null q.ids) && not (within f (keep strange (numbers f)) i)
      | false ↦ near f ls i && not (within f q.excl i)
    ]

unfoldable pub copied : Rules → Asked → Tree → ℕ → Bool
copied r q t = picked q (frame t) (stranger t q.ids) (listed r t q.conf q.excl)

-- ---- the guest

-- an event, where its node is copied
abbrev pub when : Bool → Event → List Event → List Event
when true e es = e ∷ es
when false e es = es

-- "in host order with all properties": the events of the copied nodes. `stack` holds the open nodes, `next` the next number.
unfoldable pub sieve : (copied : ℕ → Bool) (stack : List ℕ) (next : ℕ) → List Event → List Event
sieve k stack next [] = []
sieve k stack next (opens place name ∷ es) = when (k next) (opens place name) (sieve k (next ∷ stack) (suc next) es)
sieve k stack next (has p ∷ es) = when (k (top stack)) (has p) (sieve k stack next es)
sieve k stack next (closes place ∷ es) = when (k (top stack)) (closes place) (sieve k (rest stack) next es)

unfoldable pub guest_events : Rules → Asked → Tree → List Event → List Event
guest_events r q t es = sieve (copied r q t) [] 0 es

-- "The guest blob is, byte for byte, what the writer leaves when started with no reservations and boot CPU 0"
unfoldable pub guest_bytes : Rules → Asked → Tree → List Event → Bytes
guest_bytes r q t es = blob_of [] 0 (guest_events r q t es)
