-- 01, "The filtered copy": the derivation, its refusals 40 to 46 in their order with their places, both outputs, and the work space
-- at return.
use Rattle.std.specs.Prelude.{Bool, true, false, not, ◌&&◌, ◌||◌, List, [], ◌∷◌, map, ℕ, zero, suc, ◌+◌, min, leb, ltb, length, take, drop, if◌then◌else◌}
use Rattle.std.proofs.Math.Option.{Option, none, some}
use Rattle.rules.specs.Ceilings.{blob_ceiling, entry_ceiling, path_ceiling, work_words}
use Rattle.rules.specs.Octets.{Bytes, put, nul_in, ascii, same, begins}
use Rattle.rules.specs.Lists.{any}
use Rattle.rules.specs.Outcome.{Outcome, gives, Verdict, passes, settled, ◌then◌, first}
use Rattle.rules.specs.Blob.{missing}
use Rattle.rules.specs.Tree.{Tree, node, Frame, frame, numbers, path}
use Rattle.rules.specs.Reader.{events_read, tree_read, blob_judged, space_judged, space_of}
use Rattle.rules.specs.References.{Rules}
use Rattle.rules.specs.Listing.{listed, paths_bytes}
use Rattle.rules.specs.Copy.{Asked, cpu_child, reg_of, is_id, null, guest_bytes}

-- what is lent: two path lists, "each closed by NUL", and the CPU ids
pub record Request : Type 0 where
  pub configured : Bytes
  pub excluded : Bytes
  pub ids : List ℕ

-- ---- a path list taken apart

-- an entry: where it begins in its list, its bytes, and whether a NUL closes it
pub record Given : Type 0 where
  pub offset : ℕ
  pub path : Bytes
  pub is_closed : Bool

unfoldable pub given_from : (fuel offset : ℕ) → Bytes → List Given
given_from zero offset bs = []
given_from (suc fuel) offset [] = []
given_from (suc fuel) offset (b ∷ bs) =
    let n : ℕ = nul_in (b ∷ bs) in
    record { offset = offset; path = take n (b ∷ bs); is_closed = ltb n (length (b ∷ bs)) } ∷ given_from fuel (offset + n + 1) (drop (n + 1) (b ∷ bs))

-- An entry takes a byte at least.
unfoldable pub given : Bytes → List Given
given bs = given_from (length bs) 0 bs

-- ---- 41: "a list has over 64 entries, or a path lacks its NUL, doesn't begin with `/`, is too long"; "the earliest path at fault
-- (in a long list, the 65th) first"

unfoldable pub path_at_fault : (index : ℕ) → Given → Bool
path_at_fault index g = leb entry_ceiling index || not g.is_closed || not (begins (ascii "/") g.path) || ltb path_ceiling (length g.path)

unfoldable pub paths_judged : (index : ℕ) → List Given → Verdict
paths_judged index [] = passes
paths_judged index (g ∷ gs) = first (record { fails = path_at_fault index g; number = 41; place = g.offset } ∷ []) then paths_judged (suc index) gs

-- "in 41 configured, excluded, ids"; "64 for ids"
unfoldable pub lists_judged : Request → Verdict
lists_judged q =
    paths_judged 0 (given q.configured)
    then paths_judged 0 (given q.excluded)
    then first (record { fails = ltb entry_ceiling (length q.ids); number = 41; place = entry_ceiling } ∷ [])

-- ---- 42: "a configured path names no node or repeats"; "of a repeat the later"

-- the number of the node with this path
unfoldable pub node_among : Frame → Bytes → List ℕ → Option ℕ
node_among f p [] = none
node_among f p (i ∷ is) = elim (same (f.path i) p) [ true ↦ some i | false ↦ node_among f p is ]

abbrev pub node_at : Frame → Bytes → Option ℕ
node_at f p = node_among f p (numbers f)

unfoldable pub repeats : Bytes → List Bytes → Bool
repeats p [] = false
repeats p (s ∷ ss) = same p s || repeats p ss

-- `seen` are the paths before
unfoldable pub configured_from : Frame → (seen : List Bytes) → List Given → Verdict
configured_from f seen [] = passes
configured_from f seen (g ∷ gs) =
    first (record { fails = missing (node_at f g.path) || repeats g.path seen; number = 42; place = g.offset } ∷ [])
    then configured_from f (g.path ∷ seen) gs

unfoldable pub configured_judged : Frame → Request → Verdict
configured_judged f q = configured_from f [] (given q.configured)

-- the nodes that a list names: "An exclusion that names no node has no effect."
unfoldable pub nodes_named : Frame → List Given → List ℕ
nodes_named f [] = []
nodes_named f (g ∷ gs) = elim (node_at f g.path) [ none ↦ nodes_named f gs | some i ↦ i ∷ nodes_named f gs ]

unfoldable pub asked : Frame → Request → Asked
asked f q = record { conf = nodes_named f (given q.configured); excl = nodes_named f (given q.excluded); ids = q.ids }

-- ---- 43: "ids are given and a CPU child's `reg` is missing or not 4 or 8 bytes", at "its BEGIN token"

unfoldable pub cpus_from : Tree → List ℕ → Verdict
cpus_from t [] = passes
cpus_from t (i ∷ is) =
    first (record { fails = cpu_child (frame t) i && missing (reg_of (node t i)); number = 43; place = (node t i).place } ∷ [])
    then cpus_from t is

unfoldable pub cpus_judged : Tree → (ids : List ℕ) → Verdict
cpus_judged t ids = if null ids then passes else cpus_from t (numbers (frame t))

-- ---- 44: "an id meets no CPU child", at "its index"

unfoldable pub met : Tree → (id : ℕ) → Bool
met t id = any (λ (i : ℕ). cpu_child (frame t) i && is_id (id ∷ []) (reg_of (node t i))) (numbers (frame t))

unfoldable pub ids_from : Tree → (index : ℕ) → List ℕ → Verdict
ids_from t index [] = passes
ids_from t index (id ∷ ids) = first (record { fails = not (met t id); number = 44; place = index } ∷ []) then ids_from t (suc index) ids

-- 41 to 44, of a tree
unfoldable pub request_judged : Tree → Request → Verdict
request_judged t q = lists_judged q then configured_judged (frame t) q then cpus_judged t q.ids then ids_from t 0 q.ids

-- ---- the answer

-- the paths listed, and the two outputs
unfoldable pub listed_paths : Rules → Tree → Request → List Bytes
listed_paths r t q = map (path t) (listed r t (asked (frame t) q).conf (asked (frame t) q).excl)

unfoldable pub list_of : Rules → (host : Bytes) → Request → Bytes
list_of r host q = paths_bytes (listed_paths r (tree_read host) q)

unfoldable pub guest_of : Rules → (host : Bytes) → Request → Bytes
guest_of r host q = guest_bytes r (asked (frame (tree_read host)) q) (tree_read host) (events_read host)

-- how many paths are listed, and the bytes of list and guest
pub record Derived : Type 0 where
  pub paths : ℕ
  pub list_length : ℕ
  pub guest_length : ℕ

-- 45, 46: "list, guest longer than its room (guest room past the ceiling doesn't count)", at "bytes needed"
unfoldable pub room_judged : (listNeeded guestNeeded listRoom guestRoom : ℕ) → Verdict
room_judged listNeeded guestNeeded listRoom guestRoom =
    first
    (record { fails = ltb listRoom listNeeded; number = 45; place = listNeeded }
    ∷ record { fails = ltb (min guestRoom blob_ceiling) guestNeeded; number = 46; place = guestNeeded }
    ∷ [])

-- "Order as tabled": 40, 1 to 12, 41 to 44, 45, 46
unfoldable pub derive : Rules → (host : Bytes) → Request → (words listRoom guestRoom : ℕ) → Outcome Derived
derive r host q words listRoom guestRoom =
    space_judged words
    then blob_judged host
    then request_judged (tree_read host) q
    then room_judged (length (list_of r host q)) (length (guest_of r host q)) listRoom guestRoom
    then gives
    (record {
      paths = length (listed_paths r (tree_read host) q);
      list_length = length (list_of r host q);
      guest_length = length (guest_of r host q);
    })

-- "Both outputs are measured before either is written; bytes past their lengths stay", and a refusal leaves them as they were.
unfoldable pub derive_list : Rules → (host : Bytes) → Request → (words guestRoom : ℕ) → (list : Bytes) → Bytes
derive_list r host q words guestRoom list = settled (derive r host q words (length list) guestRoom) list (put list 0 (list_of r host q))

unfoldable pub derive_guest : Rules → (host : Bytes) → Request → (words listRoom : ℕ) → (guest : Bytes) → Bytes
derive_guest r host q words listRoom guest = settled (derive r host q words listRoom (length guest)) guest (put guest 0 (guest_of r host q))

-- "Work space: untouched by 40, else its first 16,384 words end zero and the rest stays."
unfoldable pub derive_work : (work : List ℕ) → List ℕ
derive_work work = if ltb (length work) work_words then work else space_of [] work
