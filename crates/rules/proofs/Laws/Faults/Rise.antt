-- Places go up in token order: node by node, each with its BEGIN and then its properties. It holds of the tree of any bytes.
use Rattle.std.specs.Prelude.{List, [], ◌∷◌, length, get_or}
use Prim.Native.Nat.{ℕ, zero, suc, ◌+◌, ◌≤◌, ◌<◌}
use native.Mathlib.Omega.{arith}
use Rattle.rules.specs.Octets.{Bytes}
use Rattle.rules.specs.Blob.{Block, block_in}
use Rattle.rules.specs.Tokens.{token_at, following, tokens_from, tokens}
use Rattle.rules.specs.Events.{Property, Event, opens, has, closes, place_of, saying, events_of, events_in}
use Rattle.rules.specs.Tree.{Tree, node, rest, props_of, nodes_from, nodes_of}
use Rattle.rules.specs.Reader.{events_read, tree_read}
use Rattle.rules.specs.Exactly.{prop, HasProp, PlacesRise}
use Rattle.rules.proofs.Laws.Tokens.{Ahead, token_ahead}
use Rattle.rules.specs.declared.Token.{Token}
use Rattle.rules.specs.declared.Token.TheVariants.{Item, End, Cut}
use Rattle.rules.specs.declared.Kind.TheVariants.{Begin, EndNode, Prop, Nop}

-- ---- events

-- from `low` on, each behind the one before
abbrev Up : ℕ → List Event → Type 0
Up low [] = Unit {0}
Up low (e ∷ es) = (low ≤ place_of e) × Up (suc (place_of e)) es

up_lower : (low high : ℕ) (es : List Event) → low ≤ high → Up high es → Up low es
up_lower low high [] l u = tt
up_lower low high (e ∷ es) l u = (omega (arith, u.0), u.1)

module _ (b : Block) where
  up_token : (fuel at : ℕ) → ((to : ℕ) → Up (b.place + to) (events_of b (tokens_from fuel b.structure to))) → (k : Token) → Ahead b.structure at k
      → Up (b.place + at) (saying b at k (events_of b (following (tokens_from fuel b.structure) k)))
  unfolding events_of
  up_token fuel at ih (Item (Begin len) to) a = (omega arith, up_lower (suc (b.place + at)) (b.place + to) (events_of b (tokens_from fuel b.structure to)) (omega (arith, a.0)) (ih to))
  up_token fuel at ih (Item EndNode to) a = (omega arith, up_lower (suc (b.place + at)) (b.place + to) (events_of b (tokens_from fuel b.structure to)) (omega (arith, a.0)) (ih to))
  up_token fuel at ih (Item (Prop len name value) to) a = (omega arith, up_lower (suc (b.place + at)) (b.place + to) (events_of b (tokens_from fuel b.structure to)) (omega (arith, a.0)) (ih to))
  up_token fuel at ih (Item Nop to) a = up_lower (b.place + at) (b.place + to) (events_of b (tokens_from fuel b.structure to)) (omega (arith, a.0)) (ih to)
  up_token fuel at ih End a = tt
  up_token fuel at ih Cut a = tt

  up_from : (fuel at : ℕ) → Up (b.place + at) (events_of b (tokens_from fuel b.structure at))
  unfolding tokens_from events_of
  up_from zero at = tt
  up_from (suc fuel) at = up_token fuel at (up_from fuel) (token_at b.structure at) (token_ahead b.structure at)

  up_all : Up 0 (events_in b)
  unfolding events_in tokens
  up_all = up_lower 0 (b.place + 0) (events_of b (tokens_from (suc (length b.structure)) b.structure 0)) (omega arith) (up_from (suc (length b.structure)) 0)

-- ---- nodes

abbrev RiseProps : ℕ → List Property → Type 0
RiseProps low [] = Unit {0}
RiseProps low (p ∷ ps) = (low ≤ p.place) × RiseProps (suc p.place) ps

-- the least place behind them
abbrev behind : ℕ → List Property → ℕ
behind low [] = low
behind low (p ∷ ps) = behind (suc p.place) ps

behind_le : (low : ℕ) (ps : List Property) → RiseProps low ps → low ≤ behind low ps
behind_le low [] r = omega arith
behind_le low (p ∷ ps) r = omega (arith, r.0, behind_le (suc p.place) ps r.1)

abbrev Rise : ℕ → Tree → Type 0
Rise low [] = Unit {0}
Rise low (n ∷ ns) = (low ≤ n.place) × RiseProps (suc n.place) n.props × Rise (behind (suc n.place) n.props) ns

rise_lower : (low high : ℕ) (t : Tree) → low ≤ high → Rise high t → Rise low t
rise_lower low high [] l r = tt
rise_lower low high (n ∷ ns) l r = (omega (arith, r.0), r.1, r.2)

up_props : (low : ℕ) (es : List Event) → Up low es → RiseProps low (props_of es)
unfolding props_of
up_props low [] u = tt
up_props low (opens place name ∷ es) u = tt
up_props low (has p ∷ es) u = (u.0, up_props (suc p.place) es u.1)
up_props low (closes place ∷ es) u = tt

up_nodes : (low : ℕ) (stack : List ℕ) (next : ℕ) (es : List Event) → Up low es → Rise (behind low (props_of es)) (nodes_from stack next es)
unfolding props_of nodes_from
up_nodes low stack next [] u = tt
up_nodes low stack next (opens place name ∷ es) u =
    (u.0, up_props (suc place) es u.1, up_nodes (suc place) (next ∷ stack) (suc next) es u.1)
up_nodes low stack next (has p ∷ es) u = up_nodes (suc p.place) stack next es u.1
up_nodes low stack next (closes place ∷ es) u =
    let k = behind_le (suc place) (props_of es) (up_props (suc place) es u.1) in
    rise_lower low (behind (suc place) (props_of es)) (nodes_from (rest stack) next es) (omega (arith, u.0))
    (up_nodes (suc place) (rest stack) next es u.1)

pub Rises : Tree → Type 0
Rises t = Rise 0 t

-- THE TREE OF ANY BYTES RISES
pub read_rises : (b : Bytes) → Rises (tree_read b)
unfolding Rises tree_read events_read nodes_of
read_rises b = rise_lower 0 (behind 0 (props_of (events_in (block_in b)))) (nodes_from [] 0 (events_in (block_in b))) (omega arith) (up_nodes 0 [] 0 (events_in (block_in b)) (up_all (block_in b)))

-- ---- by numbers

abbrev at : List Property → ℕ → Property
at ps j = get_or ps j (record { place = 0; name = []; value = [] })

low_prop : (low : ℕ) (ps : List Property) → RiseProps low ps → (j : ℕ) → j < length ps → low ≤ (at ps j).place
low_prop low [] r j l = absurd (omega arith)
low_prop low (p ∷ ps) r zero l = r.0
low_prop low (p ∷ ps) r (suc j) l = omega (arith, r.0, low_prop (suc p.place) ps r.1 j (omega arith))

props_rise : (low : ℕ) (ps : List Property) → RiseProps low ps → (i j : ℕ) → i < j → j < length ps → (at ps i).place < (at ps j).place
props_rise low [] r i j g l = absurd (omega arith)
props_rise low (p ∷ ps) r i zero g l = absurd (omega arith)
props_rise low (p ∷ ps) r zero (suc j) g l = omega (arith, low_prop (suc p.place) ps r.1 j (omega arith))
props_rise low (p ∷ ps) r (suc i) (suc j) g l = props_rise (suc p.place) ps r.1 i j (omega arith) (omega arith)

prop_behind : (low : ℕ) (ps : List Property) → RiseProps low ps → (j : ℕ) → j < length ps → (at ps j).place < behind low ps
prop_behind low [] r j l = absurd (omega arith)
prop_behind low (p ∷ ps) r zero l = omega (arith, behind_le (suc p.place) ps r.1)
prop_behind low (p ∷ ps) r (suc j) l = prop_behind (suc p.place) ps r.1 j (omega arith)

low_node : (low : ℕ) (t : Tree) → Rise low t → (k : ℕ) → k < length t → low ≤ (node t k).place
low_node low [] r k l = absurd (omega arith)
low_node low (n ∷ ns) r zero l = r.0
low_node low (n ∷ ns) r (suc k) l =
    omega (arith, r.0, behind_le (suc n.place) n.props r.1, low_node (behind (suc n.place) n.props) ns r.2 k (omega arith))

rise_at : (low : ℕ) (t : Tree) → Rise low t → (k : ℕ) → k < length t → RiseProps (suc (node t k).place) (node t k).props
rise_at low [] r k l = absurd (omega arith)
rise_at low (n ∷ ns) r zero l = r.1
rise_at low (n ∷ ns) r (suc k) l = rise_at (behind (suc n.place) n.props) ns r.2 k (omega arith)

later_node : (low : ℕ) (t : Tree) → Rise low t → (i k : ℕ) → i < k → k < length t → behind (suc (node t i).place) (node t i).props ≤ (node t k).place
later_node low [] r i k g l = absurd (omega arith)
later_node low (n ∷ ns) r i zero g l = absurd (omega arith)
later_node low (n ∷ ns) r zero (suc k) g l = low_node (behind (suc n.place) n.props) ns r.2 k (omega arith)
later_node low (n ∷ ns) r (suc i) (suc k) g l = later_node (behind (suc n.place) n.props) ns r.2 i k (omega arith) (omega arith)

module _ (t : Tree) (r : Rises t) where
  -- a BEGIN stands before the properties of its node
  pub begin_prop : (n j : ℕ) → HasProp t n j → (node t n).place < (prop t n j).place
  unfolding Rises
  begin_prop n j h = low_prop (suc (node t n).place) (node t n).props (rise_at 0 t r n h.0) j h.1

  pub prop_prop : (n i j : ℕ) → i < j → HasProp t n j → (prop t n i).place < (prop t n j).place
  unfolding Rises
  prop_prop n i j g h = props_rise (suc (node t n).place) (node t n).props (rise_at 0 t r n h.0) i j g h.1

  -- and before the next
  pub begin_begin : (i k : ℕ) → i < k → k < length t → (node t i).place < (node t k).place
  unfolding Rises
  begin_begin i k g l =
      omega (arith, behind_le (suc (node t i).place) (node t i).props (rise_at 0 t r i (omega arith)), later_node 0 t r i k g l)

  pub prop_begin : (i k j : ℕ) → i < k → k < length t → j < length (node t i).props → (prop t i j).place < (node t k).place
  unfolding Rises
  prop_begin i k j g l h =
      omega (
        arith,
        prop_behind (suc (node t i).place) (node t i).props (rise_at 0 t r i (omega arith)) j h,
        later_node 0 t r i k g l,
      )

-- PLACES GO UP
pub places_rise : PlacesRise
places_rise blob =
    let t : Tree = tree_read blob in
    let r = read_rises blob in
    record {
      begins = λ i k g l. begin_begin t r i k g l;
      inside = λ n j h. begin_prop t r n j h;
      props = λ n i k g h. prop_prop t r n i k g h;
      behind = λ i j k g l h. prop_begin t r i k j g l h.1;
    }
