-- 01, "References and the list": what is reached, and in which order it is listed. `find_all_passthrough_devices` of the source.
use Rattle.std.specs.Prelude.{◌≡◌, Bool, true, false, not, ◌&&◌, ◌||◌, ℕ, zero, suc, ◌<◌, eqb, length}
use mathlib.Core.List.{List, [], ◌∷◌, ◌++◌, reverse, Memᴰ}
use Rattle.rules.specs.Octets.{Bytes, closed}
use Rattle.rules.specs.Lists.{any, keep, sort, fresh}
use Rattle.rules.specs.Tree.{Tree, Frame, frame, numbers, below}
use Rattle.rules.specs.References.{Rules, targets}

infix 4 ◌∈◌
-- x is an element of l
abbrev pub ◌∈◌ {ℓ} : {A : Type ℓ} → A → List A → Type ℓ
◌∈◌ x l = Memᴰ x l

-- ---- what is claimed

-- "Reached: configured nodes, nodes below them, then whatever a reached node's reference properties reference."
pub data Reached (r : Rules) (t : Tree) (conf : List ℕ) : ℕ → Type 0 where
  configured : {n : ℕ} → n ∈ conf → Reached r t conf n
  under : {p n : ℕ} → p ∈ conf → n < length t → below t p n ≡ true → Reached r t conf n
  referenced : {n m : ℕ} → Reached r t conf n → m ∈ targets r t n → Reached r t conf m

-- neither excluded nor below an exclusion
abbrev pub Spared : Tree → List ℕ → ℕ → Type 0
Spared t excl x = (e : ℕ) → e ∈ excl → (x ≡ e → ⊥) × (below t e x ≡ false)

-- "Listed: reached, not the root, not excluded or below an exclusion."
abbrev pub Listed : Rules → Tree → (conf excl : List ℕ) → ℕ → Type 0
Listed r t conf excl x = (x ≡ 0 → ⊥) × Reached r t conf x × Spared t excl x

-- ---- what is computed

-- "nodes below it in byte order of path"
unfoldable pub nodes_below : Frame → ℕ → List ℕ
nodes_below f p = sort f.path (keep (f.below p) (numbers f))

-- "for each of them, new nodes": of each of cs, what `of` says that is not noted yet
unfoldable pub gather : (of : ℕ → List ℕ) (noted : List ℕ) → List ℕ → List ℕ
gather of noted [] = []
gather of noted (c ∷ cs) = let new : List ℕ = fresh noted (of c) in new ++ gather of (new ++ noted) cs

-- "configured paths as given; for each of them, new nodes below it"
unfoldable pub given_nodes : Frame → List ℕ → List ℕ
given_nodes f conf = conf ++ gather (nodes_below f) conf conf

-- "Work starts with the distinct start paths ascending"
unfoldable pub starts : Frame → List ℕ → List ℕ
starts f conf = sort f.path (given_nodes f conf)

-- "the last is taken; each new target, in property and word order, is noted and put last". The stack's head is its last entry; each
-- turn takes a node, and no node twice, so that as many turns as nodes are enough.
unfoldable pub work : (of : ℕ → List ℕ) (fuel : ℕ) (stack noted : List ℕ) → List ℕ
work of zero stack noted = []
work of (suc fuel) [] noted = []
work of (suc fuel) (n ∷ stack) noted =
    let new : List ℕ = fresh noted (of n) in
    new ++ work of fuel (reverse new ++ stack) (new ++ noted)

unfoldable pub found : (of : ℕ → List ℕ) (count : ℕ) (start : List ℕ) → List ℕ
found of count start = work of count (reverse start) start

-- "then dependencies as found"
unfoldable pub reached_list : Rules → Tree → List ℕ → List ℕ
reached_list r t conf = given_nodes (frame t) conf ++ found (targets r t) (length t) (starts (frame t) conf)

-- one of these nodes, or below one
unfoldable pub within : Frame → List ℕ → ℕ → Bool
within f nodes x = any (λ (e : ℕ). eqb x e || f.below e x) nodes

unfoldable pub listed : Rules → Tree → (conf excl : List ℕ) → List ℕ
listed r t conf excl = keep (λ (x : ℕ). not (eqb x 0) && not (within (frame t) excl x)) (reached_list r t conf)

-- "A path list, given or answered, is its paths, each closed by NUL."
unfoldable pub paths_bytes : List Bytes → Bytes
paths_bytes [] = []
paths_bytes (p ∷ ps) = closed p ++ paths_bytes ps
