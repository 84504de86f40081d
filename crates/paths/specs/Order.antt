-- Byte order of paths: what the parts of the comparison promise each other.
use Rattle.std.specs.Prelude.{◌≡◌, ◌⊎◌, Bool, [], ◌∷◌, ◌++◌, ℕ, ◌≤◌, ◌<◌, ltb, length, if◌then◌else◌, Option, Some, None}
use Rattle.rules.specs.Octets.{Bytes, before}
use Rattle.rules.specs.Tree.{Tree, node, path}
use Rattle.rules.specs.Laws.Paths.{Formed, trail}
use Rattle.paths.specs.declared.order.Fork.{Fork}

-- what follows a name
abbrev pub slash : (more : Bool) → Bytes
slash more = if more then 47 ∷ [] else []

abbrev pub nearer : Tree → (i : ℕ) → ℕ
nearer t i = let q : ℕ = (node t i).parent in if ltb q i then q else 0

-- what is left of a path behind a node on its way: nothing where it is the node itself, else a slash and more
abbrev pub Behind : (c i : ℕ) → Bytes → Type 0
Behind c i x = ((c ≡ i) × (x ≡ [])) ⊎ ((c ≡ i → ⊥) × ((y : Bytes) × (x ≡ 47 ∷ y)))

-- the way down to node i from `at`, whose next node is c: `at` itself where it is i
pub record Way (t : Tree) (i at c : ℕ) : Type 0 where
  pub inside : c < length t
  pub upper : c ≤ i
  pub tail : Bytes
  pub whole : trail t i ≡ trail t c ++ tail
  pub behind : Behind c i tail
  pub next : ((c ≡ at) × (c ≡ i)) ⊎ ((at < c) × ((node t c).parent ≡ at))

-- the ways to i from a and to j from b: they have not met further down
pub record Parted (t : Tree) (i j a b left right : ℕ) : Type 0 where
  pub first : Way t i a left
  pub second : Way t j b right
  pub over : a < left → b < left
  pub under : b < right → a < right
  pub apart : a < left → b < right → left ≡ right → ⊥

-- c is the next node below `at` on a way down; where there is none, the way ends there
abbrev pub Leads : (at : ℕ) → Option ℕ → (c : ℕ) → Type 0
Leads at (Some d) c = (c ≡ d) × (at < d)
Leads at None c = c ≡ at

-- as Parted, the next nodes as a fork has them
pub record Forked (t : Tree) (i j a b : ℕ) (f : Fork) : Type 0 where
  pub left : ℕ
  pub right : ℕ
  pub parted : Parted t i j a b left right
  pub first : Leads a f.left left
  pub second : Leads b f.right right

abbrev pub Met : Tree → (count i j : ℕ) → Fork → Type 0
Met t count i j f = Formed t → i < count → j < count → (at : ℕ) × Forked t i j at at f

-- the answer is that of the paths
abbrev pub Orders : Tree → (count i j : ℕ) → Bool → Type 0
Orders t count i j r = Formed t → i < count → j < count → r ≡ before (path t i) (path t j)
