-- Lists: a test for membership, what passes a test, sorting by a key in byte order, and what is new.
use Rattle.std.specs.Prelude.{Bool, true, false, ◌&&◌, ◌||◌, List, [], ◌∷◌, ℕ, eqb}
use Rattle.rules.specs.Octets.{Bytes, before}

unfoldable pub one_of : ℕ → List ℕ → Bool
one_of b [] = false
one_of b (x ∷ xs) = eqb b x || one_of b xs

unfoldable pub every : (ℕ → Bool) → List ℕ → Bool
every f [] = true
every f (b ∷ bs) = f b && every f bs

unfoldable pub any : (ℕ → Bool) → List ℕ → Bool
any f [] = false
any f (x ∷ xs) = f x || any f xs

-- those that pass, in order
unfoldable pub keep : (ℕ → Bool) → List ℕ → List ℕ
keep f [] = []
keep f (x ∷ xs) = elim (f x) [ true ↦ x ∷ keep f xs | false ↦ keep f xs ]

-- in byte order of their keys
module _ {A : Type 0} (key : A → Bytes) where
  unfoldable pub insert : A → List A → List A
  insert x [] = x ∷ []
  insert x (y ∷ ys) = elim (before (key y) (key x)) [ true ↦ y ∷ insert x ys | false ↦ x ∷ y ∷ ys ]

  unfoldable pub sort : List A → List A
  sort [] = []
  sort (x ∷ xs) = insert x (sort xs)

-- those that are not noted yet, each once, in order
unfoldable pub fresh : (noted : List ℕ) → List ℕ → List ℕ
fresh noted [] = []
fresh noted (x ∷ xs) = elim (one_of x noted) [ true ↦ fresh noted xs | false ↦ x ∷ fresh (x ∷ noted) xs ]
