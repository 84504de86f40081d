-- What is asked of the start nodes, and what is answered.
use Rattle.std.specs.Prelude.{◌≡◌, List, ℕ, ◌-◌, ◌<◌, length}
use Rattle.std.proofs.Common.{arith}
use Rattle.rules.specs.Octets.{lay}
use Rattle.rules.specs.Lists.{keep, sort}
use Rattle.rules.specs.Outcome.{passes}
use Rattle.rules.specs.Blob.{Block}
use Rattle.rules.specs.Tree.{Tree, frame, path, numbers_from}
use Rattle.rules.specs.Listing.{◌∈◌, starts, within}
use Rattle.rules.specs.Derivation.{Request, asked, configured_judged}
use Rattle.rules.specs.Space.{stack_at}
use Rattle.rules.specs.Laws.Lists.{Distinct}
use Rattle.rules.proofs.Laws.Formed.{conf_distinct, conf_small}
use Rattle.rules.specs.Laws.Tabled.{tree_in}
use Rattle.rules.proofs.Laws.Tabled.{tree_length}
use Rattle.rules.specs.Laws.Kept.{Kept}

-- the work space keeps an accepted tree's table, and the configured nodes are nodes of it, none twice
pub record Asked (b : Block) (ws : List ℕ) (count : ℕ) (conf : List ℕ) : Type 0 where
  pub kept : Kept b ws count
  pub small : (x : ℕ) → x ∈ conf → x < count
  pub once : Distinct conf

-- what configured paths name, where they pass
pub asked_by : (b : Block) (ws : List ℕ) (count : ℕ) (q : Request) (conf : List ℕ) → Kept b ws count → conf ≡ (asked (frame (tree_in b ws count)) q).conf
    → configured_judged (frame (tree_in b ws count)) q ≡ passes → Asked b ws count conf
asked_by b ws count q conf k e h = rw e (record {
  kept = k;
  small = λ x m. omega (arith, conf_small (frame (tree_in b ws count)) q x m, tree_length b ws count 0);
  once = conf_distinct (frame (tree_in b ws count)) q h;
})

-- n nodes l, and they stand in the work space
pub record Stands (ws l : List ℕ) (n : ℕ) (vs : List ℕ) : Type 0 where
  pub many : n ≡ length l
  pub laid : vs ≡ lay ws stack_at l

-- of the start nodes, those of number i or more
unfoldable pub starts_from : Tree → (conf : List ℕ) (count i : ℕ) → List ℕ
starts_from t conf count i = sort (path t) (keep (within (frame t) conf) (numbers_from i (count - i)))

abbrev pub Placed : Block → List ℕ → (count : ℕ) → List ℕ → (i n : ℕ) → List ℕ → Type 0
Placed b ws count conf i n vs = Stands ws (starts_from (tree_in b ws count) conf count i) n vs

abbrev pub Started : Block → List ℕ → (count : ℕ) → List ℕ → (n : ℕ) → List ℕ → Type 0
Started b ws count conf n vs = Stands ws (starts (frame (tree_in b ws count)) conf) n vs
